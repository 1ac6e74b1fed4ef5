-- The opening of each outcome, by what the check of the file answered. Assumes nothing.
--     head-opening                      the opening for an accepted cage
--     file_small                        the counts of a file that is accepted
--     accepted_opens, accepted_within   the opening for a file that is accepted
--     refused_opens, refused_within     and for one that is refused
use Prim.Native.Nat.{ℕ, ◌*◌, ◌≤◌}
use Rattle.std.specs.Prelude.{Ok, Err}
use mathlib.Core.Path.{◌≡◌, refl, sym, ap, ◌∙◌}
use mathlib.Core.Logic.{◌≢◌}
use mathlib.Core.List.{List}
use native.Mathlib.Omega.{arith}
use lib.IntN.{ℤ}
use lib.ListN.{length, get_or}
use borrow.Author.Tests.{eq-eqb, ne_eqb}
use Rattle.laws.specs.Parts.{in_front}
use Rattle.halfedges.specs.Cage.{most_halfedges, most_vertices, F}
use Rattle.halfedges.specs.declared.refusal.Refusal.{Refusal}
use Rattle.halfedges.specs.Refusals.{refused as refused_as}
use Rattle.halfedges.proofs.Told.{refused_number}
use Rattle.tables.specs.declared.check.Checked.{Checked}
use Rattle.tables.specs.Check.{returned, checked}
use Rattle.filechecks.specs.Contents.{cage_in}
use Rattle.filechecks.proofs.Lengths.{twins-length, verts_length, points_length}
use Rattle.text.specs.declared.replies.Status.TheVariants.{Answered}
use Rattle.text.specs.declared.replies.Written.{Written}
use Rattle.text.specs.Replies.{Reply, refused, status_number}
use Rattle.text.specs.Internal.Put.{Replied}
use Rattle.cagefile.proofs.Fits.{Fits}
use Rattle.writing.proofs.Accepted.{accepted_fits}
use Rattle.intake.specs.Intake.{check_file}
use Rattle.intake.specs.Internal.Steps.{Taken}
use Rattle.intake.proofs.Outcomes.{plain-accepted, reply_refused, reply_answered, accepts, accepted_values, accepted_H, accepted_V}
use Rattle.stl.specs.File.{stl_head}
use Rattle.stl.proofs.FacetLaws.{head-length}
use Rattle.exporter.specs.declared.exporting.Opened.{Opened}
use Rattle.exporter.specs.Exporting.{level_stl, corners_out, places_out, opening, Opens}
use Rattle.exporter.specs.Internal.Steps.{Small, Opening, Within}

-- ---- a checked cage

pub head-opening : (c : Checked) {before after : List ℕ} → after ≡ in_front (stl_head c.triangles) before
    → Opening c before after (record { status = Answered; length = 84; halfedges = c.halfedges; coordinates = 3 * c.vertices })
head-opening c p =
    record { status = refl; text = p; ends = sym (head-length c.triangles); short = omega arith; halfedges = refl; coordinates = refl }

-- ---- a file that is accepted

module _ (f : List ℕ) (c : Checked) (e : checked (Ok c) ≡ check_file f) where
  fits : Fits (cage_in f).connectivity (cage_in f).points
  fits = accepted_fits (cage_in f).connectivity (cage_in f).points (plain-accepted f (accepts f c e))

  F_is : c.triangles ≡ F (length (cage_in f).connectivity.vert)
  unfolding returned cage_in
  F_is = ap (λ s. get_or s.values 2 0) (accepted_values f c e) ∙ ap F (twins-length f ∙ sym (verts_length f))

  pub file_small : Small c
  unfolding cage_in
  file_small =
      record {
        few_halfedges = omega (arith, accepted_H f c e, twins-length f, fits.few_halfedges);
        few_vertices = omega (arith, accepted_V f c e, points_length f, fits.few_vertices);
        few_triangles = omega (arith, F_is, verts_length f, twins-length f, fits.few_halfedges);
      }

  module _ {before after vert : List ℕ} {points : List ℤ} {r : Opened} (o : Opening c before after r) where
    pub accepted_opens : Taken f c vert points → Opens f before after vert points (Ok r)
    unfolding opening corners_out places_out
    accepted_opens t =
        let there = eq-eqb (check_file f).verdict.number 0 (accepts f c e) in
        let head : stl_head c.triangles ≡ opening f = rw (there, F_is) in
        record {
          status = ap status_number o.status ∙ ap (λ a. a.status) (reply_answered f level_stl (accepts f c e));
          answered = o.status;
          text = o.text ∙ ap (λ b. in_front b before) head;
          ends = o.ends ∙ ap length head;
          corners = rw (there, o.halfedges) t.corners;
          places = rw (there, o.coordinates) t.places;
        }

    pub accepted_within : 1024 ≤ length after → length vert ≡ most_halfedges → length points ≡ 3 * most_vertices → Within (Ok r) after vert points
    accepted_within l h v =
        record {
          text = omega (arith, o.short);
          corners = rw (o.halfedges, h) file_small.few_halfedges;
          places = rw (o.coordinates, v) (omega (arith, file_small.few_vertices));
        }

-- ---- a file that is refused

module _ {before after vert : List ℕ} {points : List ℤ} {w : Written} where
  pub refused_opens : (f : List ℕ) (q : Refusal) → checked (Err q) ≡ check_file f → Replied before 50 (refused (refused_as q)) after w → Opens f before after vert points (Err w)
  unfolding opening corners_out places_out refused
  refused_opens f q e p =
      let m : (check_file f).verdict.number ≢ 0 = λ z. refused_number q (ap (λ s. s.verdict.number) e ∙ z) in
      let there = ne_eqb (check_file f).verdict.number 0 m in
      let line : (refused (refused_as q)).text ≡ opening f = rw (there, ← e) in
      record {
        status = p.status ∙ ap (λ a. a.status) (reply_refused f level_stl m);
        answered = tt;
        text = p.put.bytes ∙ ap (λ b. in_front b before) line;
        ends = omega (arith, p.put.ends, ap length line);
        corners = rw there;
        places = rw there;
      }

  pub refused_within : {r : Reply} → Replied before 50 r after w → 1024 ≤ length after → Within (Err w) after vert points
  refused_within p l =
      record { text = omega (arith, p.put.ends, p.put.short); corners = omega arith; places = omega arith }
