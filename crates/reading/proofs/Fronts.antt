-- Tables that have room for any cage: none is short (`ample_told`), and what was read stands at their fronts (`ample_fronts`), with the
-- cage's creases where the lent ones were zeros (`creases_there`). Assumes nothing.
use Prim.Native.Nat.{ℕ, zero, suc, ◌+◌, ◌*◌, ◌≤◌}
use mathlib.Core.Path.{◌≡◌, refl, sym, ap, ◌∙◌}
use mathlib.Core.List.{List, ◌∷◌, ◌++◌}
use native.Mathlib.Decide.{ℕ_discrete}
use native.Mathlib.Nat.{not-suc-le-zero, le_of_suc-le-suc}
use native.Mathlib.Omega.{arith}
use lib.IntN.{ℤ}
use lib.ListN.{length, get_or, take, replicate}
use lib.Seq.{take_at}
use borrow.Author.Tests.{le-ltb}
use Rattle.laws.specs.Below.{tabulate}
use Rattle.laws.specs.Parts.{in_front}
use Rattle.laws.proofs.Parts.{length-in_front}
use Rattle.laws.proofs.Tabulate.{length-tabulate}
use Rattle.std.specs.Prelude.{Result, Ok, Err, IfOk}
use Rattle.halfedges.specs.Cage.{E, most_halfedges}
use Rattle.halfedges.specs.declared.refusal.Refusal.{Refusal}
use Rattle.halfedges.specs.Refusals.{DONE, told, given, short, first, said}
use Rattle.halfedges.proofs.Checks.{first_zero, first_more, first_refused_before}
use Rattle.tables.specs.Tables.{Tables}
use Rattle.levels.specs.Refining.{short_tables}
use Rattle.cagefile.specs.declared.fields.Form.{Form}
use Rattle.cagefile.specs.declared.fields.Form.TheVariants.{One, Two}
use Rattle.reading.specs.declared.Reading.{Reading}
use Rattle.filechecks.specs.Contents.{HIn, VIn, EIn, edges_for, form_of, table_payload, creases_for, cage_in, twins_in, verts_in, edges_in, creases_read, points_in}
use Rattle.filechecks.specs.FileChecks.{file_checks, both}
use Rattle.reading.specs.Reading.{short_room, read_verdict, read_file, numbers, reported}
use Rattle.filechecks.specs.Internal.Sound.{Sound}
use Rattle.reading.specs.Internal.Fronts.{Ample, Fronts}
use Rattle.filechecks.proofs.Sound.{checks_sound, edges_few, few_creases}
use Rattle.filechecks.proofs.Lengths.{twins-length, verts_length, edges_length, creases_length, points_length}
use Rattle.reading.proofs.Outcomes.{values_in, Left, read_done}
use Rattle.reading.proofs.Told.{weight-alike}

module _ (f : List ℕ) (lent : Tables) (lent_points : List ℤ) (lentCreases : List ℕ) (ample : Ample lent lent_points lentCreases) where
  room_passes : Sound f → first (short_room f lent lent_points lentCreases) ≡ DONE
  unfolding short_room short_tables short first given
  room_passes s =
      simp (
        le-ltb (length lent.twin) (HIn f) (omega (arith, ample.twin, s.few_halfedges)),
        le-ltb (length lent.vert) (HIn f) (omega (arith, ample.vert, s.few_halfedges)),
        le-ltb (length lent.edge) (HIn f) (omega (arith, ample.edge, s.few_halfedges)),
        le-ltb (length lent_points) (3 * VIn f) (omega (arith, ample.coordinates, s.few_vertices)),
        le-ltb (length lentCreases) (EIn f) (omega (arith, ample.creases, s.few_halfedges, few_creases f)),
      )

  ample_verdict : read_verdict f lent lent_points lentCreases ≡ first (file_checks both f)
  unfolding read_verdict
  ample_verdict = by (ℕ_discrete (first (file_checks both f)).number 0)
    where
      by : Dec ((first (file_checks both f)).number ≡ 0) → first (file_checks both f ++ short_room f lent lent_points lentCreases) ≡ first (file_checks both f)
      by (yes z) =
          let d = first_zero (file_checks both f) z in
          first_more (file_checks both f) _ d ∙ room_passes (checks_sound f both d) ∙ sym d
      by (no n) = first_refused_before (short_room f lent lent_points lentCreases) (file_checks both f) n

  module _ (now : Tables) (points : List ℤ) (creases : List ℕ) where
    pub ample_told : (x : Result Reading Refusal) → Left (read_file f lent lent_points lentCreases) (reported x) now points creases → told x ≡ first (file_checks both f)
    unfolding read_file said
    ample_told (Ok r) left = ap (λ s. s.verdict) left.0 ∙ ample_verdict
    ample_told (Err r) left = ap (λ s. s.verdict) left.0 ∙ ample_verdict

    pub ample_fronts : (r : Reading) → Left (read_file f lent lent_points lentCreases) (reported (Ok r)) now points creases → Fronts f r now points lentCreases creases
    ample_fronts r left =
        let done : DONE ≡ first (file_checks both f) = ample_told (Ok r) left in
        let all = read_done f lent lent_points lentCreases (ample_verdict ∙ sym done) in
        let values : numbers r ≡ values_in f = ap (λ s. s.values) (left.0 ∙ ap (λ a. a.answer) all) in
        let H : r.halfedges ≡ HIn f = ap (λ vs. get_or vs 1 0) values in
        let v : r.vertices ≡ VIn f = ap (λ vs. get_or vs 2 0) values in
        let e : r.edges ≡ EIn f = ap (λ vs. get_or vs 3 0) values in
        let s = checks_sound f both (sym done) in
        record {
          sound = s;
          ample =
              record {
                twin = rw (left.1, all) (length-in_front (twins_in f) _ (omega (arith, twins-length f, s.few_halfedges, ample.twin)) ∙ ample.twin);
                vert = rw (left.1, all) (length-in_front (verts_in f) _ (omega (arith, verts_length f, s.few_halfedges, ample.vert)) ∙ ample.vert);
                edge = rw (left.1, all) (length-in_front (edges_in f) _ (omega (arith, edges_length f, s.few_halfedges, ample.edge)) ∙ ample.edge);
                coordinates = rw (left.2, all) (length-in_front (points_in f) _ (omega (arith, points_length f, s.few_vertices, ample.coordinates)) ∙ ample.coordinates);
                creases = rw (left.3, all) (length-in_front (creases_read f) _ (omega (arith, creases_length f, few_creases f, s.few_halfedges, ample.creases)) ∙ ample.creases);
              };
          halfedges = H;
          vertices = v;
          edges = e;
          weight = weight-alike r.weight _ (ap (λ vs. get_or vs 4 0) values);
          twin = rw (left.1, all, H) (take_at (twins_in f) _ _ (twins-length f));
          vert = rw (left.1, all, H) (take_at (verts_in f) _ _ (verts_length f));
          edge = rw (left.1, all, H) (take_at (edges_in f) _ _ (edges_length f));
          coordinates = rw (left.2, all, v) (take_at (points_in f) _ _ (points_length f));
          creases = rw (left.3, all) refl;
        }

    -- of whichever result
    pub ample_if_ok : (x : Result Reading Refusal) → Left (read_file f lent lent_points lentCreases) (reported x) now points creases → IfOk x (λ r. Fronts f r now points lentCreases creases)
    ample_if_ok (Ok r) left = ample_fronts r left
    ample_if_ok (Err r) left = tt

take-replicate : {A : Type 0} (m n : ℕ) (x : A) → m ≤ n → take m (replicate n x) ≡ replicate m x
take-replicate zero n x l = refl
take-replicate (suc m) zero x l = absurd (not-suc-le-zero l)
take-replicate (suc m) (suc n) x l = ap (λ t. x ∷ t) (take-replicate m n x (le_of_suc-le-suc l))

-- where the lent creases were zeros, the cage's stand at their front: of form 1 as many zeros as there are edges
pub creases_there : (f : List ℕ) (r : Reading) (now : Tables) (points : List ℤ) (creases : List ℕ) → Fronts f r now points (replicate most_halfedges 0) creases → take (E (twins_in f)) creases ≡ (cage_in f).creases
unfolding cage_in creases_read
creases_there f r now points creases s = rw s.creases (by (form_of f))
  where
    few : E (twins_in f) ≤ most_halfedges
    few = omega (arith, edges_few f, s.sound.few_halfedges)

    by : (form : Form) → let read = tabulate (edges_for form (twins_in f)) (λ e. get_or f (table_payload f 3 + e) 0) in
        take (E (twins_in f)) (in_front read (replicate most_halfedges 0)) ≡ creases_for form (twins_in f) read
    by One = take-replicate (E (twins_in f)) most_halfedges 0 few
    by Two = take_at _ _ _ (length-tabulate (E (twins_in f)) _)
