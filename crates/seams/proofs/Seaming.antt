-- The fifth pass, one halfedge at a time. Assumes nothing.
--     end_few, end_two, end_more             the three ways of a vertex
--     seam_drawn, seam_none                  the two ways of a halfedge
--     changed, vertex_hit, vertex_miss       what an inner crease leaves in the cells of a vertex
--     edge_hit, edge_miss                    and of an edge
--     draw_only, seam_only                   the cells that a halfedge can change
--     corner_read, asks_seam, drawn_at       what is read of a halfedge
--     seamed_on, seam_on                     a turn of the loop, wherever the level's points stand
use Prim.Native.Nat.{ℕ, ◌+◌, ◌*◌, ◌≤◌, ◌<◌}
use mathlib.Core.Path.{◌≡◌, refl, sym, ap, ◌∙◌, subst}
use mathlib.Core.Logic.{◌≢◌}
use mathlib.Core.Bool.{true, false, cond}
use mathlib.Core.List.{List}
use native.Mathlib.Nat.{le_refl}
use native.Mathlib.Omega.{arith}
use lib.Dec.{eqb, ltb}
use lib.IntN.{ℤ}
use lib.ListN.{length}
use borrow.Author.Tests.{eq-eqb, ne_eqb, lt-ltb, le-ltb}
use Rattle.laws.specs.Internal.Steps.{steps}
use Rattle.laws.proofs.Steps.{steps_on}
use Rattle.laws.proofs.Tests.{by-test}
use Rattle.laws.proofs.Cases.{cond_keeps}
use Rattle.halfedges.specs.Cage.{NEXT, cell}
use Rattle.halfedges.proofs.Triangle.{next_below}
use Rattle.points.specs.NextPoints.{point_of}
use Rattle.points.specs.Internal.Relied.{Cornered}
use Rattle.points.specs.Internal.Creased.{known_creases}
use Rattle.points.specs.Internal.Cells.{value, put, Near}
use Rattle.points.specs.Internal.Parts.{met}
use Rattle.points.proofs.Only.{Only, only_none, only_on, only_wider, only_take, only_steps, put_only, put_hit}
use Rattle.points.proofs.Holding.{Holds, holds_on}
use Rattle.edgepoints.specs.declared.edges.Corner.{Corner}
use Rattle.edgepoints.specs.Internal.Edges.{middle, meeting, meet, corner_of}
use Rattle.edgepoints.proofs.Writes.{meet_only, corner_same, corner_near}
use Rattle.seams.specs.Internal.Seams.{sharp_at, stay, draw_end, draw_seam, AsksSeam, draw_at, seam, Seamed}

-- what becomes of a vertex at x with so many creases, whose cell holds `now`, by one of them to a neighbour at y
abbrev pub changed : ℕ → ℤ → ℤ → ℤ → ℤ
changed creases now x y = cond (ltb creases 2) now (cond (eqb creases 2) (met now x y) x)

module _ (n creases : ℕ) (a b : Corner) (l : List ℤ) where
  pub end_few : creases < 2 → draw_end n creases a b l ≡ l
  unfolding draw_end
  end_few f = rw (lt-ltb creases 2 f)

  pub end_two : creases ≡ 2 → draw_end n creases a b l ≡ meet n a b l
  unfolding draw_end
  end_two e = rw (le-ltb creases 2 (omega arith), eq-eqb creases 2 e)

  pub end_more : 2 < creases → draw_end n creases a b l ≡ stay n a l
  unfolding draw_end
  end_more f = rw (le-ltb creases 2 (omega arith), ne_eqb creases 2 (λ e. omega arith))

  abbrev to : ℕ
  to = 3 * n + 3 * a.vertex

  end_only : Only to (to + 3) l (draw_end n creases a b l)
  unfolding draw_end stay
  end_only =
      cond_keeps (Only to (to + 3) l) (ltb creases 2) (λ _. only_none to (to + 3) l)
      (λ _. cond_keeps (Only to (to + 3) l) (eqb creases 2) (λ _. meet_only n a b l) (λ _. put_only to (value a.point) l))

  end_hit : to + 2 < length l → (k : ℕ) → k < 3 → value (draw_end n creases a b l) (to + k) ≡ changed creases (value l (to + k)) (value a.point k) (value b.point k)
  unfolding draw_end stay meet
  end_hit room k lk =
      by-test (ltb creases 2) (λ e. rw e)
      (λ f. rw f (by-test (eqb creases 2) (λ e. rw e (put_hit to (meeting a b l to) l room k lk)) (λ e. rw e (put_hit to (value a.point) l room k lk))))

-- an inner crease from a to b
module _ (n e creases : ℕ) (a b : Corner) (l : List ℤ) (in_from : a.vertex < n) where
  abbrev edge_to : ℕ
  edge_to = 6 * n + 3 * e

  abbrev mid : List ℤ
  mid = put edge_to (middle a b) l

  mid_only : Only edge_to (edge_to + 3) l mid
  mid_only = put_only edge_to (middle a b) l

  draw_only : (end : ℕ) → edge_to + 3 ≤ end → Only (3 * n) end l (draw_seam n e creases a b l)
  unfolding draw_seam
  draw_only end fits =
      only_on (only_wider (3 * n) end (omega arith) fits mid_only) (only_wider (3 * n) end (omega arith) (omega arith) (end_only n creases a b mid))

  module _ (room : edge_to + 2 < length l) (k : ℕ) (lk : k < 3) where
    pub edge_hit : value (draw_seam n e creases a b l) (6 * n + 3 * e + k) ≡ middle a b k
    unfolding draw_seam
    edge_hit = (end_only n creases a b mid).other (6 * n + 3 * e + k) (λ x y. omega arith) ∙ put_hit edge_to (middle a b) l room k lk

    pub vertex_hit : value (draw_seam n e creases a b l) (3 * n + 3 * a.vertex + k) ≡ changed creases (value l (3 * n + 3 * a.vertex + k)) (value a.point k) (value b.point k)
    unfolding draw_seam
    vertex_hit =
        end_hit n creases a b mid (rw mid_only.long (omega arith)) k lk
        ∙ ap (λ z. changed creases z (value a.point k) (value b.point k)) (mid_only.other (3 * n + 3 * a.vertex + k) (λ x y. omega arith))

  module _ (k : ℕ) (lk : k < 3) where
    pub edge_miss : (i : ℕ) → i ≢ e → value (draw_seam n e creases a b l) (6 * n + 3 * i + k) ≡ value l (6 * n + 3 * i + k)
    unfolding draw_seam
    edge_miss i d =
        (end_only n creases a b mid).other (6 * n + 3 * i + k) (λ x y. omega arith) ∙ mid_only.other (6 * n + 3 * i + k) (λ x y. d (omega arith))

    pub vertex_miss : (v : ℕ) → v < n → a.vertex ≢ v → value (draw_seam n e creases a b l) (3 * n + 3 * v + k) ≡ value l (3 * n + 3 * v + k)
    unfolding draw_seam
    vertex_miss v lv d =
        (end_only n creases a b mid).other (3 * n + 3 * v + k) (λ x y. d (omega arith)) ∙ mid_only.other (3 * n + 3 * v + k) (λ x y. omega arith)

-- halfedge h
module _ (creases : List ℕ) (level : ℕ) (counts vert edge : List ℕ) (n : ℕ) (points : List ℤ) (h : ℕ) (l : List ℤ) where
  pub seam_drawn : sharp_at creases level (cell edge h) ≡ true → seam creases level counts vert edge n points h l ≡ draw_at counts vert edge n points h l
  unfolding seam
  seam_drawn t = rw t

  pub seam_none : sharp_at creases level (cell edge h) ≡ false → seam creases level counts vert edge n points h l ≡ l
  unfolding seam
  seam_none t = rw t

  pub seam_only : (end : ℕ) → Cornered vert n → h < length vert → 6 * n + 3 * cell edge h + 3 ≤ end → Only (3 * n) end l (seam creases level counts vert edge n points h l)
  unfolding seam draw_at
  seam_only end cornered b fits =
      cond_keeps (Only (3 * n) end l) (sharp_at creases level (cell edge h))
      (λ _. draw_only n (cell edge h) (known_creases counts (cell vert h)) (corner_of vert points h) (corner_of vert points (NEXT h)) l (cornered.below h b) end fits)
      (λ _. only_none (3 * n) end l)

-- a level that is ready
module _ {vert edge : List ℕ} {n : ℕ} {l : List ℤ} (seamed : Seamed vert edge n l) (h : ℕ) (b : h < length vert) where
  pub corner_read : (i : ℕ) → i < length vert → (3 * cell vert i + 2 < length l) × Near (point_of l (cell vert i))
  corner_read = let room = seamed.room h b in corner_near l seamed.cornered (omega arith) seamed.in_range

  module _ {x y : Corner} (from : x ≡ corner_of vert l h) (end : y ≡ corner_of vert l (NEXT h)) where
    pub asks_seam : AsksSeam n (cell edge h) x y l
    asks_seam =
        record {
          in_from = subst (λ x. x.vertex < n) (sym from) (seamed.cornered.below h b);
          room = seamed.room h b;
          near = subst (λ x. Near x.point) (sym from) (corner_read h b).1;
          neighbour_near = subst (λ x. Near x.point) (sym end) (corner_read (NEXT h) (next_below seamed.cornered.whole b)).1;
        }

    pub drawn_at : (counts : List ℕ) {creases : ℕ} {m : List ℤ} → creases ≡ known_creases counts x.vertex → m ≡ draw_seam n (cell edge h) creases x y l → m ≡ draw_at counts vert edge n l h l
    unfolding draw_at
    drawn_at counts k d = d ∙ (λ i. draw_seam n (cell edge h) ((k ∙ ap (λ x. known_creases counts x.vertex) from) i) (from i) (end i) l)

-- the loop over the halfedges
module _ (creases : List ℕ) (level : ℕ) (counts vert edge : List ℕ) (n : ℕ) (l : List ℤ) (seamed : Seamed vert edge n l) where
  abbrev step : ℕ → List ℤ → List ℤ
  step = seam creases level counts vert edge n l

  after_only : (i : ℕ) → i ≤ length vert → Only (3 * n) (length l) l (steps i step l)
  after_only =
      only_steps (3 * n) (length l) (length vert) step l
      (λ h b m _. let room = seamed.room h b in seam_only creases level counts vert edge n l h m (length l) seamed.cornered b (omega arith))

  module _ (h : ℕ) (b : h < length vert) {now : List ℤ} (e : now ≡ steps h step l) where
    only_now : Only (3 * n) (length l) l now
    only_now = rw e (after_only h (omega arith))

    pub seamed_on : Seamed vert edge n now
    seamed_on =
        let room = seamed.room h b in
        record {
          cornered = seamed.cornered;
          edge_long = seamed.edge_long;
          short = seamed.short;
          room = λ i c. rw only_now.long (seamed.room i c);
          in_range = rw (only_take (3 * n) (le_refl _) (omega arith) only_now) seamed.in_range;
        }

    pub seam_on : {next : List ℤ} → next ≡ seam creases level counts vert edge n now h now → next ≡ steps (h + 1) step l
    unfolding seam draw_at
    seam_on d =
        let held : Holds n l now = holds_on (le_refl _) (record { same = λ _ _ _ _. refl }) only_now in
        let same = corner_same seamed.cornered held in
        steps_on step l h e
        (d
        ∙ (λ i. cond (sharp_at creases level (cell edge h)) (draw_seam n (cell edge h) (known_creases counts (cell vert h)) (same h b i) (same (NEXT h) (next_below seamed.cornered.whole b) i) now) now))
