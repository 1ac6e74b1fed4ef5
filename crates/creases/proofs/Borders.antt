-- The border edges, marked by their halfedges. Assumes nothing.
--     twin_kept, edge_marked                what one halfedge marks, by whether it has a twin
--     marked_none, marked_on, marked_all    and what the first ones do, from none to all
--     bad_is                                by the marks rule 15 goes
use Prim.Native.Nat.{ℕ, ◌+◌, ◌<◌}
use mathlib.Core.Path.{◌≡◌, sym, ap, ◌∙◌}
use mathlib.Core.Bool.{Bool, true, false, not, ◌&&◌, ◌||◌}
use mathlib.Core.List.{List}
use native.Mathlib.Decide.{ℕ_discrete}
use native.Mathlib.Numerals.{add-one}
use native.Mathlib.Omega.{arith}
use lib.Dec.{eqb, ltb}
use lib.ListN.{length, get_or, set, replicate, length-replicate, get_or-replicate}
use lib.Seq.{get_or-set_same, get_or-set_other}
use borrow.Author.Tests.{eq-eqb, ne_eqb}
use Rattle.laws.proofs.Tests.{or_true, or_false_right}
use Rattle.halfedges.specs.Cage.{cell, border}
use Rattle.creases.specs.Creases.{most_crease, edge_on_border, bad_crease}
use Rattle.creases.specs.Internal.Borders.{border_of, MarkedAt, MarkedTo, Marked}

-- one mark made
one : (l : List Bool) (a : ℕ) → a < length l → (x : ℕ) → get_or (set l a true) x false ≡ (get_or l x false || eqb a x)
one l a k x = by (ℕ_discrete a x)
  where
    by : Dec (a ≡ x) → get_or (set l a true) x false ≡ (get_or l x false || eqb a x)
    by (yes q) = rw (eq-eqb a x q, or_true (get_or l x false), ← q) (get_or-set_same l a true false k)
    by (no q) = rw (ne_eqb a x q, or_false_right (get_or l x false)) (get_or-set_other l a x true false (λ r. q (sym r)))

module _ (twin edge : List ℕ) where
  module _ (h : ℕ) (l : List Bool) where
    pub twin_kept : border twin h ≡ false → MarkedAt twin edge h l l
    twin_kept e = record { each = λ x _. rw e (sym (or_false_right (get_or l x false))) }

    pub edge_marked : border twin h ≡ true → cell edge h < length l → MarkedAt twin edge h l (set l (cell edge h) true)
    edge_marked e k = record { each = λ x _. rw e (one l (cell edge h) k x) }

  pub marked_none : (n : ℕ) → MarkedTo twin edge 0 (replicate n false)
  marked_none n = record { each = λ x k. get_or-replicate n x false false (rw (length-replicate n false) at k) }

  pub marked_on : {n : ℕ} {l m : List Bool} → length m ≡ length l → MarkedTo twin edge n l → MarkedAt twin edge n l m → MarkedTo twin edge (n + 1) m
  marked_on {n} long b a =
      record { each = λ x k. rw (add-one n) (a.each x (omega arith) ∙ ap (λ y. y || border_of twin edge x n) (b.each x (omega arith))) }

  pub marked_all : {n : ℕ} {l : List Bool} → n ≡ length edge → MarkedTo twin edge n l → Marked twin edge l
  unfolding edge_on_border
  marked_all e b = record { each = rw e at b.each }

  pub bad_is : {l : List Bool} → Marked twin edge l → (creases : List ℕ) (x : ℕ) → x < length l → (ltb most_crease (cell creases x) || get_or l x false && not (eqb (cell creases x) 0)) ≡ bad_crease twin edge creases x
  unfolding bad_crease
  bad_is b creases x k = rw (b.each x k)
