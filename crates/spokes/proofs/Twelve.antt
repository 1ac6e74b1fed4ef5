-- The twelve halfedges of the four triangles of one, which come in another order than the code adds their spokes. No sum minds:
-- `group`. Assumes nothing.
use Prim.Native.Nat.{ℕ, ◌+◌, ◌*◌, ◌/◌, ◌<◌}
use mathlib.Core.Path.{◌≡◌, refl, sym, ap, ap₂, ◌∙◌}
use mathlib.Core.Bool.{cond}
use mathlib.Core.List.{List, [], ◌∷◌}
use native.Mathlib.Omega.{arith}
use lib.IntN.{ℤ, pos, ◌+ℤ◌, +ℤ_idl}
use Rattle.laws.specs.Totals.{total}
use Rattle.laws.proofs.Totals.{total-append, sum_below, added-total, take_out}
use Rattle.halfedges.specs.Cage.{PREV, cell}
use Rattle.halfedges.proofs.Triangle.{next_0, next_1, next_2, prev_0, prev_1, prev_2}
use Rattle.tables.specs.Tables.{leaves}
use Rattle.points.specs.NextPoints.{coordinate, far}
use Rattle.points.specs.Internal.Relied.{Fourfold}
use Rattle.spokes.specs.Internal.Fours.{four_of}
use Rattle.spokes.proofs.CornerAdded.{brings}

-- the twelve, as the code and as the tables have them
twelve : (a b c d e f g h i j k l : ℤ) → total (a ∷ c ∷ j ∷ h ∷ d ∷ f ∷ k ∷ b ∷ g ∷ i ∷ l ∷ e ∷ []) ≡ total (a ∷ b ∷ c ∷ d ∷ e ∷ f ∷ g ∷ h ∷ i ∷ j ∷ k ∷ l ∷ [])
twelve a b c d e f g h i j k l =
    take_out [] a (b ∷ c ∷ d ∷ e ∷ f ∷ g ∷ h ∷ i ∷ j ∷ k ∷ l ∷ []) (c ∷ j ∷ h ∷ d ∷ f ∷ k ∷ b ∷ g ∷ i ∷ l ∷ e ∷ [])
    (take_out (b ∷ []) c (d ∷ e ∷ f ∷ g ∷ h ∷ i ∷ j ∷ k ∷ l ∷ []) (j ∷ h ∷ d ∷ f ∷ k ∷ b ∷ g ∷ i ∷ l ∷ e ∷ [])
    (take_out (b ∷ d ∷ e ∷ f ∷ g ∷ h ∷ i ∷ []) j (k ∷ l ∷ []) (h ∷ d ∷ f ∷ k ∷ b ∷ g ∷ i ∷ l ∷ e ∷ [])
    (take_out (b ∷ d ∷ e ∷ f ∷ g ∷ []) h (i ∷ k ∷ l ∷ []) (d ∷ f ∷ k ∷ b ∷ g ∷ i ∷ l ∷ e ∷ [])
    (take_out (b ∷ []) d (e ∷ f ∷ g ∷ i ∷ k ∷ l ∷ []) (f ∷ k ∷ b ∷ g ∷ i ∷ l ∷ e ∷ [])
    (take_out (b ∷ e ∷ []) f (g ∷ i ∷ k ∷ l ∷ []) (k ∷ b ∷ g ∷ i ∷ l ∷ e ∷ [])
    (take_out (b ∷ e ∷ g ∷ i ∷ []) k (l ∷ []) (b ∷ g ∷ i ∷ l ∷ e ∷ [])
    (take_out [] b (e ∷ g ∷ i ∷ l ∷ []) (g ∷ i ∷ l ∷ e ∷ [])
    (take_out (e ∷ []) g (i ∷ l ∷ []) (i ∷ l ∷ e ∷ [])
    (take_out (e ∷ []) i (l ∷ []) (l ∷ e ∷ [])
    (take_out (e ∷ []) l [] (e ∷ [])
    (take_out [] e [] [] refl)))))))))))

module _ (vert : List ℕ) (before : ℕ) (four : Fourfold before vert) (points : List ℤ) (x k : ℕ) where
  -- what a spoke from y to z brings to vertex x, and what halfedge h does
  abbrev to : ℕ → ℕ → ℤ
  to = brings points x k

  abbrev pub brought : ℕ → ℤ
  brought h = cond (leaves vert x h) (coordinate points k (far vert h)) (pos 0)

  term : (h : ℕ) {i y z : ℕ} → i ≡ h → cell vert h ≡ y → far vert h ≡ z → brought i ≡ to y z
  term h q f e = ap brought q ∙ ap₂ to f e

  -- the halfedges of a triangle with corners y, z, w
  three_of : (q : ℕ) {h i j y z w : ℕ} → h ≡ 3 * q → i ≡ 3 * q + 1 → j ≡ 3 * q + 2 → cell vert (3 * q) ≡ y → cell vert (3 * q + 1) ≡ z → cell vert (3 * q + 2) ≡ w → (brought h ≡ to y z) × (brought i ≡ to z w) × (brought j ≡ to w y)
  three_of q eh ei ej ey ez ew = (
    term (3 * q) eh ey (ap (cell vert) (next_0 q) ∙ ez),
    term (3 * q + 1) ei ez (ap (cell vert) (next_1 q) ∙ ew),
    term (3 * q + 2) ej ew (ap (cell vert) (next_2 q) ∙ ey),
  )

  -- the middle triangle's halfedge that runs back along one
  middle_of : (h : ℕ) {i y z : ℕ} → h < before → i ≡ 3 * before + h → cell vert (3 * h + 2) ≡ y → cell vert (3 * h + 1) ≡ z → brought i ≡ to y z
  middle_of h l e f d = term (3 * before + h) e (four.from h l ∙ f) (four.end h l ∙ d)

  -- the third corner of a corner triangle
  third : (h : ℕ) {p i : ℕ} → h < before → PREV h ≡ p → 3 * p + 1 ≡ i → cell vert (3 * h + 2) ≡ cell vert i
  third h l q e = four.corner h l ∙ ap (λ p. cell vert (3 * p + 1)) q ∙ ap (cell vert) e

  module _ (g : ℕ) (lg : g < before / 3) where
    inside : 3 * g + 2 < before
    inside = omega (arith, four.whole)

    at_c : cell vert (3 * (3 * g) + 2) ≡ cell vert (9 * g + 7)
    at_c = third (3 * g) (omega (arith, inside)) (prev_0 g) (omega arith)

    at_a : cell vert (3 * (3 * g + 1) + 2) ≡ cell vert (9 * g + 1)
    at_a = third (3 * g + 1) (omega (arith, inside)) (prev_1 g) (omega arith)

    at_b : cell vert (3 * (3 * g + 2) + 2) ≡ cell vert (9 * g + 4)
    at_b = third (3 * g + 2) inside (prev_2 g) (omega arith)

    at : {i j : ℕ} → i ≡ j → cell vert i ≡ cell vert j
    at e = ap (cell vert) e

    abbrev u : ℕ
    u = (four_of vert g).u

    abbrev v : ℕ
    v = (four_of vert g).v

    abbrev w : ℕ
    w = (four_of vert g).w

    abbrev a : ℕ
    a = (four_of vert g).a

    abbrev b : ℕ
    b = (four_of vert g).b

    abbrev c : ℕ
    c = (four_of vert g).c

    nine : sum_below 9 (λ j. brought (9 * g + j)) ≡ total (to u a ∷ to a c ∷ to c u ∷ to v b ∷ to b a ∷ to a v ∷ to w c ∷ to c b ∷ to b w ∷ [])
    nine =
        added-total (pos 0) (brought (9 * g + 0) ∷ brought (9 * g + 1) ∷ brought (9 * g + 2) ∷ brought (9 * g + 3) ∷ brought (9 * g + 4) ∷ brought (9 * g + 5) ∷ brought (9 * g + 6) ∷ brought (9 * g + 7) ∷ brought (9 * g + 8) ∷ [])
        ∙ +ℤ_idl _
        ∙ same
      where
        one : (brought (9 * g + 0) ≡ to u a) × (brought (9 * g + 1) ≡ to a c) × (brought (9 * g + 2) ≡ to c u)
        one = three_of (3 * g) (omega arith) (omega arith) (omega arith) (at (omega arith)) (at (omega arith)) at_c

        two : (brought (9 * g + 3) ≡ to v b) × (brought (9 * g + 4) ≡ to b a) × (brought (9 * g + 5) ≡ to a v)
        two = three_of (3 * g + 1) (omega arith) (omega arith) (omega arith) (at (omega arith)) (at (omega arith)) at_a

        last : (brought (9 * g + 6) ≡ to w c) × (brought (9 * g + 7) ≡ to c b) × (brought (9 * g + 8) ≡ to b w)
        last = three_of (3 * g + 2) (omega arith) (omega arith) (omega arith) (at (omega arith)) (at (omega arith)) at_b

        same : total (brought (9 * g + 0) ∷ brought (9 * g + 1) ∷ brought (9 * g + 2) ∷ brought (9 * g + 3) ∷ brought (9 * g + 4) ∷ brought (9 * g + 5) ∷ brought (9 * g + 6) ∷ brought (9 * g + 7) ∷ brought (9 * g + 8) ∷ []) ≡ total (to u a ∷ to a c ∷ to c u ∷ to v b ∷ to b a ∷ to a v ∷ to w c ∷ to c b ∷ to b w ∷ [])
        same = cc (one.0, one.1, one.2, two.0, two.1, two.2, last.0, last.1, last.2)

    middle : sum_below 3 (λ j. brought (3 * before + (3 * g + j))) ≡ total (to c a ∷ to a b ∷ to b c ∷ [])
    middle =
        added-total (pos 0) (brought (3 * before + (3 * g + 0)) ∷ brought (3 * before + (3 * g + 1)) ∷ brought (3 * before + (3 * g + 2)) ∷ [])
        ∙ +ℤ_idl _
        ∙ same
      where
        one : brought (3 * before + (3 * g + 0)) ≡ to c a
        one = middle_of (3 * g) (omega (arith, inside)) (omega arith) at_c (at (omega arith))

        two : brought (3 * before + (3 * g + 1)) ≡ to a b
        two = middle_of (3 * g + 1) (omega (arith, inside)) refl at_a (at (omega arith))

        last : brought (3 * before + (3 * g + 2)) ≡ to b c
        last = middle_of (3 * g + 2) inside refl at_b (at (omega arith))

        same : total (brought (3 * before + (3 * g + 0)) ∷ brought (3 * before + (3 * g + 1)) ∷ brought (3 * before + (3 * g + 2)) ∷ []) ≡ total (to c a ∷ to a b ∷ to b c ∷ [])
        same = cc (one, two, last)

    -- all twelve, in the code's order
    abbrev pub twelve_spokes : List ℤ
    twelve_spokes = to u a ∷ to c u ∷ to c a ∷ to c b ∷ to v b ∷ to a v ∷ to a b ∷ to a c ∷ to w c ∷ to b w ∷ to b c ∷ to b a ∷ []

    pub group : sum_below 9 (λ j. brought (9 * g + j)) +ℤ sum_below 3 (λ j. brought (3 * before + (3 * g + j))) ≡ total twelve_spokes
    group =
        ap₂ ◌+ℤ◌ nine middle
        ∙ sym (total-append (to u a ∷ to a c ∷ to c u ∷ to v b ∷ to b a ∷ to a v ∷ to w c ∷ to c b ∷ to b w ∷ []) (to c a ∷ to a b ∷ to b c ∷ []))
        ∙ sym (twelve (to u a) (to a c) (to c u) (to v b) (to b a) (to a v) (to w c) (to c b) (to b w) (to c a) (to a b) (to b c))
