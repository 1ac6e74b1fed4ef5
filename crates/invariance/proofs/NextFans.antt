-- The next level's fans pass rule 7: `next_fanned`. The links at an old vertex are the old ones; the corners at an
-- edge's vertex are linked round it. Assumes nothing.
use Prim.Native.Nat.{ℕ, ◌+◌, ◌*◌, ◌<◌}
use mathlib.Core.Path.{◌≡◌, refl, sym, subst, ◌∙◌}
use mathlib.Core.Logic.{◌≢◌, ◌⊎◌, inl, inr}
use native.Mathlib.Omega.{arith}
use Rattle.halfedges.specs.Cage.{NEXT, PREV, marker}
use Rattle.tables.specs.Tables.{Tables}
use Rattle.tables.specs.Fans.{link, Joined, itself, linked, back, on}
use Rattle.tables.specs.Ruled.{Fanned}
use Rattle.halfedges.proofs.Triangle.{prev_next, prev_0, prev_1, prev_2, prev_past}
use Rattle.invariance.proofs.Rows.{Row, out, across, home, middle, row_of}
use Rattle.invariance.proofs.Refinable.{H, TWIN, VERT, EDGE, finer, Refinable, next_in, prev_in, length-twins, length_verts, vert_rows}
use Rattle.invariance.proofs.NextTwins.{out_inner, across_twin, home_inner, middle_twin}

module _ {c : Tables} {v : ℕ} (q : Refinable c v) where
  -- k and t are joined in the next level
  abbrev Next : ℕ → ℕ → Type 0
  Next = Joined (finer c v).twin

  step : {k t : ℕ} → k < 4 * H c → t < 4 * H c → link (finer c v).twin k ≡ t → Next k t
  step {k} l lt e = subst (Next k) e (linked k (rw (length-twins q) l) (rw e (omega arith)))

  old_joined : {g h : ℕ} → Joined c.twin g h → Next (3 * g) (3 * h)
  old_joined (itself h) = itself (3 * h)
  old_joined (linked h l n) = step (omega arith) (omega (arith, q.ruled.paired.below (PREV h) (prev_in q l) n)) (rw (prev_0 h) (home_inner q l n))
  old_joined (back j) = back (old_joined j)
  old_joined (on j k) = on (old_joined j) (old_joined k)

  -- round an edge's vertex: from 3h+2 to 3H+h, from there to 3p+1 with p = PREV(h), and from 3h+1 to its twin's
  home_middle : {h : ℕ} → h < H c → Next (3 * h + 2) (3 * H c + h)
  home_middle {h} l = step (omega arith) (omega arith) (rw (prev_2 h) (across_twin q l))

  middle_across : {h : ℕ} → h < H c → Next (3 * H c + h) (3 * PREV h + 1)
  middle_across {h} l = step (omega arith) (omega (arith, prev_in q l)) (rw (prev_past (H c) h) (middle_twin q (prev_in q l)))

  across_across : {h : ℕ} → h < H c → TWIN c h ≢ marker → Next (3 * h + 1) (3 * TWIN c h + 1)
  across_across {h} l n =
      let lt = next_in q (q.ruled.paired.below h l n) in
      let to-home : Next (3 * h + 1) (3 * NEXT (TWIN c h) + 2) = step (omega arith) (omega arith) (rw (prev_1 h) (out_inner q l n)) in
      on to-home (on (home_middle lt) (rw (prev_next (TWIN c h)) at (middle_across lt)))

  same_edge : {g h : ℕ} → g < H c → h < H c → EDGE c g ≡ EDGE c h → Next (3 * g + 1) (3 * h + 1)
  same_edge {g} {h} lg lh e = by (q.ruled.numbered.own g h lg lh e)
    where
      by : (g ≡ h) ⊎ (g ≡ TWIN c h) → Next (3 * g + 1) (3 * h + 1)
      by (inl i) = rw i (itself (3 * h + 1))
      by (inr i) = back (subst (λ x. Next (3 * h + 1) (3 * x + 1)) (sym i) (across_across lh (rw (← i) (omega arith))))

  -- a new halfedge leaves an old vertex and is 3h, or leaves an edge's and is joined to a 3h+1 of that edge
  data Leaves (k : ℕ) : Type 0 where
    old : {h : ℕ} → h < H c → k ≡ 3 * h → VERT (finer c v) k ≡ VERT c h → Leaves k
    added : {h : ℕ} → h < H c → Next k (3 * h + 1) → VERT (finer c v) k ≡ v + EDGE c h → Leaves k

  leaves_one : {k : ℕ} → Row (H c) k → Leaves k
  leaves_one (out l) = old l refl ((vert_rows q).out l)
  leaves_one (across {h} l) = added l (itself (3 * h + 1)) ((vert_rows q).across l)
  leaves_one (home l) = added (prev_in q l) (on (home_middle l) (middle_across l)) ((vert_rows q).home l)
  leaves_one (middle l) = added (prev_in q l) (middle_across l) ((vert_rows q).middle l)

  pub next_fanned : Fanned (finer c v).twin (finer c v).vert
  next_fanned = record { one = λ j k lj lk e. by e (leaves_one (row_of (rw (length_verts q) at lj))) (leaves_one (row_of (rw (length_verts q) at lk))) }
    where
      by : {j k : ℕ} → VERT (finer c v) j ≡ VERT (finer c v) k → Leaves j → Leaves k → Next j k
      by e (old {h = g} lg a b) (old {h = h} lh x y) =
          rw (a, x) (old_joined (q.ruled.fanned.one g h (rw q.shaped.vert_long lg) (rw q.shaped.vert_long lh) (sym b ∙ e ∙ y)))
      by e (old {h = g} lg a b) (added lh x y) = absurd (omega (arith, q.ruled.placed.below g lg))
      by e (added lg a b) (old {h = h} lh x y) = absurd (omega (arith, q.ruled.placed.below h lh))
      by e (added lg a b) (added lh x y) = on a (on (same_edge lg lh (omega arith)) (back x))
