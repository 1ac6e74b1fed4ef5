-- A table whose next level is filled in a triangle at a time, nine cells together and three apart: where that starts
-- (`going_start`), one triangle more (`going_on`), and what stands there in the end (`going_done`). Assumes nothing.
use Prim.Native.Nat.{ℕ, ◌+◌, ◌-◌, ◌*◌, ◌≤◌, ◌<◌}
use mathlib.Core.Path.{◌≡◌, refl, sym, ap, ◌∙◌}
use mathlib.Core.Logic.{◌≢◌}
use mathlib.Core.List.{List, ◌++◌}
use native.Mathlib.Decide.{dec_lt, ℕ_discrete}
use native.Mathlib.Nat.{zero-add}
use native.Mathlib.Omega.{arith}
use lib.ListN.{length, take, drop, set, length-set}
use lib.Seq.{get_or-set_same, get_or-set_other}
use Rattle.splitting.specs.declared.halves.Three.{Three}
use Rattle.splitting.specs.declared.split.Split.{Split}
use Rattle.laws.specs.Below.{tabulate}
use Rattle.laws.proofs.Tabulate.{length-tabulate, get_d_tabulate}
use Rattle.laws.proofs.Middles.{splice_ext}
use Rattle.halfedges.specs.Cage.{cell}
use Rattle.splitting.specs.Internal.InPlace.{trio, set_three, set_split}

-- three cells stored together
module _ (xs : List ℕ) (k : ℕ) (c : Three) where
  length_three : length (set_three xs k c) ≡ length xs
  unfolding set_three
  length_three = simp length-set

  three_other : (j : ℕ) → j ≢ k → j ≢ k + 1 → j ≢ k + 2 → cell (set_three xs k c) j ≡ cell xs j
  unfolding set_three
  three_other j p q r =
      get_or-set_other (set (set xs k c.0) (k + 1) c.1) (k + 2) j c.2 0 r
      ∙ get_or-set_other (set xs k c.0) (k + 1) j c.1 0 q
      ∙ get_or-set_other xs k j c.0 0 p

  module _ (room : k + 3 ≤ length xs) where
    three_first : cell (set_three xs k c) k ≡ c.0
    unfolding set_three
    three_first =
        get_or-set_other (set (set xs k c.0) (k + 1) c.1) (k + 2) k c.2 0 (λ e. omega arith)
        ∙ get_or-set_other (set xs k c.0) (k + 1) k c.1 0 (λ e. omega arith)
        ∙ get_or-set_same xs k c.0 0 (omega arith)

    three_second : cell (set_three xs k c) (k + 1) ≡ c.1
    unfolding set_three
    three_second =
        get_or-set_other (set (set xs k c.0) (k + 1) c.1) (k + 2) (k + 1) c.2 0 (λ e. omega arith)
        ∙ get_or-set_same (set xs k c.0) (k + 1) c.1 0 (simp length-set (omega arith))

    three_third : cell (set_three xs k c) (k + 2) ≡ c.2
    unfolding set_three
    three_third = get_or-set_same (set (set xs k c.0) (k + 1) c.1) (k + 2) c.2 0 (simp length-set (omega arith))

-- m cells from a place on are f's
pub Run : List ℕ → ℕ → ℕ → (ℕ → ℕ) → Type 0
Run ys s m f = (i : ℕ) → i < m → cell ys (s + i) ≡ f i

module _ (ys : List ℕ) (s m : ℕ) (f : ℕ → ℕ) (run : Run ys s m f) where
  run_before : (k : ℕ) (c : Three) → s + m ≤ k → Run (set_three ys k c) s m f
  unfolding Run
  run_before k c l i j = three_other ys k c (s + i) (λ e. omega arith) (λ e. omega arith) (λ e. omega arith) ∙ run i j

  run_after : (k : ℕ) (c : Three) → k + 3 ≤ s → Run (set_three ys k c) s m f
  unfolding Run
  run_after k c l i j = three_other ys k c (s + i) (λ e. omega arith) (λ e. omega arith) (λ e. omega arith) ∙ run i j

  -- three cells stored at its end
  run_more : (k : ℕ) (c : Three) → k ≡ s + m → k + 3 ≤ length ys → c ≡ trio f m → Run (set_three ys k c) s (m + 3) f
  unfolding Run
  run_more k c e room q i l = by (dec_lt i m) (ℕ_discrete i m) (ℕ_discrete i (m + 1))
    where
      new : {j : ℕ} → i ≡ j → {v : ℕ} → cell (set_three ys k c) (s + j) ≡ v → v ≡ f j → cell (set_three ys k c) (s + i) ≡ f i
      new d x y = rw d (x ∙ y)

      by : Dec (i < m) → Dec (i ≡ m) → Dec (i ≡ m + 1) → cell (set_three ys k c) (s + i) ≡ f i
      by (yes o) z w = three_other ys k c (s + i) (λ d. omega arith) (λ d. omega arith) (λ d. omega arith) ∙ run i o
      by (no o) (yes z) w = new z (rw (← e) (three_first ys k c room)) (ap (λ d. d.0) q)
      by (no o) (no z) (yes w) =
          let d : s + (m + 1) ≡ k + 1 = omega arith in
          new w (rw d (three_second ys k c room)) (ap (λ d. d.1) q)
      by (no o) (no z) (no w) =
          let d : s + (m + 2) ≡ k + 2 = omega arith in
          new (let t : i ≡ m + 2 = omega (arith, o, z, w) in t) (rw d (three_third ys k c room)) (ap (λ d. d.2) q)

-- the new cells of a halfedge, and the split by those of a triangle
abbrev pub new_three : (ℕ → ℕ) → ℕ → Three
new_three new h = trio new (3 * h)

abbrev pub split_by : (ℕ → ℕ) → ℕ → ℕ → Split
split_by new n h =
    record { first = new_three new h; second = new_three new (h + 1); third = new_three new (h + 2); middle = trio (λ k. new (3 * n + k)) h }

-- the same three cells, counted from the triangle's first
three_on : (new : ℕ → ℕ) {k m : ℕ} → k ≡ m → trio new k ≡ trio new m
three_on new e = ap (trio new) e

-- in ys the new cells of all halfedges below h are filled in, from base on; past the next level and before it stands what xs has
pub record Going (xs : List ℕ) (base n : ℕ) (new : ℕ → ℕ) (ys : List ℕ) (h : ℕ) : Type 0 where
  pub long : length ys ≡ length xs
  pub before : Run ys 0 base (λ k. cell xs (0 + k))
  pub together : Run ys base (3 * h) new
  pub apart : Run ys (base + 3 * n) h (λ k. new (3 * n + k))
  pub past : (m : ℕ) → Run ys (base + 4 * n) m (λ k. cell xs (base + 4 * n + k))

module _ (xs : List ℕ) (at n : ℕ) (new : ℕ → ℕ) (room : at + n + 4 * n ≤ length xs) where
  abbrev base : ℕ
  base = at + n

  pub going_start : Going xs base n new xs 0
  unfolding Run
  going_start =
      record { long = refl; before = λ i l. refl; together = λ i l. absurd (omega (arith, l)); apart = λ i l. absurd (omega (arith, l)); past = λ m i l. refl }

  module _ {ys : List ℕ} {h : ℕ} (g : Going xs base n new ys h) where
    -- after the first three stores of a triangle, the second, the third and the last
    abbrev one : List ℕ
    one = set_three ys (base + 3 * h) (new_three new h)

    abbrev two : List ℕ
    two = set_three one (base + 3 * h + 3) (new_three new (h + 1))

    abbrev three : List ℕ
    three = set_three two (base + 3 * h + 6) (new_three new (h + 2))

    abbrev all : List ℕ
    all = set_three three (base + (3 * n + h)) (trio (λ k. new (3 * n + k)) h)

    -- how long each is
    long_one : length one ≡ length xs
    long_one = length_three ys _ _ ∙ g.long

    long_two : length two ≡ length xs
    long_two = length_three one _ _ ∙ long_one

    long_three : length three ≡ length xs
    long_three = length_three two _ _ ∙ long_two

    module _ (l : h + 3 ≤ n) where
      before_all : (s m : ℕ) (f : ℕ → ℕ) → s + m ≤ base → Run ys s m f → Run all s m f
      before_all s m f o r =
          run_before three s m f
          (run_before two s m f
          (run_before one s m f (run_before ys s m f r (base + 3 * h) _ (omega arith)) (base + 3 * h + 3) _ (omega arith))
          (base + 3 * h + 6) _ (omega arith))
          (base + (3 * n + h)) _ (omega arith)

      after_three : (s m : ℕ) (f : ℕ → ℕ) → base + 3 * n ≤ s → Run ys s m f → Run three s m f
      after_three s m f o r =
          run_after two s m f
          (run_after one s m f (run_after ys s m f r (base + 3 * h) _ (omega arith)) (base + 3 * h + 3) _ (omega arith))
          (base + 3 * h + 6) _ (omega arith)

      together_one : Run one base (3 * h + 3) new
      together_one = run_more ys base (3 * h) new g.together (base + 3 * h) _ refl (omega (arith, g.long)) refl

      together_two : Run two base (3 * h + 3 + 3) new
      together_two =
          run_more one base (3 * h + 3) new together_one (base + 3 * h + 3) _ (omega arith) (omega (arith, long_one)) (three_on new (omega arith))

      together_three : Run three base (3 * h + 3 + 3 + 3) new
      together_three =
          run_more two base (3 * h + 3 + 3) new together_two (base + 3 * h + 6) _ (omega arith) (omega (arith, long_two)) (three_on new (omega arith))

      together_all : Run all base (3 * (h + 3)) new
      together_all =
          let e : 3 * (h + 3) ≡ 3 * h + 3 + 3 + 3 = omega arith in
          rw e (run_before three base (3 * h + 3 + 3 + 3) new together_three (base + (3 * n + h)) _ (omega arith))

      apart_all : Run all (base + 3 * n) (h + 3) (λ k. new (3 * n + k))
      apart_all =
          run_more three (base + 3 * n) h (λ k. new (3 * n + k)) (after_three (base + 3 * n) h _ (omega arith) g.apart)
          (base + (3 * n + h)) _ (omega arith) (omega (arith, long_three)) refl

      past_all : (m : ℕ) → Run all (base + 4 * n) m (λ k. cell xs (base + 4 * n + k))
      past_all m = run_after three (base + 4 * n) m _ (after_three (base + 4 * n) m _ (omega arith) (g.past m)) (base + (3 * n + h)) _ (omega arith)

      pub going_on : {zs : List ℕ} → zs ≡ set_split ys at n h (split_by new n h) → Going xs base n new zs (h + 3)
      unfolding set_split
      going_on e =
          rw e
          (record {
            long = length_three three _ _ ∙ long_three;
            before = before_all 0 base _ (omega arith) g.before;
            together = together_all;
            apart = apart_all;
            past = past_all;
          })

    -- a cell before the next level
    pub going_before : (k : ℕ) → k < base → cell ys k ≡ cell xs k
    unfolding Run
    going_before k l = rw zero-add at (g.before k l)

    pub going_done : h ≡ n → ys ≡ take base xs ++ (tabulate (4 * n) new ++ drop (base + 4 * n) xs)
    unfolding Run
    going_done e =
        splice_ext 0 xs ys (tabulate (4 * n) new) base g.long (rw (length-tabulate (4 * n) new) room)
        going_before
        (λ k l. inside k (rw (length-tabulate (4 * n) new) at l) ∙ sym (get_d_tabulate (4 * n) new k 0 (rw (length-tabulate (4 * n) new) at l)))
        (λ k l. past_it k (rw (length-tabulate (4 * n) new) at l))
        ∙ rw (length-tabulate (4 * n) new)
      where
        inside : (k : ℕ) → k < 4 * n → cell ys (base + k) ≡ new k
        inside k l = by (dec_lt k (3 * n))
          where
            by : Dec (k < 3 * n) → cell ys (base + k) ≡ new k
            by (yes m) = g.together k (omega arith)
            by (no m) =
                let d : base + k ≡ base + 3 * n + (k - 3 * n) = omega (arith, m) in
                let f : 3 * n + (k - 3 * n) ≡ k = omega (arith, m) in
                rw d (g.apart (k - 3 * n) (omega (arith, m))) ∙ ap new f

        past_it : (k : ℕ) → base + 4 * n ≤ k → cell ys k ≡ cell xs k
        past_it k l =
            let d : base + 4 * n + (k - (base + 4 * n)) ≡ k = omega arith in
            rw d at (g.past (k + 1) (k - (base + 4 * n)) (omega arith))
