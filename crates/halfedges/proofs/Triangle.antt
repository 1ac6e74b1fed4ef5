-- The way round a triangle: NEXT and PREV. Assumes nothing.
--     next_last, .. prev_other         by the place in the triangle
--     next_0, .. prev_2, turns         of 3q, 3q+1 and 3q+2
--     prev_next, next_prev, next-next  each undoes the other, and NEXT of NEXT is PREV
--     next_below, prev_below           they stay in a table of whole triangles
--     next_past, prev_past             past whole triangles they go on as at the start
--     round                            they turn the halfedges of a table
--     four_whole                       four times as many halfedges are whole triangles too
use Prim.Native.Nat.{ℕ, ◌+◌, ◌-◌, ◌*◌, ◌/◌, ◌%◌, ◌≤◌, ◌<◌}
use mathlib.Core.Path.{◌≡◌, sym, ap, subst, ◌∙◌}
use mathlib.Core.Logic.{◌≢◌}
use native.Mathlib.Decide.{ℕ_discrete}
use native.Mathlib.Nat.{mul-mod_right}
use native.Mathlib.Omega.{arith}
use borrow.Author.Tests.{eq-eqb, ne_eqb}
use Rattle.laws.proofs.Turnings.{Turning}
use Rattle.halfedges.specs.Cage.{NEXT, PREV}

pub next_last : (h : ℕ) → h % 3 ≡ 2 → NEXT h ≡ h - 2
unfolding NEXT
next_last h e = rw (eq-eqb (h % 3) 2 e)

pub next_other : (h : ℕ) → h % 3 ≢ 2 → NEXT h ≡ h + 1
unfolding NEXT
next_other h e = rw (ne_eqb (h % 3) 2 e)

pub prev_first : (h : ℕ) → h % 3 ≡ 0 → PREV h ≡ h + 2
unfolding PREV
prev_first h e = rw (eq-eqb (h % 3) 0 e)

pub prev_other : (h : ℕ) → h % 3 ≢ 0 → PREV h ≡ h - 1
unfolding PREV
prev_other h e = rw (ne_eqb (h % 3) 0 e)

pub next_at_most : (h : ℕ) → NEXT h ≤ h + 1
next_at_most h = by (ℕ_discrete (h % 3) 2)
  where
    by : Dec (h % 3 ≡ 2) → NEXT h ≤ h + 1
    by (yes e) = omega (arith, next_last h e)
    by (no e) = omega (arith, next_other h e)

module _ (q : ℕ) where
  pub next_0 : NEXT (3 * q) ≡ 3 * q + 1
  next_0 = next_other (3 * q) (omega arith)

  pub next_1 : NEXT (3 * q + 1) ≡ 3 * q + 2
  next_1 = next_other (3 * q + 1) (omega arith) ∙ omega arith

  pub next_2 : NEXT (3 * q + 2) ≡ 3 * q
  next_2 = next_last (3 * q + 2) (omega arith) ∙ omega arith

  pub prev_0 : PREV (3 * q) ≡ 3 * q + 2
  prev_0 = prev_first (3 * q) (omega arith)

  pub prev_1 : PREV (3 * q + 1) ≡ 3 * q
  prev_1 = prev_other (3 * q + 1) (omega arith) ∙ omega arith

  pub prev_2 : PREV (3 * q + 2) ≡ 3 * q + 1
  prev_2 = prev_other (3 * q + 2) (omega arith) ∙ omega arith

pub ruleset turns = (next_0, next_1, next_2, prev_0, prev_1, prev_2)

-- which of its triangle's three h is
data Third : ℕ → Type 0 where
  third_0 : (q : ℕ) → Third (3 * q)
  third_1 : (q : ℕ) → Third (3 * q + 1)
  third_2 : (q : ℕ) → Third (3 * q + 2)

third : (h : ℕ) → Third h
third h = by (ℕ_discrete (h % 3) 0) (ℕ_discrete (h % 3) 1)
  where
    by : Dec (h % 3 ≡ 0) → Dec (h % 3 ≡ 1) → Third h
    by (yes e) d = subst Third (let r : 3 * (h / 3) ≡ h = omega arith in r) (third_0 (h / 3))
    by (no e) (yes f) = subst Third (let r : 3 * (h / 3) + 1 ≡ h = omega arith in r) (third_1 (h / 3))
    by (no e) (no f) = subst Third (let r : 3 * (h / 3) + 2 ≡ h = omega (arith, e, f) in r) (third_2 (h / 3))

-- what holds of the three holds of all
by_third : (P : ℕ → Type 0) → ((q : ℕ) → P (3 * q)) → ((q : ℕ) → P (3 * q + 1)) → ((q : ℕ) → P (3 * q + 2)) → (h : ℕ) → P h
by_third P f g k h = by (third h)
  where
    by : {h : ℕ} → Third h → P h
    by (third_0 q) = f q
    by (third_1 q) = g q
    by (third_2 q) = k q

pub prev_next : (h : ℕ) → PREV (NEXT h) ≡ h
prev_next = by_third (λ h. PREV (NEXT h) ≡ h) (λ q. simp turns) (λ q. simp turns) (λ q. simp turns)

pub next_prev : (h : ℕ) → NEXT (PREV h) ≡ h
next_prev = by_third (λ h. NEXT (PREV h) ≡ h) (λ q. simp turns) (λ q. simp turns) (λ q. simp turns)

pub next-next : (h : ℕ) → NEXT (NEXT h) ≡ PREV h
next-next = by_third (λ h. NEXT (NEXT h) ≡ PREV h) (λ q. simp turns) (λ q. simp turns) (λ q. simp turns)

module _ {n : ℕ} (whole : n % 3 ≡ 0) where
  pub next_below : {h : ℕ} → h < n → NEXT h < n
  next_below {h} = by_third (λ h. h < n → NEXT h < n) (λ q l. simp turns (omega arith)) (λ q l. simp turns (omega arith)) (λ q l. simp turns (omega arith)) h

  pub prev_below : {h : ℕ} → h < n → PREV h < n
  prev_below {h} = by_third (λ h. h < n → PREV h < n) (λ q l. simp turns (omega arith)) (λ q l. simp turns (omega arith)) (λ q l. simp turns (omega arith)) h

  pub round : Turning n NEXT PREV
  round = record { below = λ h l. next_below l; back_below = λ h l. prev_below l; back = λ h l. prev_next h; forth = λ h l. next_prev h }

pub next_past : (n h : ℕ) → NEXT (3 * n + h) ≡ 3 * n + NEXT h
next_past n =
    by_third (λ h. NEXT (3 * n + h) ≡ 3 * n + NEXT h)
    (λ q. rw (next_0 q, let e : 3 * n + 3 * q ≡ 3 * (n + q) = omega arith in e, next_0 (n + q)) (omega arith))
    (λ q. rw (next_1 q, let e : 3 * n + (3 * q + 1) ≡ 3 * (n + q) + 1 = omega arith in e, next_1 (n + q)) (omega arith))
    (λ q. rw (next_2 q, let e : 3 * n + (3 * q + 2) ≡ 3 * (n + q) + 2 = omega arith in e, next_2 (n + q)) (omega arith))

pub prev_past : (n h : ℕ) → PREV (3 * n + h) ≡ 3 * n + PREV h
prev_past n h = ap PREV (let e : 3 * n + h ≡ NEXT (3 * n + PREV h) = sym (next_past n (PREV h) ∙ rw (next_prev h)) in e) ∙ prev_next (3 * n + PREV h)

pub four_whole : (n : ℕ) → n % 3 ≡ 0 → 4 * n % 3 ≡ 0
four_whole n e =
    let q : 4 * n ≡ 3 * (4 * (n / 3)) = omega arith in
    rw q (mul-mod_right 3 (4 * (n / 3)))
