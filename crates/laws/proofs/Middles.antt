-- Laws of lists laid end to end, and of cells in the middle of a list. Assumes nothing.
--     splice_ext                   a list is another one with x at a place, cell by cell
--     rest_whole, rest_none        all that comes from a place on, and nothing after it
use Prim.Native.Nat.{ℕ, ◌+◌, ◌-◌, ◌≤◌, ◌<◌}
use mathlib.Core.Path.{◌≡◌, sym, ap, ◌∙◌}
use mathlib.Core.List.{List, [], ◌++◌}
use native.Mathlib.Decide.{dec_lt}
use native.Mathlib.Nat.{le_refl}
use native.Mathlib.Omega.{arith}
use lib.ListN.{length, get_or, take, drop, length-append, length-drop, get_or-append, drop_of_length-le}
use lib.Seq.{ext_get_or, take_all, length-take-le, get_or-take, get_or-drop, get_or-append-add}

module _ {A : Type 0} (z : A) (l m x : List A) (at : ℕ) where
  pub splice_ext :
      length m ≡ length l → at + length x ≤ length l
      → ((i : ℕ) → i < at → get_or m i z ≡ get_or l i z)
      → ((i : ℕ) → i < length x → get_or m (at + i) z ≡ get_or x i z)
      → ((i : ℕ) → at + length x ≤ i → get_or m i z ≡ get_or l i z)
      → m ≡ take at l ++ (x ++ drop (at + length x) l)
  splice_ext long room before inside past = ext_get_or z m (take at l ++ (x ++ rest)) (long ∙ sym whole) (λ i _. by (dec_lt i at))
    where
      rest : List A
      rest = drop (at + length x) l

      start : length (take at l) ≡ at
      start = length-take-le at l (omega arith)

      whole : length (take at l ++ (x ++ rest)) ≡ length l
      whole = simp (length-append, length-drop, start) (omega arith)

      after : (i : ℕ) → get_or (take at l ++ (x ++ rest)) (at + i) z ≡ get_or (x ++ rest) i z
      after i = ap (λ n. get_or (take at l ++ (x ++ rest)) (n + i) z) (sym start) ∙ get_or-append-add (take at l) (x ++ rest) i z

      on : (i : ℕ) → Dec (i < length x) → get_or m (at + i) z ≡ get_or (x ++ rest) i z
      on i (yes k) = inside i k ∙ sym (get_or-append x rest z i k)
      on i (no k) =
          let e : length x + (i - length x) ≡ i = omega (arith, k) in
          let d : at + length x + (i - length x) ≡ at + i = omega (arith, k) in
          past (at + i) (omega (arith, k))
          ∙ sym (ap (λ n. get_or (x ++ rest) n z) (sym e) ∙ get_or-append-add x rest (i - length x) z ∙ get_or-drop (at + length x) l (i - length x) z ∙ ap (λ n. get_or l n z) d)

      by : {i : ℕ} → Dec (i < at) → get_or m i z ≡ get_or (take at l ++ (x ++ rest)) i z
      by {i} (yes k) = before i k ∙ sym (get_or-append (take at l) (x ++ rest) z i (rw start k) ∙ get_or-take at l i z k)
      by {i} (no k) =
          let e : at + (i - at) ≡ i = omega (arith, k) in
          subst_at e (on (i - at) (dec_lt (i - at) (length x)) ∙ sym (after (i - at)))
        where
          subst_at : {j : ℕ} → j ≡ i → get_or m j z ≡ get_or (take at l ++ (x ++ rest)) j z → get_or m i z ≡ get_or (take at l ++ (x ++ rest)) i z
          subst_at e h = rw e at h

-- what comes from a place on is all that is left
module _ {A : Type 0} (l : List A) (at : ℕ) where
  pub rest_whole : take (length l - at) (drop at l) ≡ drop at l
  rest_whole = take_all (length l - at) (drop at l) (simp length-drop (le_refl _))

  pub rest_none : drop (length l - at) (drop at l) ≡ []
  rest_none = drop_of_length-le (drop at l) {i = length l - at} (simp length-drop (le_refl _))
