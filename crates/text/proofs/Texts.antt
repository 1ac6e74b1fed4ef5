-- How texts are written one after another. Assumes nothing.
--     put_none, put_more      nothing, and a text straight after another
--     put_then, put_words     a word and the rest of its line, words and the rest of their line
--     put_within              what takes less room
--     put_next                one line more after k lines
--     byte_put                one byte
--     digits_put              the digits of a number
use Prim.Native.Nat.{ℕ, ◌+◌, ◌*◌, ◌^◌, ◌≤◌, ◌<◌, zero-le}
use mathlib.Core.Path.{◌≡◌, refl, sym, ap, ◌∙◌}
use mathlib.Core.List.{List, [], ◌∷◌, ◌++◌, append_assoc}
use native.Mathlib.Nat.{add-zero, le_refl, mul-add, mul-one}
use native.Mathlib.Numerals.{add-one}
use native.Mathlib.Omega.{arith}
use lib.ListN.{length, set, length-append, take-append-drop}
use Rattle.io.specs.Digits.{last_digits, IsDigitCount}
use Rattle.laws.specs.Below.{end_to_end}
use Rattle.laws.proofs.Splice.{splice_one, splice_more}
use Rattle.text.specs.Lines.{space, decimal, ended}
use Rattle.text.specs.Internal.Put.{Put}
use Rattle.text.proofs.Words.{ended_join}
use Rattle.text.proofs.Decimal.{few_digits, fewest_is}

pub put_none : (a : List ℕ) (at : ℕ) → Put a at 0 [] a at
put_none a at = record { bytes = sym (take-append-drop at a); ends = sym (add-zero at); short = le_refl _ }

pub put_more : {a b c : List ℕ} {i j k m n : ℕ} {x y : List ℕ} → i ≤ length a → Put a i m x b j → Put b j n y c k → Put a i (m + n) (x ++ y) c k
put_more {a} {b} {c} {i} {j} {k} {m} {n} {x} {y} l p q =
    record {
      bytes = q.bytes ∙ splice_more a b x y i j p.bytes p.ends l;
      ends = q.ends ∙ (simp length-append (omega (arith, p.ends)));
      short = simp length-append (omega (arith, p.short, q.short));
    }

-- a word, and after a space the rest of its line
pub put_then : {a b c : List ℕ} {i j k m n : ℕ} {r : List ℕ} (w : List ℕ) → i ≤ length a → Put a i m (w ++ (space ∷ [])) b j → Put b j n r c k → Put a i (m + n) (w ++ (space ∷ r)) c k
put_then {r = r} w l p q = rw (append_assoc w (space ∷ []) r) at (put_more l p q)

-- words with a space after each, and the words that end the line
pub put_words : {a b c : List ℕ} {i j k m n : ℕ} (after : ℕ) (w : List ℕ) (ws : List (List ℕ)) (v : List ℕ) (vs : List (List ℕ)) → i ≤ length a
    → Put a i m (ended space (w ∷ ws)) b j → Put b j n (ended after (v ∷ vs)) c k → Put a i (m + n) (ended after ((w ∷ ws) ++ (v ∷ vs))) c k
put_words after w ws v vs l p q = rw (ended_join after w ws v vs) at (put_more l p q)

pub put_within : {a b : List ℕ} {i j m n : ℕ} {x : List ℕ} → m ≤ n → Put a i m x b j → Put a i n x b j
put_within l p = record { bytes = p.bytes; ends = p.ends; short = omega (arith, p.short) }

-- the lines f 0, f 1, .. f (k - 1) of at most m bytes each, and f k
pub put_next : {o p q : List ℕ} {at next : ℕ} (f : ℕ → List ℕ) (m k : ℕ) → Put o 0 (m * k) (end_to_end k f) p at → Put p at m (f k) q next
    → Put o 0 (m * (k + 1)) (end_to_end (k + 1) f) q next
put_next f m k before new =
    let more : m * (k + 1) ≡ m * k + m = mul-add m k 1 ∙ ap (λ n. m * k + n) (mul-one m) in
    rw (more, add-one k) (put_more zero-le before new)

pub byte_put : (d : List ℕ) (at a : ℕ) → at < length d → Put d at 1 (a ∷ []) (set d at a) (at + 1)
byte_put d at a h = record { bytes = splice_one d at a h; ends = refl; short = le_refl _ }

module _ (n k : ℕ) (small : n < 2 ^ 64) (f : IsDigitCount 10 1 n k) where
  pub digits_put : (a b word : List ℕ) (at next : ℕ) → word ≡ last_digits 10 k n → k ≡ length word → Put a at (length word) word b next → Put a at 20 (decimal n) b next
  unfolding decimal
  digits_put a b word at next e m p =
      let q : word ≡ decimal n = e ∙ ap (λ i. last_digits 10 i n) (fewest_is n small k f) in
      rw (← q) (put_within (omega (arith, few_digits n small k f)) p)
