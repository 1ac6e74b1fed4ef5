-- Lists made of chunks of one width. Assumes nothing.
--     read_put            what was put chunk by chunk is read back
--     put_read            what is read chunk by chunk is put back
--     length_flat_map      as long as its chunks
--     flat_map_map, flat_map_append
use Prim.Native.Nat.{ℕ, zero, suc, ◌+◌, ◌*◌, ◌≤◌, ◌<◌, zero-le, suc-le-suc}
use mathlib.Core.Path.{◌≡◌, refl, sym, ap, ap₂, ◌∙◌}
use mathlib.Core.List.{List, [], ◌∷◌, ◌++◌, map, flat_map, append_assoc}
use native.Mathlib.Nat.{mul-zero, mul-suc, add-zero}
use native.Mathlib.Omega.{arith}
use lib.ListN.{length, get_or, take, drop, length-append}
use lib.Seq.{take-add, drop-drop, drop_at}
use Rattle.laws.specs.Below.{tabulate}
use Rattle.laws.proofs.Tabulate.{tabulate_ext}

module _ {A B : Type 0} where
  pub flat_map_append : (put : A → List B) (xs ys : List A) → flat_map put (xs ++ ys) ≡ flat_map put xs ++ flat_map put ys
  unfolding flat_map
  flat_map_append put [] ys = refl
  flat_map_append put (x ∷ xs) ys = rw (flat_map_append put xs ys, append_assoc)

  pub length_flat_map : (put : A → List B) (width : ℕ) → ((x : A) → length (put x) ≡ width) → (xs : List A) → length (flat_map put xs) ≡ width * length xs
  unfolding flat_map
  length_flat_map put width w [] = sym (mul-zero width)
  length_flat_map put width w (x ∷ xs) =
      rw (length-append (put x) (flat_map put xs), w x, length_flat_map put width w xs, mul-suc) (omega arith)

pub flat_map_map : {A B C : Type 0} (g : A → B) (put : B → List C) (xs : List A) → flat_map put (map g xs) ≡ flat_map (λ x. put (g x)) xs
unfolding flat_map
flat_map_map g put [] = refl
flat_map_map g put (x ∷ xs) = ap (λ l. put (g x) ++ l) (flat_map_map g put xs)

-- chunk k + 1 lies one width further on than chunk k
further : (at width k : ℕ) → at + width * suc k ≡ at + width + width * k
further at width k = rw mul-suc (omega arith)

start : (at width : ℕ) → at + width * 0 ≡ at
start at width = rw (mul-zero width, add-zero at)

module _ {A B : Type 0} (width : ℕ) (put : A → List B) (l : List B) (read : ℕ → A) where
  pub read_put : (P : A → Type 0) → ((x : A) → length (put x) ≡ width)
      → ((at : ℕ) (x : A) (rest : List B) → P x → drop at l ≡ put x ++ rest → read at ≡ x)
      → (xs : List A) (z : A) (rest : List B) (at : ℕ) → ((i : ℕ) → i < length xs → P (get_or xs i z))
      → drop at l ≡ flat_map put xs ++ rest → tabulate (length xs) (λ i. read (at + width * i)) ≡ xs
  unfolding flat_map
  read_put P w back [] z rest at p e = refl
  read_put P w back (x ∷ xs) z rest at p e =
      ap₂ ◌∷◌ (rw (start at width) (back at x (flat_map put xs ++ rest) (p 0 (suc-le-suc zero-le)) here))
      (tabulate_ext (length xs) _ _ (λ k _. ap read (further at width k))
      ∙ read_put P w back xs z rest (at + width) (λ i i<. p (suc i) (suc-le-suc i<)) there)
    where
      here : drop at l ≡ put x ++ (flat_map put xs ++ rest)
      here = e ∙ append_assoc (put x) (flat_map put xs) rest

      there : drop (at + width) l ≡ flat_map put xs ++ rest
      there = sym (drop-drop width at l) ∙ ap (drop width) here ∙ drop_at (put x) _ width (w x)

  pub put_read : ((at : ℕ) → at + width ≤ length l → put (read at) ≡ take width (drop at l))
      → (n at : ℕ) → at + width * n ≤ length l → flat_map put (tabulate n (λ i. read (at + width * i))) ≡ take (width * n) (drop at l)
  unfolding flat_map
  put_read back zero at r = rw (mul-zero width)
  put_read back (suc n) at r =
      ap₂ ◌++◌ here (there (put_read back n (at + width) (omega (arith, wider))))
      ∙ sym (take-add width (width * n) (drop at l))
      ∙ ap (λ k. take k (drop at l)) (sym wider)
    where
      wider : width * suc n ≡ width + width * n
      wider = rw mul-suc (omega arith)

      here : put (read (at + width * 0)) ≡ take width (drop at l)
      here = rw (start at width) (back at (omega (arith, wider)))

      there : flat_map put (tabulate n (λ i. read (at + width + width * i))) ≡ take (width * n) (drop (at + width) l)
          → flat_map put (tabulate n (λ i. read (at + width * suc i))) ≡ take (width * n) (drop width (drop at l))
      there ih =
          ap (flat_map put) (tabulate_ext n _ _ (λ k _. ap read (further at width k)))
          ∙ ih
          ∙ ap (take (width * n)) (sym (drop-drop width at l))
