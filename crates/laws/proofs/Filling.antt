-- Lists filled from the front, one cell or one chunk at a time. Assumes nothing.
--     over_next     one more cell of a list given cell by cell
--     chunk_next    one more chunk of a list made of chunks
use Prim.Native.Nat.{ℕ, zero, suc, ◌+◌, ◌*◌, ◌<◌}
use mathlib.Core.Path.{◌≡◌, refl, sym, ap, ◌∙◌}
use mathlib.Core.List.{List, [], ◌∷◌, ◌++◌, flat_map, append-nil}
use native.Mathlib.Numerals.{add-one}
use native.Mathlib.Omega.{arith}
use lib.ListN.{length, get_or, set, take}
use lib.Seq.{length-take-le, take-suc}
use Rattle.laws.specs.Below.{tabulate}
use Rattle.laws.specs.Parts.{in_front}
use Rattle.laws.specs.Internal.Parts.{splice}
use Rattle.laws.proofs.Tabulate.{length-tabulate}
use Rattle.laws.proofs.Chunks.{flat_map_append, length_flat_map}
use Rattle.laws.proofs.Splice.{over_more, splice_one}

module _ {A : Type 0} where
  tabulate_last : (n : ℕ) (f : ℕ → A) → tabulate (suc n) f ≡ tabulate n f ++ (f n ∷ [])
  tabulate_last zero f = refl
  tabulate_last (suc n) f = ap (λ t. f 0 ∷ t) (tabulate_last n (λ k. f (suc k)))

  tabulate_more : (n : ℕ) (f : ℕ → A) → tabulate (n + 1) f ≡ tabulate n f ++ (f n ∷ [])
  tabulate_more n f = rw (add-one n) (tabulate_last n f)

  pub over_next : (d l : List A) (f : ℕ → A) (k : ℕ) (a : A) → k < length l → l ≡ in_front (tabulate k f) d → a ≡ f k → set l k a ≡ in_front (tabulate (k + 1) f) d
  over_next d l f k a h e p =
      rw (p, tabulate_more) (splice_one l k (f k) h ∙ over_more d l (tabulate k f) (f k ∷ []) k e (length-tabulate k f))

module _ {A B : Type 0} (put : A → List B) (width : ℕ) (w : (x : A) → length (put x) ≡ width) where
  pub chunk_next : (d l : List B) (xs : List A) (z : A) (k : ℕ) → k < length xs → l ≡ in_front (flat_map put (take k xs)) d → splice l (width * k) (put (get_or xs k z)) ≡ in_front (flat_map put (take (k + 1) xs)) d
  unfolding flat_map
  chunk_next d l xs z k h e =
      over_more d l (flat_map put (take k xs)) (put (get_or xs k z)) (width * k) e before ∙ ap (λ t. in_front t d) (sym more)
    where
      before : length (flat_map put (take k xs)) ≡ width * k
      before = length_flat_map put width w (take k xs) ∙ ap (λ n. width * n) (length-take-le k xs (omega arith))

      one : flat_map put (get_or xs k z ∷ []) ≡ put (get_or xs k z)
      one = append-nil (put (get_or xs k z))

      more : flat_map put (take (k + 1) xs) ≡ flat_map put (take k xs) ++ put (get_or xs k z)
      more = rw (add-one k, take-suc xs k z h, flat_map_append put (take k xs) (get_or xs k z ∷ []), one)
