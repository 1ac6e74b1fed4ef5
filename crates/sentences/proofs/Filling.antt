-- A text filled byte by byte: `filled_more` by one, `filled_all` with the end of the line. Assumes nothing.
use Prim.Native.Nat.{ℕ, ◌+◌, ◌*◌, ◌≤◌, ◌<◌, zero-le}
use mathlib.Core.Path.{◌≡◌, sym, ap, ◌∙◌}
use mathlib.Core.Bool.{cond}
use mathlib.Core.List.{List, [], ◌∷◌, ◌++◌, append_assoc, append-nil}
use native.Mathlib.Nat.{add-zero}
use native.Mathlib.Numerals.{add-one}
use native.Mathlib.Omega.{arith}
use lib.Dec.{eqb}
use lib.ListN.{length, get_or, drop}
use lib.Seq.{drop-cons, drop-length, get_or-drop, drop-drop}
use Rattle.laws.proofs.Tests.{by-test}
use Rattle.text.specs.Lines.{newline}
use Rattle.text.specs.Internal.Put.{Put}
use Rattle.text.proofs.Texts.{put_more, put_within}
use Rattle.sentences.specs.Sentences.{hash, fill}
use Rattle.sentences.specs.Internal.Pieces.{piece}

-- i bytes of a text are done, and some numbers used for them
pub record Filled (before text ns now : List ℕ) (at used i : ℕ) : Type 0 where
  pub done : List ℕ
  pub few : used ≤ i
  pub put : Put before 0 (20 * i) done now at
  pub rest : fill text ns ≡ done ++ fill (drop i text) (drop used ns)

-- one byte more, and its number
next_byte : (text ns : List ℕ) (i used : ℕ) → i < length text → fill (drop i text) (drop used ns) ≡ piece (get_or text i 0) (get_or ns used 0) ++ fill (drop (i + 1) text) (drop (cond (eqb (get_or text i 0) hash) (used + 1) used) ns)
unfolding fill
next_byte text ns i used l =
    rw (drop-cons text i 0 l, add-one i)
    (by-test (eqb (get_or text i 0) hash) (λ t. rw (t, get_or-drop used ns 0 0, add-zero used, drop-drop 1 used ns)) (λ f. rw f))

module _ {before text ns now now' : List ℕ} {at at' used i : ℕ} where
  pub filled_more : (used' : ℕ) → i < length text → Filled before text ns now at used i → Put now at 20 (piece (get_or text i 0) (get_or ns used 0)) now' at'
      → used' ≡ cond (eqb (get_or text i 0) hash) (used + 1) used → Filled before text ns now' at' used' (i + 1)
  filled_more used' l r p u =
      let b = get_or text i 0 in
      let new = piece b (get_or ns used 0) in
      record {
        done = r.done ++ new;
        few = rw u (by-test (eqb b hash) (λ t. rw t (omega (arith, r.few))) (λ f. rw f (omega (arith, r.few))));
        put = put_within (omega arith) (put_more zero-le r.put p);
        rest =
            rw u
            (r.rest ∙ ap (λ t. r.done ++ t) (next_byte text ns i used l) ∙ sym (append_assoc r.done new (fill (drop (i + 1) text) (drop (cond (eqb b hash) (used + 1) used) ns))));
      }

  pub filled_all : i ≡ length text → Filled before text ns now at used i → Put now at 1 (newline ∷ []) now' at' → Put before 0 (20 * length text + 1) (fill text ns ++ (newline ∷ [])) now' at'
  unfolding fill
  filled_all e r p =
      let all : fill text ns ≡ r.done = r.rest ∙ ap (λ t. r.done ++ fill t (drop used ns)) (ap (λ n. drop n text) e ∙ drop-length text) ∙ append-nil r.done in
      rw (all, ← e) (put_more zero-le r.put p)
