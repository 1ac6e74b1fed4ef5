-- A buffer that holds more than the longest question holds enough of any text: its bytes get the reply that the whole text gets
-- (`front-counted`). Assumes nothing.
use Prim.Native.Nat.{ℕ, ◌+◌, ◌≤◌, ◌<◌}
use mathlib.Core.Path.{◌≡◌, refl, sym, ap, ◌∙◌}
use mathlib.Core.List.{List}
use native.Mathlib.Decide.{dec_lt}
use native.Mathlib.Omega.{arith}
use lib.ListN.{length, take}
use lib.Seq.{take_all, length-take-le}
use borrow.Author.Tests.{ne_eqb}
use Rattle.text.specs.declared.numbers.Number.{Number}
use Rattle.std.specs.Prelude.{Option, Some, None}
use Rattle.text.specs.Lines.{space, newline}
use Rattle.text.specs.Numbers.{number_at}
use Rattle.text.proofs.Numerals.{Soon, found_soon}
use Rattle.counter.specs.declared.question.Question.{Question}
use Rattle.counter.specs.Counting.{with_number, asked, reply_to, count_reply}
use Rattle.counter.specs.Internal.Buffer.{longest}

-- a question that goes on where a number ends, wherever that is, is none
unasked : (at : ℕ) (r : Option Number) (next : ℕ → ℕ → Option Question) → Soon at r → ((value i : ℕ) → i ≤ at + 21 → next value i ≡ None) → with_number r next ≡ None
unasked at None next s f = refl
unasked at (Some n) next s f = f n.value n.next s

too_long : (text : List ℕ) → longest < length text → asked text ≡ None
unfolding asked
too_long text l =
    unasked 0 (number_at text 0 space) _ (found_soon text 0 space) (λ _ i li.
    unasked i (number_at text i space) _ (found_soon text i space) (λ _ j lj.
    unasked j (number_at text j space) _ (found_soon text j space) (λ _ k lk.
    unasked k (number_at text k newline) _ (found_soon text k newline) (λ _ end le. rw (ne_eqb end (length text) (λ e. omega arith))))))

pub front-counted : (text : List ℕ) (n : ℕ) → longest < n → count_reply (take n text) ≡ count_reply text
unfolding count_reply
front-counted text n enough = ap reply_to (by (dec_lt n (length text)))
  where
    by : Dec (n < length text) → asked (take n text) ≡ asked text
    by (yes l) = too_long (take n text) (omega (arith, length-take-le n text (omega arith))) ∙ sym (too_long text (omega arith))
    by (no l) = ap asked (take_all n text (omega (arith, l)))
