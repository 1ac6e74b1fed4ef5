-- The next digit is a byte of them; past 64 bits the number only grows.
use Rattle.std.proofs.Common.{arith, ◌≡◌, ◌<◌, ◌≤◌, ℕ, ◌+◌, ◌*◌, ◌-◌, List, length, get_or, drop}
use lib.ListN.{drop_of_length-le}
use Rattle.text.specs.Numbers.{worth}
use Rattle.text.proofs.Numerals.{digit_range, worth_next, worth_grows}
use Rattle.text.proofs.numbers.worth.Goals as goal

-- the number of all digits is not below what those up to the next one make
at_least : (ds : List ℕ) (i n : ℕ) → i < length ds → worth n (drop i ds) ≡ worth 0 ds → 10 * n + (get_or ds i 0 - 48) ≤ worth 0 ds
at_least ds i n h e =
    rw (← e, worth_next ds i n h) (worth_grows (10 * n + (get_or ds i 0 - 48)) (drop (i + 1) ds))

pub overflow_sub-digit : goal.overflow_sub-digit
overflow_sub-digit c = (digit_range _ (c.requires _ (omega arith))).0

pub returns-in_err-checked_mul : goal.returns-in_err-checked_mul
returns-in_err-checked_mul c =
    rw c.from_residual.ensures (λ l. absurd (omega (arith, at_least c.args.digits.now c.loop-byte.byte-index c.loop-byte.value (omega arith) c.loop-byte.invariant.same, c.in_err-checked_mul.ensures)))

pub returns-in_err-value : goal.returns-in_err-value
returns-in_err-value c =
    rw c.from_residual-in_err-value.ensures (λ l. absurd (omega (arith, at_least c.args.digits.now c.loop-byte.byte-index c.loop-byte.value (omega arith) c.loop-byte.invariant.same, c.in_err-value.ensures, c.in_ok-checked_mul.ensures)))

pub returns : goal.returns
returns c =
    let done : c.loop-byte.value ≡ worth 0 c.args.digits.now = rw (drop_of_length-le c.args.digits.now {i = c.loop-byte.byte-index} (omega arith)) at c.loop-byte.invariant.same in
    (omega (arith, c.loop-byte.invariant.fits), done)
