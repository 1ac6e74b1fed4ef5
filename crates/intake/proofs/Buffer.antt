-- A buffer that holds more than the longest file that reads holds enough of any: its bytes get the reply that the whole file gets
-- (`front_replied`). Assumes nothing.
use Prim.Native.Nat.{ℕ, ◌<◌}
use mathlib.Core.Path.{◌≡◌, sym, ap, ◌∙◌}
use mathlib.Core.Logic.{◌≢◌}
use mathlib.Core.List.{List}
use native.Mathlib.Decide.{dec_lt}
use native.Mathlib.Omega.{arith}
use lib.IntN.{ℤ}
use lib.ListN.{length, take}
use lib.Seq.{take_all}
use Rattle.tables.specs.Tables.{Tables}
use Rattle.filechecks.specs.FileChecks.{both}
use Rattle.filelaws.proofs.Prefix.{too_long, longer_alike}
use Rattle.text.specs.Replies.{refused}
use Rattle.intake.specs.Intake.{check_file, file_reply}
use Rattle.intake.specs.Internal.Buffer.{longest}
use Rattle.intake.proofs.Outcomes.{file_unread, reply_refused}

module _ (answer : Tables → List ℤ → List ℕ) (f : List ℕ) (n : ℕ) (enough : longest < n) where
  -- of a file that goes on past n bytes these are too many already
  both-refused : n < length f → file_reply answer (take n f) ≡ file_reply answer f
  both-refused l =
      let same = longer_alike f n enough both in
      let long = too_long both f (omega arith) in
      let whole = file_unread f long in
      let part = file_unread (take n f) (rw same long) in
      let alike : (check_file (take n f)).verdict ≡ (check_file f).verdict = rw (part, whole) same in
      let refuses : (check_file f).verdict.number ≢ 0 = rw whole long in
      sym (reply_refused (take n f) answer (rw alike refuses)) ∙ ap refused alike ∙ reply_refused f answer refuses

  pub front_replied : file_reply answer (take n f) ≡ file_reply answer f
  front_replied = by (dec_lt n (length f))
    where
      by : Dec (n < length f) → file_reply answer (take n f) ≡ file_reply answer f
      by (yes l) = both-refused l
      by (no l) = ap (file_reply answer) (take_all n f (omega (arith, l)))
