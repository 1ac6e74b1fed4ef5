-- A buffer that holds more than the longest file that reads holds enough of any: its bytes get the reply that the whole file gets
-- (`front_explained`). Assumes nothing.
use Prim.Native.Nat.{ℕ, ◌<◌}
use mathlib.Core.Path.{◌≡◌, sym, ap, ◌∙◌}
use mathlib.Core.Logic.{◌≢◌}
use mathlib.Core.List.{List}
use native.Mathlib.Decide.{dec_lt}
use native.Mathlib.Omega.{arith}
use lib.ListN.{length, take}
use lib.Seq.{take_all}
use Rattle.halfedges.specs.Refusals.{Verdict, first}
use Rattle.clauses.proofs.Explained.{no_clause_lem, at_twin}
use Rattle.clauses.specs.Clauses.{twin_clause}
use Rattle.filechecks.specs.Contents.{cage_in}
use Rattle.filechecks.specs.FileChecks.{file_checks, both}
use Rattle.filelaws.proofs.Prefix.{too_long, longer_alike, longer_twins_alike}
use Rattle.intake.specs.Intake.{check_file}
use Rattle.intake.specs.Internal.Buffer.{longest}
use Rattle.intake.proofs.Outcomes.{file_unread}
use Rattle.explainer.specs.Explaining.{file_clause, explaining}
use Rattle.explainer.proofs.Stops.{Stopped, elsewhere, at_twin as stopped-twin, stopped}

module _ (f : List ℕ) (n : ℕ) (enough : longest < n) (l : n < length f) where
  abbrev w : Verdict
  w = first (file_checks both f)

  same : first (file_checks both (take n f)) ≡ w
  same = longer_alike f n enough both

  refuses : w.number ≢ 0
  refuses = too_long both f (omega arith)

  check_alike : check_file (take n f) ≡ check_file f
  check_alike = file_unread (take n f) (rw same refuses) ∙ (rw same (sym (file_unread f refuses)))

  told_w : (check_file f).verdict ≡ w
  told_w = ap (λ s. s.verdict) (file_unread f refuses)

  clause-alike : Stopped f w → file_clause (take n f) ≡ file_clause f
  unfolding file_clause cage_in
  clause-alike (elsewhere p) = rw (check_alike, told_w) (no_clause_lem _ _ w p ∙ sym (no_clause_lem _ _ w p))
  clause-alike (stopped-twin h e b few less whole) =
      let k : w.number ≡ 3 = ap (λ u. u.number) e in
      rw (check_alike, told_w)
      (sym (at_twin _ _ w k) ∙ ap (λ t. twin_clause t w.place) (longer_twins_alike f n enough few less) ∙ at_twin _ _ w k)

  both-refused : explaining (take n f) ≡ explaining f
  unfolding explaining
  both-refused = rw (clause-alike (stopped f), check_alike)

pub front_explained : (f : List ℕ) (n : ℕ) → longest < n → explaining (take n f) ≡ explaining f
front_explained f n enough = by (dec_lt n (length f))
  where
    by : Dec (n < length f) → explaining (take n f) ≡ explaining f
    by (yes l) = both-refused f n enough l
    by (no l) = ap explaining (take_all n f (omega (arith, l)))
