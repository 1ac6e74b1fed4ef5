-- Each clause has its text.
use native.Mathlib.Omega.{arith}
use borrow.Author.Tests.{eq-eqb, ne_eqb}
use Rattle.clauses.specs.Shown.{of_numbers}
use Rattle.text.proofs.Texts.{put_within}
use Rattle.sentences.specs.Sentences.{of_three}
use Rattle.sentences.proofs.put_clause.Goals as goal
use Rattle.sentences.proofs.put_clause.Goals.{in-1, in-2, in_default}

pub returns : goal.returns
unfolding of_three
returns c =
    let k = of_numbers c.args.clause in
    let p = rw c.shown.ensures at c.put_saying.ensures in
    elim c.match-number.branch [
      | in-1 w ↦ rw (eq-eqb k.number 1 (omega arith)) (put_within (omega arith) (rw w.text-is at p))
      | in-2 w ↦ rw (ne_eqb k.number 1 (omega arith), eq-eqb k.number 2 (omega arith)) (put_within (omega arith) (rw w.text-is at p))
      | in_default w ↦ rw (ne_eqb k.number 1 (omega arith), ne_eqb k.number 2 (omega arith)) (put_within (omega arith) (rw w.text-is at p))
    ]
