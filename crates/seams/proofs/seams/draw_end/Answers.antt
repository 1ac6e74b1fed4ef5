-- `draw_end` goes by how many creases there are, as its definition does.
use mathlib.Core.Path.{sym, ◌∙◌}
use native.Mathlib.Omega.{arith}
use Rattle.seams.proofs.Seaming.{end_few, end_two, end_more}
use Rattle.seams.proofs.seams.draw_end.Goals as goal

pub returns-then-creases-lt2 : goal.returns-then-creases-lt2
returns-then-creases-lt2 c = sym (end_few _ _ _ _ _ (omega arith))

pub returns-then-creases-eq2 : goal.returns-then-creases-eq2
returns-then-creases-eq2 c = c.meet_one.ensures ∙ sym (end_two _ _ _ _ _ (omega arith))

pub returns : goal.returns
returns c = c.stay_put.ensures ∙ sym (end_more _ _ _ _ _ (omega arith))
