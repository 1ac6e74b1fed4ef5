-- `draw_seam` puts the middle, and then draws its end on what that left.
use borrow.Author.Rules.{rules}
use mathlib.Core.Path.{ap, ◌∙◌}
use Rattle.seams.specs.Internal.Seams.{draw_end, draw_seam}
use Rattle.seams.proofs.seams.draw_seam.Goals as goal

pub draw_end-requires : goal.draw_end-requires
draw_end-requires c =
    record { room = search rules; near = c.requires.near; neighbour_near = c.requires.neighbour_near }

pub returns : goal.returns
unfolding draw_seam
returns c =
    let a = c.args in
    c.draw_end.ensures ∙ ap (draw_end a.vertices a.creases a.corner a.neighbour) c.put_middle.ensures
