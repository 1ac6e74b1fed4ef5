-- `put_border` makes its definition's three puts, each on what the one before left.
use borrow.Author.Rules.{rules}
use Prim.Native.Nat.{ℕ}
use mathlib.Core.Path.{◌≡◌, ap, ◌∙◌}
use mathlib.Core.List.{List}
use lib.IntN.{ℤ}
use Rattle.edgepoints.specs.declared.edges.Halfedge.{Halfedge}
use Rattle.points.specs.Internal.Cells.{put}
use Rattle.edgepoints.specs.Internal.Edges.{middle, meet, place, border_edge}
use Rattle.edgepoints.proofs.edges.put_border.Goals as goal

three_puts : (n : ℕ) (h : Halfedge) (l : List ℤ) {one two three : List ℤ} → one ≡ put (place n h) (middle h.from h.to) l → two ≡ meet n h.from h.to one → three ≡ meet n h.to h.from two → three ≡ border_edge n h l
unfolding border_edge
three_puts n h l x y z = z ∙ ap (meet n h.to h.from) (y ∙ ap (meet n h.from h.to) x)

pub meet_one-requires : goal.meet_one-requires
meet_one-requires c =
    let near = c.requires.inner_asks.spanned in
    record { room = search rules; near = near.from_near; neighbour_near = near.to_near }

pub meet_one-requires-2 : goal.meet_one-requires-2
meet_one-requires-2 c =
    let near = c.requires.inner_asks.spanned in
    record { room = search rules; near = near.to_near; neighbour_near = near.from_near }

pub returns : goal.returns
returns c =
    three_puts c.args.vertices c.args.halfedge c.args.points.now c.put_middle.ensures c.meet_one.ensures c.meet_one-2.ensures
