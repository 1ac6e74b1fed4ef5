-- The lines by the levels that were counted, with the status of an answer.
use mathlib.Core.Path.{refl, ap}
use Rattle.text.specs.Replies.{answered}
use Rattle.text.proofs.Replying.{replied_as}
use Rattle.lister.specs.Listing.{level_lines}
use Rattle.lister.specs.Internal.Doubling.{doubled}
use Rattle.lister.proofs.listing.put_listing.Goals as goal

pub returns : goal.returns
returns c =
    replied_as (ap (λ l. answered (level_lines l (doubled c.args.checked.borders))) c.levels.ensures) (record { put = c.put_levels-length.ensures; status = refl })
