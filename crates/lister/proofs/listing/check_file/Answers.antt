-- The tables have the limits' lengths, and what the check of the file answers is listed.
use Rattle.lister.proofs.Outcomes.{file_listed, file_small}
use Rattle.lister.proofs.listing.check_file.Goals as goal

pub returns : goal.returns
returns c =
    let r = c.check_file in
    record { small = file_small _ r.result r.ensures.result_value; listed = file_listed _ r.result r.ensures.result_value }
