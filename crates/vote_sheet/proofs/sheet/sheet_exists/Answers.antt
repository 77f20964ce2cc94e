use Rattle.vote_sheet.proofs.SheetExists.{sheet_exists}
use Rattle.vote_sheet.proofs.sheet.sheet_exists.Goals as goal

pub returns : goal.returns
returns c = sheet_exists c.polls_keep_the_limits.ensures c.outcomes_exist.ensures c.decisions_exist.ensures c.quorums_exist.ensures
