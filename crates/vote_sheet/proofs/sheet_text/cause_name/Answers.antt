use Rattle.std.proofs.Common.{rules}
use Rattle.vote_sheet.proofs.sheet_text.cause_name.Goals as goal

pub returns-in-Quorum : goal.returns-in-Quorum
returns-in-Quorum c = search rules
