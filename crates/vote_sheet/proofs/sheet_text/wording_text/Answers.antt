use Rattle.std.proofs.Common.{refl}
use Rattle.vote_sheet.specs.Sheet.{wording_text}
use Rattle.vote_sheet.proofs.sheet_text.wording_text.Goals as goal

pub returns-in-MoreThan : goal.returns-in-MoreThan
unfolding wording_text
returns-in-MoreThan c = rw c.in-MoreThan.is refl
