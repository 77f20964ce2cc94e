use Rattle.std.proofs.Common.{rules}
use Rattle.vote_sheet.proofs.verify.closer.Goals as goal

pub returns-then-lines-closest : goal.returns-then-lines-closest
returns-then-lines-closest c = search rules
