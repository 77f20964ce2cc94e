use Rattle.std.proofs.Common.{rules}
use Rattle.vote_sheet.specs.Steps.{check_text}
use Rattle.vote_sheet.proofs.steps.check_text.Goals as goal

pub returns : goal.returns
unfolding check_text
returns c = search rules
