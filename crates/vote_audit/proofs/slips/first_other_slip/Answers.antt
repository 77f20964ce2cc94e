use Rattle.std.proofs.Common.{rules}
use Rattle.vote_audit.proofs.slips.first_other_slip.Goals as goal

pub returns : goal.returns
returns c = search rules
