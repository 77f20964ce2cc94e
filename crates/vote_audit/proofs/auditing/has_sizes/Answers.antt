use Rattle.std.proofs.Common.{rules}
use Rattle.vote_audit.proofs.auditing.has_sizes.Goals as goal

pub returns-then-limit-len : goal.returns-then-limit-len
returns-then-limit-len c = search rules

pub returns-else-limit-len : goal.returns-else-limit-len
returns-else-limit-len c = search rules
