use Rattle.std.proofs.Common.{rules}
use Rattle.vote_audit.proofs.auditing.Audited.desks.Goals as goal

pub returns : goal.returns
returns c = search rules
