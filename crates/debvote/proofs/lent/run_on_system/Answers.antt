use Rattle.std.proofs.Common.{rules}
use Rattle.debvote.proofs.lent.run_on_system.Goals as goal

pub answer-status-requires : goal.answer-status-requires
answer-status-requires g c = record { take = record { callable = search rules; promises = λ poll lines desks taken takes. takes.votes } }
