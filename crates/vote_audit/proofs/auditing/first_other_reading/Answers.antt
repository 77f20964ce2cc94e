use Rattle.std.proofs.Common.{sym, ◌∙◌, arith}
use Rattle.std.proofs.lemmas.Bool.{false≢true}
use Rattle.vote_audit.proofs.AuditLemmas.{differs_first}
use Rattle.vote_audit.proofs.auditing.first_other_reading.Goals as goal

pub returns-then-not-has_own_reading : goal.returns-then-not-has_own_reading
returns-then-not-has_own_reading c =
    differs_first c.args.poll.now c.args.lines.now c.args.steps.now c.loop-place.place c.index-steps-place.result (omega arith) c.index-steps-place.is c.loop-place.invariant
    (λ own. false≢true (sym c.if-not-has_own_reading.true ∙ c.has_own_reading.ensures.1 own))
