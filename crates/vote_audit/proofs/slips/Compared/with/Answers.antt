use Rattle.std.proofs.Common.{sym, ◌∙◌}
use Rattle.std.proofs.lemmas.Bool.{false≢true}
use Rattle.vote_audit.proofs.SlipLemmas.{still_parted, one_more_alike, parts_here}
use Rattle.vote_audit.proofs.slips.Compared.with.Goals as goal

pub returns-then-self : goal.returns-then-self
returns-then-self c = λ casts h. still_parted c.args.slips.now casts c.args.slip.now c.args.self c.if-self.true h

pub returns-then-has_slip : goal.returns-then-has_slip
returns-then-has_slip c = λ casts h. one_more_alike c.args.slips.now casts c.args.slip.now c.args.self c.if-self.false (c.has_slip.ensures.0 c.if-has_slip.true) h

pub returns-else-has_slip : goal.returns-else-has_slip
returns-else-has_slip c = λ casts h. parts_here c.args.slips.now casts c.args.slip.now c.args.self c.if-self.false (λ e. false≢true (sym c.if-has_slip.false ∙ c.has_slip.ensures.1 e)) h
