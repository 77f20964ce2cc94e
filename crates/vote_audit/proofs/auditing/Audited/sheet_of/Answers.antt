use Rattle.std.proofs.Common.{ap, ◌∙◌}
use Rattle.vote_desks_box.specs.Desks.{SealedState, slips_at}
use Rattle.vote_audit.proofs.auditing.Audited.sheet_of.Goals as goal

pub returns : goal.returns
returns c = c.sheet_of.ensures ∙ ap (λ (s : SealedState). slips_at s.slips_by_desk c.args.desk) c.self.view_is
