use Rattle.std.proofs.Common.{◌-◌, List, length, ap, ◌∙◌}
use Rattle.vote_steps.specs.declared.Step.{Step}
use Rattle.vote_audit.proofs.CountLemmas.{casts_of_closed}
use Rattle.vote_audit.proofs.auditing.count_casts.Goals as goal

pub returns : goal.returns
returns c =
    let b = c.args.ballot_box.now in
    ap (λ (xs : List Step). length xs - 1) c.steps.ensures.steps ∙ (casts_of_closed b.steps c.requires (c.closes_once.ensures b c.steps.ensures.legal)).1
