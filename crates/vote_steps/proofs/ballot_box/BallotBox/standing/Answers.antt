use Rattle.std.proofs.Common.{Option, Some, ap, ◌∙◌}
use Rattle.std.specs.Prelude.{option_and_then}
use Rattle.vote_steps.specs.declared.step.Received.{Received}
use Rattle.vote_steps.specs.Boxes.{BoxState}
use Rattle.vote_steps.specs.History.{standing_ranks}
use Rattle.vote_steps.proofs.KeepingLemmas.{standing_at}
use Rattle.vote_steps.proofs.ballot_box.BallotBox.standing.Goals as goal

pub returns-clause-ranks : goal.returns-clause-ranks
returns-clause-ranks c =
    c.standing.ensures.ranks ∙ ap (λ (o : Option Received). option_and_then (λ ballot. Some ballot.ranks) o) (standing_at c.self.inside c.args.voter c.self.invariant)
    ∙ ap (λ (b : BoxState). standing_ranks b.last_in_time b.steps c.args.voter) c.self.view_is
