use Rattle.std.proofs.Common.{ap}
use Rattle.vote_steps.specs.Boxes.{BoxState}
use Rattle.vote_steps.proofs.ballot_box.BallotBox.last_in_time.Goals as goal

pub returns-clause-same : goal.returns-clause-same
returns-clause-same c = ap (λ (b : BoxState). b.last_in_time) c.self.view_is
