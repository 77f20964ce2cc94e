use Rattle.std.proofs.Common.{ap, arith}
use Rattle.vote_steps.specs.Boxes.{BoxState}
use Rattle.vote_steps.proofs.ballot_box.BallotBox.electors.Goals as goal

pub returns-clause-same : goal.returns-clause-same
returns-clause-same c = omega (arith, ap (λ (b : BoxState). b.electors) c.self.view_is)
