use Rattle.std.proofs.Common.{ap, arith}
use Rattle.vote_steps.specs.Boxes.{BoxState}
use Rattle.vote_steps.proofs.ballot_box.BallotBox.options.Goals as goal

pub returns-clause-same : goal.returns-clause-same
returns-clause-same c = omega (arith, ap (λ (b : BoxState). b.options) c.self.view_is)
