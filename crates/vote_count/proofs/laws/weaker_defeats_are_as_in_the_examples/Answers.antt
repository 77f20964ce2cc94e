use Rattle.vote_count.proofs.Examples.{weaker_in_examples}
use Rattle.vote_count.proofs.laws.weaker_defeats_are_as_in_the_examples.Goals as goal

pub returns : goal.returns
returns c = weaker_in_examples
