use Rattle.std.proofs.Common.{All}
use Rattle.vote_poll.specs.PollContent.{option_count}
use Rattle.vote_count.specs.Ballots.{IsBallotOf}
use Rattle.tests_below_desks.proofs.count.push_relation.Given as goal

abbrev pub invariant-loop-pair : goal.invariant-loop-pair
invariant-loop-pair l = All (IsBallotOf (option_count l.poll)) l.ballots.items
