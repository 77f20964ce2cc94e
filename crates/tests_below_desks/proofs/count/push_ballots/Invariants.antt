use Rattle.std.proofs.Common.{All}
use Rattle.vote_poll.specs.PollContent.{option_count}
use Rattle.vote_count.specs.Ballots.{IsBallotOf}
use Rattle.tests_below_desks.proofs.count.push_ballots.Given as goal

abbrev pub invariant-loop-line : goal.invariant-loop-line
invariant-loop-line l = All (IsBallotOf (option_count l.poll)) l.ballots.items
