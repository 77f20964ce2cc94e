use Rattle.std.proofs.Common.{◌≡◌, vec_len}
use Rattle.std.specs.List.{All}
use Rattle.vote_count.specs.Ballots.{IsBallotOf}
use Rattle.tests_below_desks.proofs.steps.recounted.Given as goal

abbrev pub invariant-loop-voter : goal.invariant-loop-voter
invariant-loop-voter l = record { places : vec_len l.ballots ≡ l.voter; ballots : All (IsBallotOf l.ballot_box.options) l.ballots.items }
