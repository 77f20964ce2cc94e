use Rattle.std.proofs.Common.{rules, ◌≡◌}
use Rattle.vote_poll.specs.Comparisons.{is_same_reading}
use Rattle.vote_poll.proofs.Equality.{same_reading}
use Rattle.vote_poll.proofs.reading.ReadingPartialEq.eq.Goals as goal

pub returns-then-voter-other_voter-clause-same : goal.returns-then-voter-other_voter-clause-same
returns-then-voter-other_voter-clause-same c =
    let test : c.eq.result ≡ is_same_reading c.args.self.now c.args.other.now = search rules in
    rw test (same_reading c.args.self.now c.args.other.now)
