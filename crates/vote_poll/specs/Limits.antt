-- The limits of a poll and of a ballot line, which are also in docs/FORMATS.md.
use Rattle.std.specs.Prelude.{◌≡◌}
use Rattle.vote_poll.specs.declared.TheConstants.{MAX_OPTIONS, MAX_ELECTORS, MAX_RATIO, MAX_QUORUM_MULTIPLE, MAX_RANK, MAX_LINE}

pub record LimitsAreAsWritten : Type 0 where
  pub options : MAX_OPTIONS ≡ 32
  pub electors : MAX_ELECTORS ≡ 10_000
  pub ratio : MAX_RATIO ≡ 10
  pub quorum_multiple : MAX_QUORUM_MULTIPLE ≡ 10
  pub rank : MAX_RANK ≡ 99
  pub line : MAX_LINE ≡ 200
