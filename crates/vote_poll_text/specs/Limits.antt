-- The limits of texts, which are also in docs/FORMATS.md.
use Rattle.std.specs.Prelude.{◌≡◌}
use Rattle.vote_poll_text.specs.declared.TheConstants.{MAX_VOTER_NAME, MAX_TITLE, MAX_OPTION_NAME}
use Rattle.vote_poll_text.specs.declared.lines.TheConstants.{MAX_LINES}

pub record LimitsAreAsWritten : Type 0 where
  pub title : MAX_TITLE ≡ 80
  pub option_name : MAX_OPTION_NAME ≡ 40
  pub voter_name : MAX_VOTER_NAME ≡ 32
  pub lines : MAX_LINES ≡ 100_000
