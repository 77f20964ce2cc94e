-- How much of a line is shown at most, as docs/FORMATS.md says.
use Rattle.std.specs.Prelude.{◌≡◌}
use Rattle.vote_sheet.specs.declared.TheConstants.{MAX_SHOWN_OF_LINE}

pub record LimitsAreAsWritten : Type 0 where
  pub shown : MAX_SHOWN_OF_LINE ≡ 120
