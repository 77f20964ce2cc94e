-- The limits as the documents write them.
use Rattle.std.specs.Prelude.{◌≡◌}
use Rattle.vote_steps.specs.declared.TheConstants.{MAX_DESKS}

-- the greatest number of desks is 8
abbrev pub DesksAreAsWritten : Type 0
DesksAreAsWritten = MAX_DESKS ≡ 8
