-- How many desks may enter ballots at the same time.
use Rattle.std.specs.Prelude.{ℕ, ◌≤◌}
use Rattle.vote_steps.specs.declared.TheConstants.{MAX_DESKS}

abbrev pub AreDesks : ℕ → Type 0
AreDesks desks = (1 ≤ desks) × (desks ≤ MAX_DESKS)
