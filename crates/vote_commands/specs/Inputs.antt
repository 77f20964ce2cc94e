-- What a run that counts is given.
use Rattle.std.specs.Prelude.{ℕ, Option, option_copied}
use Rattle.std.proofs.Common.{Bor}
use Rattle.vote_poll_text.specs.Texts.{Text}

-- the bytes of a poll file and of a ballot file, the number of desks, and the option that the casting vote names, if there is one
pub record Inputs : Type 0 where
  pub poll : Text
  pub ballots : Text
  pub desks : ℕ
  pub casting : Option Text

-- the inputs with the bytes to which these references point
abbrev pub inputs_at : Bor Text → Bor Text → ℕ → Option (Bor Text) → Inputs
inputs_at poll ballots desks casting = record { poll = poll.now; ballots = ballots.now; desks = desks; casting = option_copied casting }
