-- Which polls a text can mean: the law.
use Rattle.std.specs.Prelude.{◌≡◌, ℕ, List, Ok}
use Rattle.vote_poll.specs.PollContent.{IsPoll, PollContent}
use Rattle.vote_poll.specs.PollFile.{poll_in}

-- a poll that a text means keeps the limits of a poll
abbrev pub PollsKeepTheLimits : Type 0
PollsKeepTheLimits = (text : List ℕ) (poll : PollContent) → poll_in text ≡ Ok poll → IsPoll poll
