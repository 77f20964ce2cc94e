-- What it means that a ballot box holds the lines of a poll.
use Rattle.std.specs.Prelude.{◌≡◌, ℕ, ◌+◌, List, [], ◌∷◌, ◌++◌, length, All, Some, slice_get}
use Rattle.vote_poll.specs.PollContent.{PollContent, elector_count, last_in_time, option_count}
use Rattle.vote_poll.specs.declared.Reading.{Reading}
use Rattle.vote_poll.specs.Readings.{readings}
use Rattle.vote_steps.specs.declared.step.Reply.{Reply}
use Rattle.vote_steps.specs.declared.step.Step.{Step}
use Rattle.vote_steps.specs.declared.step.Step.TheVariants.{Cast, Close}
use Rattle.vote_steps.specs.History.{before_close}
use Rattle.vote_steps.specs.Boxes.{BoxState, IsLegal}
use Rattle.vote_steps.specs.Recasts.{HasOwnReading}

-- the box has the sizes and the last envelope of the poll, and a stamp for each line
abbrev pub HasSizes : PollContent → List (List ℕ) → BoxState → Type 0
HasSizes poll lines b = (b.options ≡ option_count poll) × (b.electors ≡ elector_count poll) × (b.limit ≡ length lines) × (b.last_in_time ≡ last_in_time poll)

-- Together these say that each line is cast exactly once: there are as many casts as lines, and each cast has its own stamp from 1 to their number.
pub record HoldsLines (poll : PollContent) (lines : List (List ℕ)) (b : BoxState) : Type 0 where
  -- the box has the poll's sizes and last envelope, and a stamp for each line
  pub sizes : HasSizes poll lines b
  -- before the first close there are as many steps as lines, and all of them are casts
  pub casts : length (before_close b.steps) ≡ length lines
  -- each step may follow those before it
  pub legal : IsLegal b
  -- the only close is the last step
  pub closed_last : b.steps ≡ before_close b.steps ++ Close ∷ []
  -- each cast has the poll's reading of the line with its stamp
  pub own_readings : All (HasOwnReading (readings poll lines)) b.steps

-- desk 1 cast the lines in their order: the step at each line's index is the cast of that line
abbrev pub AreCastInOrder : List Reading → List Step → Type 0
AreCastInOrder readings steps =
    (place : ℕ) (reading : Reading) → slice_get readings place ≡ Some reading → (reply : Reply) × (slice_get steps place ≡ Some (Cast 1 (place + 1) reading reply))

-- there is only one box that holds the lines of a poll as desk 1 cast them in their order
abbrev pub OrderLeavesNoChoice : Type 0
OrderLeavesNoChoice =
    (poll : PollContent) (lines : List (List ℕ)) (b other : BoxState) → HoldsLines poll lines b → HoldsLines poll lines other
    → AreCastInOrder (readings poll lines) b.steps → AreCastInOrder (readings poll lines) other.steps → b ≡ other

-- any lines of a poll are held by a box, as desk 1 cast them in their order
abbrev pub LinesCanBeCast : Type 0
LinesCanBeCast = (poll : PollContent) (lines : List (List ℕ)) → (b : BoxState) × HoldsLines poll lines b × AreCastInOrder (readings poll lines) b.steps
