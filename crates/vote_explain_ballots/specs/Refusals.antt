-- Which lines of a ballot file are refused, and why, and that the box of `steps` replies so.
use Rattle.std.specs.Prelude.{◌≡◌, ℕ, ◌+◌, if◌then◌else◌, List, length, Option, Some, None, option_and_then, option_map, option_to_list, slice_get}
use Rattle.std.specs.List.{enumerate_from, flat_map}
use Rattle.vote_poll.specs.PollContent.{PollContent, last_in_time}
use Rattle.vote_poll.specs.Readings.{reading, readings}
use Rattle.vote_poll.specs.declared.Reading.{Reading}
use Rattle.vote_poll.specs.declared.Reading.TheVariants.{Ballot, Bad}
use Rattle.vote_steps.specs.Boxes.{BoxState}
use Rattle.vote_steps.specs.HeldLines.{AreCastInOrder, HoldsLines}
use Rattle.vote_steps.specs.History.{is_late, is_valid}
use Rattle.vote_steps.specs.declared.Reply.{Reply}
use Rattle.vote_steps.specs.declared.Reply.TheVariants.{BadLine, Late}
use Rattle.vote_steps.specs.declared.Step.{Step}
use Rattle.vote_steps.specs.declared.Step.TheVariants.{Cast, Close}
use Rattle.vote_steps.specs.LastBallots.{refused_count}
use Rattle.vote_poll_text.specs.Texts.{Text}

-- a line that is refused: the number of its envelope, from 1, its bytes, and its reply
pub record Refusal : Type 0 where
  pub number : ℕ
  pub bytes : Text
  pub reply : Reply

-- a line that is no ballot is refused for its fault
abbrev pub bad_reply : Reading → Option Reply
bad_reply (Bad fault) = Some (BadLine fault)
bad_reply (Ballot voter ranks) = None

-- the reply that refuses an envelope: a late one whatever its line reads as, and another where it is no ballot
abbrev pub refusing_reply : ℕ → ℕ → Reading → Option Reply
refusing_reply last number reading = if is_late last number then Some Late else bad_reply reading

-- the refusal of a line by this reply, where there is one
abbrev pub refusal_by : ℕ → Text → Option Reply → List Refusal
refusal_by number bytes reply = option_to_list (option_map (λ reply. record { number = number; bytes = bytes; reply = reply }) reply)

-- the refusal of a line with its number, where it is refused
abbrev pub refusal_of : PollContent → ℕ × Text → List Refusal
refusal_of poll line = refusal_by line.0 line.1 (refusing_reply (last_in_time poll) line.0 (reading poll line.1))

-- the lines that are refused, in their order
abbrev pub refusals : PollContent → List Text → List Refusal
refusals poll lines = flat_map (refusal_of poll) (enumerate_from 1 lines)

-- as many lines are listed as the result sheet has refused lines
abbrev pub EachRefusalIsListed : Type 0
EachRefusalIsListed = (poll : PollContent) (lines : List Text) → length (refusals poll lines) ≡ refused_count poll lines

-- the reply of a step that refuses its line
abbrev pub refusing : Step → Option Reply
refusing Close = None
refusing (Cast desk stamp reading reply) = if is_valid reply then None else Some reply

-- that of the step at a place
abbrev pub refusing_at : List Step → ℕ → Option Reply
refusing_at steps place = option_and_then refusing (slice_get steps place)

-- the box of `steps` refuses the lines that are listed, and no others, each with the reply that is told
abbrev pub RefusedAsBySteps : Type 0
RefusedAsBySteps =
    (poll : PollContent) (lines : List Text) (b : BoxState) → HoldsLines poll lines b → AreCastInOrder (readings poll lines) b.steps
    → (place : ℕ) (bytes : Text) → slice_get lines place ≡ Some bytes
    → refusing_at b.steps place ≡ refusing_reply (last_in_time poll) (place + 1) (reading poll bytes)
