-- What `steps` and `check` write.
use Rattle.std.specs.Prelude.{◌≡◌, List, [], ◌∷◌, codes, decimal}
use Rattle.std.specs.List.{flat_map}
use Rattle.vote_poll.specs.PollContent.{PollContent, elector_count, option_count}
use Rattle.vote_poll.specs.Readings.{readings}
use Rattle.vote_steps.specs.declared.Step.{Step}
use Rattle.vote_steps.specs.declared.Step.TheVariants.{Cast, Close}
use Rattle.vote_steps.specs.Boxes.{BoxState}
use Rattle.vote_steps.specs.HeldLines.{AreCastInOrder, HoldsLines}
use Rattle.vote_steps.specs.ReplyWords.{reply_words}
use Rattle.vote_poll_text.specs.Texts.{Text, line}

-- the line of a cast: the number of its envelope and the words of its reply; a close has no line
unfoldable pub step_line : Step → Text
step_line Close = []
step_line (Cast desk stamp reading reply) = line (decimal stamp ∷ codes " " ∷ reply_words reply ∷ [])

abbrev pub step_lines : List Step → Text
step_lines steps = flat_map step_line steps

-- the text of the steps of a box that holds the lines, which desk 1 cast in their order
abbrev pub IsStepsText : PollContent → List Text → Text → Type 0
IsStepsText poll lines text = (b : BoxState) × HoldsLines poll lines b × AreCastInOrder (readings poll lines) b.steps × (text ≡ step_lines b.steps)

-- the line for a valid poll
unfoldable pub check_text : PollContent → Text
check_text poll = line (codes "poll ok: " ∷ decimal (option_count poll) ∷ codes " options, " ∷ decimal (elector_count poll) ∷ codes " electors" ∷ [])

-- a poll and its lines have at most one such text
abbrev pub StepsAreDetermined : Type 0
StepsAreDetermined = (poll : PollContent) (lines : List Text) (text other : Text) → IsStepsText poll lines text → IsStepsText poll lines other → text ≡ other

-- a poll and its lines have such a text
abbrev pub StepsExist : Type 0
StepsExist = (poll : PollContent) (lines : List Text) → (text : Text) × IsStepsText poll lines text
