-- A ballot box as its callers see it: its sizes, and the history of what was done to it.
use Rattle.std.specs.Prelude.{◌≡◌, ℕ, ◌+◌, ◌<◌, ◌≤◌, ◌⊎◌, false, List, [], ◌∷◌, ◌++◌, count_by, IsTrue, if◌then◌else◌}
use Rattle.vote_poll.specs.PollContent.{PollContent, elector_count, last_in_time, option_count}
use Rattle.vote_poll.specs.declared.Reading.{Reading}
use Rattle.vote_poll.specs.Readings.{ReadingFits}
use Rattle.vote_count.specs.Ballots.{EachTwo}
use Rattle.vote_count.specs.Votes.{Votes, votes}
use Rattle.vote_steps.specs.declared.step.Reply.{Reply}
use Rattle.vote_steps.specs.declared.step.Step.{Step}
use Rattle.vote_steps.specs.declared.step.Step.TheVariants.{Cast, Close}
use Rattle.vote_steps.specs.declared.TheConstants.{MAX_DESKS}
use Rattle.vote_steps.specs.History.{is_cast, is_closed, is_used, is_valid, refused, reply_to, standing_votes, valid, voters}

-- its options with the default, its electors, the greatest stamp that it takes, the greatest stamp that is not late, and its steps, oldest first
pub record BoxState : Type 0 where
  pub options : ℕ
  pub electors : ℕ
  pub limit : ℕ
  pub last_in_time : ℕ
  pub steps : List Step

-- the box of a poll, with the stamps 1 to the limit, after these steps
abbrev pub box_of : PollContent → ℕ → List Step → BoxState
box_of poll limit steps = record {
  options = option_count poll;
  electors = elector_count poll;
  limit = limit;
  last_in_time = last_in_time poll;
  steps = steps;
}

-- an open box with no steps
abbrev pub empty_box : ℕ → ℕ → ℕ → ℕ → BoxState
empty_box options electors limit last_in_time = record { options = options; electors = electors; limit = limit; last_in_time = last_in_time; steps = [] }

-- how many lines count so far, how many do not, how many voters have a ballot that stands, and how many prefer A to B
abbrev pub valid_in : BoxState → ℕ
valid_in b = valid b.last_in_time b.steps

abbrev pub refused_in : BoxState → ℕ
refused_in b = refused b.last_in_time b.steps

abbrev pub voters_in : BoxState → ℕ
voters_in b = voters b.last_in_time b.steps b.electors

abbrev pub votes_in : BoxState → ℕ → ℕ → ℕ
votes_in b = standing_votes b.last_in_time b.steps b.electors

-- the reply that the steps so far call for
abbrev pub reply_in : BoxState → ℕ → Reading → Reply
reply_in b stamp reading = reply_to b.last_in_time b.steps stamp reading

-- the box has one more step, which is a cast, or the close; otherwise it is as it was
abbrev pub AddsCast : BoxState → BoxState → ℕ → ℕ → Reading → Reply → Type 0
AddsCast before after desk stamp reading reply = after ≡ record before { steps = before.steps ++ Cast desk stamp reading reply ∷ [] }

abbrev pub AddsClose : BoxState → BoxState → Type 0
AddsClose before after = after ≡ record before { steps = before.steps ++ Close ∷ [] }

-- the box after a cast with the reply that the steps so far call for
abbrev pub after_cast : BoxState → ℕ → ℕ → Reading → BoxState
after_cast b desk stamp reading = record b { steps = b.steps ++ Cast desk stamp reading (reply_in b stamp reading) ∷ [] }

-- one more valid line if the reply says so, and one more refused line if it does not
abbrev pub CountsValid : BoxState → BoxState → Reply → Type 0
CountsValid before after reply = valid_in after ≡ valid_in before + (if is_valid reply then 1 else 0)

abbrev pub CountsRefused : BoxState → BoxState → Reply → Type 0
CountsRefused before after reply = refused_in after ≡ refused_in before + (if is_valid reply then 0 else 1)

-- the stamp is not a stamp of the box
abbrev pub IsOutOfRange : BoxState → ℕ → Type 0
IsOutOfRange b stamp = (stamp ≡ 0) ⊎ (b.limit < stamp)

-- the stamp is a stamp of the box, and a step has it
abbrev pub HasUsed : BoxState → ℕ → Type 0
HasUsed b stamp = (1 ≤ stamp) × (stamp ≤ b.limit) × IsTrue (is_used b.steps stamp)

-- a matrix has the votes of the ballots that stand
abbrev pub HasVotesOf : BoxState → Votes → Type 0
HasVotesOf b matrix = EachTwo b.options (λ x y. votes matrix x y ≡ votes_in b x y)

-- a cast that may come after the steps before it
pub record MayBeCast (b : BoxState) (before : List Step) (desk stamp : ℕ) (reading : Reading) (reply : Reply) : Type 0 where
  pub desk_fits : (1 ≤ desk) × (desk ≤ MAX_DESKS)
  pub stamp_fits : (1 ≤ stamp) × (stamp ≤ b.limit)
  pub stamp_new : is_used before stamp ≡ false
  pub reading_fits : ReadingFits b.options b.electors reading
  pub answered : reply ≡ reply_to b.last_in_time before stamp reading

-- a step that may come after the steps before it
abbrev pub MayFollow : BoxState → List Step → Step → Type 0
MayFollow b before Close = is_closed before ≡ false
MayFollow b before (Cast desk stamp reading reply) = MayBeCast b before desk stamp reading reply

-- a history that a box of these sizes can have: each of its steps may follow those before it
abbrev pub IsLegal : BoxState → Type 0
IsLegal b = (before after : List Step) (step : Step) → b.steps ≡ before ++ step ∷ after → MayFollow b before step

-- if there are as many casts as stamps, each stamp is used
abbrev pub UsesAll : BoxState → Type 0
UsesAll b = count_by is_cast b.steps ≡ b.limit → (stamp : ℕ) → 1 ≤ stamp → stamp ≤ b.limit → IsTrue (is_used b.steps stamp)
