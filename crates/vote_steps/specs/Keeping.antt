-- How a ballot box keeps its history: how its fields follow from the steps.
use Rattle.std.specs.Prelude.{◌≡◌, ℕ, ◌+◌, ◌<◌, ◌≤◌, false, slice_index_or, vec_len, vec_capacity}
use Rattle.vote_poll_text.specs.declared.lines.TheConstants.{MAX_LINES}
use Rattle.vote_steps.specs.History.{is_closed, is_used, roll, valid, refused}
use Rattle.vote_steps.specs.Boxes.{BoxState, IsLegal}
use Rattle.vote_steps.specs.declared.ballot_box.BallotBox.TheInside.{Inside}

-- what callers see of a box
abbrev pub state_of : Inside → BoxState
state_of a = record { options = a.roll.matrix.options; electors = vec_len a.roll.ballots; limit = a.limit; last_in_time = a.last_in_time; steps = a.steps.items }

-- The fields follow from the steps. Each stamp has a mark, which says whether it is used. There is room for a step with each
-- stamp and for the close.
pub record KeepsHistory (a : Inside) : Type 0 where
  pub legal : IsLegal (state_of a)
  pub closed : a.closed ≡ is_closed a.steps.items
  pub roll_is : a.roll.ballots.items ≡ roll a.last_in_time a.steps.items (vec_len a.roll.ballots)
  pub valid_is : a.valid ≡ valid a.last_in_time a.steps.items
  pub refused_is : a.refused ≡ refused a.last_in_time a.steps.items
  pub used_is : (place : ℕ) → place < a.limit → slice_index_or a.used.items place false ≡ is_used a.steps.items (place + 1)
  pub places : vec_len a.used ≡ a.limit
  pub limit_fits : a.limit ≤ MAX_LINES
  pub last_fits : a.last_in_time ≤ MAX_LINES
  pub room : a.limit + 1 ≤ vec_capacity a.steps
