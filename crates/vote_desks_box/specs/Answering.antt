-- The answers of a shared box. Another desk may come first, so each answer is known only as the answer after some legal history of the box.
use Rattle.std.specs.Prelude.{◌≡◌, ℕ, ◌↔◌, List, Option, Result, Err, IsTrue}
use Rattle.vote_poll.specs.declared.Reading.{Reading}
use Rattle.vote_steps.specs.declared.AlreadyClosed.{AlreadyClosed}
use Rattle.vote_steps.specs.declared.Step.{Step}
use Rattle.vote_steps.specs.Boxes.{BoxState, IsLegal}
use Rattle.vote_steps.specs.History.{is_closed, standing_ranks}
use Rattle.vote_desks_box.specs.Desks.{next_slip}
use Rattle.vote_desks_box.specs.declared.slip.Slip.{Slip}

-- there are legal steps after which a cast with this stamp and this reading gives this slip: the number of the next step, the stamp, and the reply that these steps call for
pub record CanNote (b : BoxState) (stamp : ℕ) (reading : Reading) (slip : Slip) : Type 0 where
  pub steps : List Step
  pub legal : IsLegal (record b { steps = steps })
  pub noted : slip ≡ next_slip (record b { steps = steps }) stamp reading

-- there are legal steps after which a close has this result: it is refused exactly when these steps have closed the box
pub record CanClose (b : BoxState) (result : Result (Unit {0}) AlreadyClosed) : Type 0 where
  pub steps : List Step
  pub legal : IsLegal (record b { steps = steps })
  pub already : (result ≡ Err record {}) ↔ IsTrue (is_closed steps)

-- there are legal steps after which the voter's ballot that stands has these ranks; None if none stands
pub record CanStand (b : BoxState) (voter : ℕ) (ranks : Option (List (Option ℕ))) : Type 0 where
  pub steps : List Step
  pub legal : IsLegal (record b { steps = steps })
  pub stands : ranks ≡ standing_ranks b.last_in_time steps voter
