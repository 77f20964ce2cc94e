-- Facts about every legal history, and about the votes of the ballots that stand.
use Rattle.std.specs.Prelude.{◌≡◌, ℕ, ◌+◌, ◌≤◌, ◌==◌, List, [], ◌∷◌, ◌++◌, Option, length, count_by}
use Rattle.std.specs.List.{IsDistinct}
use Rattle.vote_count.specs.Ballots.{entry_prefers}
use Rattle.vote_poll.specs.declared.Reading.{Reading}
use Rattle.vote_poll.specs.declared.Reading.TheVariants.{Ballot}
use Rattle.vote_steps.specs.declared.step.Reply.{Reply}
use Rattle.vote_steps.specs.declared.step.Reply.TheVariants.{BoxClosed, Counted, Late, Replaced, Superseded}
use Rattle.vote_steps.specs.declared.step.Step.{Step}
use Rattle.vote_steps.specs.declared.step.Step.TheVariants.{Cast, Close}
use Rattle.vote_steps.specs.History.{is_close, reply_to, stamps, standing_votes, standing_ballots}
use Rattle.vote_steps.specs.Boxes.{BoxState, IsLegal, UsesAll}

-- no two casts of a legal history have the same stamp
abbrev pub StampsAreDistinct : Type 0
StampsAreDistinct = (b : BoxState) → IsLegal b → IsDistinct ◌==◌ (stamps b.steps)

-- a legal history with as many casts as stamps, which are the numbers 1 to its limit, uses each stamp
abbrev pub EachStampIsUsed : Type 0
EachStampIsUsed = (b : BoxState) → IsLegal b → UsesAll b

-- a box is closed at most once
abbrev pub ClosesOnce : Type 0
ClosesOnce = (b : BoxState) → IsLegal b → count_by is_close b.steps ≤ 1

-- a legal history has at most one step for each stamp, and a close
abbrev pub HasRoomForAll : Type 0
HasRoomForAll = (b : BoxState) → IsLegal b → length b.steps ≤ b.limit + 1

-- the votes of a history are the votes of a recount of the ballots that stand
abbrev pub VotesAreRecounted : Type 0
VotesAreRecounted = (last_in_time : ℕ) (steps : List Step) (electors a b : ℕ) → standing_votes last_in_time steps electors a b ≡ count_by (entry_prefers a b) (standing_ballots last_in_time steps electors)

-- each cast of a legal history is at one of the desks 1 to 8
abbrev pub CastsAreAtDesks : Type 0
CastsAreAtDesks =
    (b : BoxState) (before after : List Step) (desk stamp : ℕ) (reading : Reading) (reply : Reply) →
    IsLegal b → b.steps ≡ before ++ Cast desk stamp reading reply ∷ after → (1 ≤ desk) × (desk ≤ 8)

-- Examples to check by hand: the box has envelope 5, a ballot of voter 0, and no envelope above 9 is in time. These are the replies to the next envelope: to 3 or 8 of this voter, to 3 or 10 of another voter, and to 8 of this voter after the close.
pub record AreReplies (steps : List Step) (ranks : List (Option ℕ)) : Type 0 where
  pub earlier : reply_to 9 steps 3 (Ballot 0 ranks) ≡ Superseded
  pub later : reply_to 9 steps 8 (Ballot 0 ranks) ≡ Replaced
  pub another : reply_to 9 steps 3 (Ballot 1 ranks) ≡ Counted
  pub too_late : reply_to 9 steps 10 (Ballot 1 ranks) ≡ Late
  pub closed : reply_to 9 (steps ++ Close ∷ []) 8 (Ballot 0 ranks) ≡ BoxClosed

abbrev pub RepliesAsInTheExamples : Type 0
RepliesAsInTheExamples = (desk : ℕ) (first ranks : List (Option ℕ)) → AreReplies (Cast desk 5 (Ballot 0 first) Counted ∷ []) ranks
