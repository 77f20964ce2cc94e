-- From the lines of a ballot file to the sheet: what the laws of the count say about matrices and rounds holds for what people see.
use Rattle.std.proofs.Common.{◌≡◌, ℕ, ◌≤◌, ◌<◌, List, Option, None, Some, inl, inr, refl, subst, arith}
use Rattle.vote_poll.specs.Options.{IsOption}
use Rattle.vote_poll.specs.PollContent.{PollContent, option_count}
use Rattle.vote_count.specs.declared.Cause.{Cause}
use Rattle.vote_count.specs.declared.Cause.TheVariants.{Quorum, Majority}
use Rattle.vote_count.specs.declared.Decision.{Decision}
use Rattle.vote_count.specs.declared.Decision.TheVariants.{Winner}
use Rattle.vote_count.specs.Laws.{CondorcetWinnersWin, FinalSetIsOne, FinalSetIsPareto, FinalSetIsSchulze, RaisedBallotsRaise, RaisedWinnersWin, WinnersAreInTheSet}
use Rattle.vote_count.specs.Rounds.{HasCause, IsDecision, cause_of, final_set}
use Rattle.vote_count.specs.Rules.{IsKept}
use Rattle.vote_count.specs.Votes.{Votes, votes}
use Rattle.vote_steps.specs.LastBallots.{last_valid_ballots, votes_for}
use Rattle.vote_sheet.specs.Sheet.{Sheet, Text}
use Rattle.vote_sheet.specs.SheetLaws.{CondorcetWinnersAreNamed, IsLeft, IsNotDropped, LikedOptionsStay, LikedWinnersStay, UnanimityRules}
use Rattle.vote_sheet.specs.SheetOf.{IsSheetOf}

-- an option that is kept is an option
kept_option : (poll : PollContent) (matrix : Votes) (o : ℕ) → 1 ≤ option_count poll → IsKept poll matrix o → IsOption (option_count poll) o
kept_option poll matrix o some kept =
    elim kept [
      | inl default ↦ (omega (arith, default), omega (arith, default))
      | inr other ↦ (other.0, omega (arith, other.1))
    ]

-- an option that is kept is not dropped for any cause
no_cause : (poll : PollContent) (matrix : Votes) (o : ℕ) (cause : Option Cause) → HasCause poll matrix o cause → IsKept poll matrix o → cause ≡ None
no_cause poll matrix o None has kept = refl
no_cause poll matrix o (Some Quorum) has kept =
    elim kept [ inl default ↦ absurd (omega (arith, default, has.0)) | inr other ↦ absurd (has.1 other.2) ]
no_cause poll matrix o (Some Majority) has kept =
    elim kept [ inl default ↦ absurd (omega (arith, default, has.0)) | inr other ↦ absurd (has.2 other.3) ]

module _ (poll : PollContent) (lines : List Text) (casting : Option ℕ) (s : Sheet) (is : IsSheetOf poll lines casting s) where
  kept_there : (o : ℕ) → IsNotDropped poll s o → IsKept poll s.matrix o
  kept_there o there = subst (HasCause poll s.matrix o) there.1 (is.outcome.causes o there.0)

  not_dropped : (o : ℕ) → 1 ≤ option_count poll → IsKept poll s.matrix o → IsNotDropped poll s o
  not_dropped o some kept =
      let option = kept_option poll s.matrix o some kept in
      (option, no_cause poll s.matrix o (cause_of s.outcome o) (is.outcome.causes o option) kept)

  -- a winner that the sheet names is left
  named_is_left : WinnersAreInTheSet → (o : ℕ) → s.decision ≡ Winner o → IsLeft s o
  named_is_left winners o named =
      let P : Decision → Type 0 = IsDecision (final_set s.outcome.rounds) casting in winners (final_set s.outcome.rounds) casting o (subst P named is.decision)

  more_votes : (a b : ℕ) → IsOption (option_count poll) a → IsOption (option_count poll) b → votes_for poll lines b a < votes_for poll lines a b → votes s.matrix b a < votes s.matrix a b
  more_votes a b of_a of_b more = omega (arith, is.counted a b of_a of_b, is.counted b a of_b of_a, more)

pub liked_options : FinalSetIsOne → FinalSetIsSchulze → RaisedBallotsRaise → RaisedWinnersWin → LikedOptionsStay
liked_options one schulze raise win poll lines raised casting other s r a is_poll likes is_s is_r left =
    let in_final = (one poll s.matrix s.outcome.rounds is_s.outcome.rounds a).0 left in
    let options : 1 ≤ option_count poll = omega (arith, is_poll.options_min) in
    let kept = ((schulze poll s.matrix a options).0 in_final).0 in
    let option = kept_option poll s.matrix a options kept in
    (one poll r.matrix r.outcome.rounds is_r.outcome.rounds a).1 (win poll s.matrix r.matrix a is_poll
    (raise (option_count poll) a (last_valid_ballots poll lines) (last_valid_ballots poll raised) s.matrix r.matrix option likes is_s.counted is_r.counted)
    in_final)

pub liked_winners : LikedOptionsStay → WinnersAreInTheSet → LikedWinnersStay
liked_winners stay winners poll lines raised other s r a is_poll likes is_s is_r named =
    stay poll lines raised None other s r a is_poll likes is_s is_r (named_is_left poll lines None s is_s winners a named)

pub unanimity : FinalSetIsOne → FinalSetIsPareto → WinnersAreInTheSet → UnanimityRules
unanimity one pareto winners poll lines casting s a b is there distinct unanimous =
    let out : ¬ IsLeft s b =
    λ left. pareto poll (last_valid_ballots poll lines) s.matrix a b is.counted (kept_there poll lines casting s is a there) distinct unanimous
    ((one poll s.matrix s.outcome.rounds is.outcome.rounds b).0 left) in
    (out, λ named. out (named_is_left poll lines casting s is winners b named))

pub condorcet_named : FinalSetIsOne → CondorcetWinnersWin → CondorcetWinnersAreNamed
condorcet_named one win poll lines casting s a is wins =
    let kept = kept_there poll lines casting s is a wins.0 in
    let some : 1 ≤ option_count poll = omega (arith, wins.0.0.0, wins.0.0.1) in
    let alone = win poll s.matrix a some (
      kept,
      λ b kept_b other.
          let there = not_dropped poll lines casting s is b some kept_b in
          (kept, kept_b, more_votes poll lines casting s is a b wins.0.0 there.0 (wins.1 b there other)),
    ) in
    is.decision.alone a (λ o.
    let same = one poll s.matrix s.outcome.rounds is.outcome.rounds o in
    (λ left. (alone o).0 (same.0 left), λ is_a. same.1 ((alone o).1 is_a)))
