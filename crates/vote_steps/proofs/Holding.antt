-- What a box that holds the lines of a poll says about them, in the terms of the sheet.
use Rattle.std.proofs.Common.{◌≡◌, ℕ, ◌+◌, zero, suc, not, List, [], ◌∷◌, length, map, take, drop, refl, ap, ◌∙◌, arith}
use Rattle.std.specs.Prelude.{Bool, count_by, is_some}
use Rattle.std.specs.List.{range_with_len}
use Rattle.std.proofs.lemmas.List.{length-map}
use Rattle.std.proofs.lemmas.List.Filters.{length-filter_both}
use Rattle.std.proofs.lemmas.List.Sums.{length-filter}
use Rattle.vote_poll.specs.PollContent.{PollContent, last_in_time}
use Rattle.vote_poll.specs.Readings.{is_ballot, reading, readings}
use Rattle.vote_count.specs.Ballots.{entry_prefers}
use Rattle.vote_steps.specs.History.{refused, standing_votes, valid, voters}
use Rattle.vote_steps.specs.Boxes.{BoxState}
use Rattle.vote_steps.specs.Recasts.{last_ballot}
use Rattle.vote_steps.specs.Standing.{CountsLines}
use Rattle.vote_steps.specs.HeldLines.{HasSizes}
use Rattle.vote_steps.specs.LastBallots.{readings_in_time, refused_count, valid_count, voter_count, votes_for}

-- the elements that pass a test and those that do not are all elements
pub count-not : {X : Type 0} (p : X → Bool) (xs : List X) → count_by p xs + count_by (λ x. not (p x)) xs ≡ length xs
count-not {X} p xs =
    let q : X → Bool = λ x. not (p x) in
    omega (arith, length-filter_both p q (λ x. refl) xs, length-filter p xs, length-filter q xs)

-- the readings of the first n lines and the lines that are left are as many as all lines
pub taken_and_left : (poll : PollContent) (lines : List (List ℕ)) (n : ℕ) → length (take n (readings poll lines)) + length (drop n lines) ≡ length lines
taken_and_left poll [] zero = omega arith
taken_and_left poll [] (suc n) = omega arith
taken_and_left poll (line ∷ lines) zero = omega arith
taken_and_left poll (line ∷ lines) (suc n) = omega (arith, taken_and_left poll lines n)

module _ (poll : PollContent) (lines : List (List ℕ)) (b : BoxState) (sizes : HasSizes poll lines b) (counted : CountsLines (readings poll lines) b) where
  pub votes_are : (x y : ℕ) → standing_votes b.last_in_time b.steps b.electors x y ≡ votes_for poll lines x y
  votes_are x y =
      counted.votes_are x y
      ∙ (ap (λ n. count_by (entry_prefers x y) (map (last_ballot (take n (readings poll lines))) (range_with_len 0 b.electors))) sizes.3
      ∙ ap (λ n. count_by (entry_prefers x y) (map (last_ballot (readings_in_time poll lines)) (range_with_len 0 n))) sizes.1)

  pub voters_are : voters b.last_in_time b.steps b.electors ≡ voter_count poll lines
  voters_are =
      counted.voters_are
      ∙ (ap (λ n. count_by is_some (map (last_ballot (take n (readings poll lines))) (range_with_len 0 b.electors))) sizes.3
      ∙ ap (λ n. count_by is_some (map (last_ballot (readings_in_time poll lines)) (range_with_len 0 n))) sizes.1)

  pub valid_are : valid b.last_in_time b.steps ≡ valid_count poll lines
  valid_are = counted.valid_is ∙ ap (λ n. count_by is_ballot (take n (readings poll lines))) sizes.3

  pub refused_are : refused b.last_in_time b.steps ≡ refused_count poll lines
  refused_are =
      omega (arith, counted.refused_is, length-map lines (reading poll), valid_are, count-not is_ballot (readings_in_time poll lines), taken_and_left poll lines (last_in_time poll))
