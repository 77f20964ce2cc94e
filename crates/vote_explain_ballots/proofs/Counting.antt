-- How many lines are refused.
use Rattle.vote_explain_ballots.proofs.Words.{◌≡◌, ◌+◌, ◌-◌, ◌∙◌, ℕ, zero, suc, List, [], ◌∷◌, length, drop, take, refl, ap, Bool, not, arith, filter, enumerate_from, flat_map, nat_tests, common_steps, PollContent, last_in_time, is_ballot}
use Rattle.vote_explain_ballots.proofs.Words.{readings, Reading, Text, EachRefusalIsListed, refusal_of}
use Rattle.std.proofs.lemmas.List.Sums.{length-filter}
use Rattle.vote_steps.specs.LastBallots.{readings_in_time}

abbrev is_no_ballot : Reading → Bool
is_no_ballot read = not (is_ballot read)

-- of the lines that are left, where this many are not late
listed : (poll : PollContent) (m number : ℕ) (lines : List Text) → m ≡ last_in_time poll - number
    → length (flat_map (refusal_of poll) (enumerate_from (number + 1) lines)) ≡ length (filter is_no_ballot (take m (readings poll lines))) + length (drop m lines)
listed poll zero number [] is = refl
listed poll (suc m) number [] is = refl
listed poll zero number (line ∷ lines) is = grind (arith, nat_tests, common_steps, listed poll zero (number + 1) lines (omega arith))
listed poll (suc m) number (line ∷ lines) is = grind (arith, nat_tests, common_steps, listed poll m (number + 1) lines (omega arith))

pub each_is_listed : EachRefusalIsListed
each_is_listed poll lines = listed poll (last_in_time poll) 0 lines (omega arith) ∙ ap (λ n. n + length (drop (last_in_time poll) lines)) (length-filter is_no_ballot (readings_in_time poll lines))
