-- Each poll that is read from a poll file has a sheet: its parts are counts of the lines, and what exists by the laws of the count.
use Rattle.std.proofs.Common.{◌≡◌, ◌-◌, ℕ, List, map, refl, ap, ◌∙◌, arith}
use Rattle.std.specs.List.{range_with_len}
use Rattle.std.proofs.lemmas.List.FromFn.{get_or-map-range_with_len}
use Rattle.vote_poll.specs.Meant.{PollsKeepTheLimits}
use Rattle.vote_poll.specs.Options.{IsOption, at_option}
use Rattle.vote_poll.specs.PollContent.{PollContent, option_count}
use Rattle.vote_poll.proofs.OptionLaws.{at_option-in}
use Rattle.vote_count.specs.Laws.{DecisionsExist, OutcomesExist, QuorumsExist}
use Rattle.vote_count.specs.Rounds.{final_set}
use Rattle.vote_count.specs.Votes.{Votes, votes}
use Rattle.vote_steps.specs.LastBallots.{refused_count, valid_count, voter_count, votes_for}
use Rattle.vote_sheet.specs.Sheet.{Sheet, Text, sheet_text}
use Rattle.vote_sheet.specs.SheetOf.{SheetExists}

-- a list with one entry for each of n options
abbrev entries : {X : Type 0} → ℕ → (ℕ → X) → List X
entries n f = map f (range_with_len 1 n)

entries_at : {X : Type 0} (n : ℕ) (f : ℕ → X) (o : ℕ) (d : X) → IsOption n o → at_option (entries n f) o d ≡ f o
entries_at n f o d is = at_option-in (entries n f) o d is.0 ∙ get_or-map-range_with_len f 1 n (o - 1) o d (omega (arith, is.0, is.1)) (omega (arith, is.0))

-- the matrix with the votes over each elector's last valid ballot
counted : PollContent → List Text → Votes
counted poll lines = let n = option_count poll in record { options = n; rows = entries n (λ a. entries n (votes_for poll lines a)) }

size_is : (poll : PollContent) (lines : List Text) → (counted poll lines).options ≡ option_count poll
unfolding counted
size_is poll lines = refl

votes_are : (poll : PollContent) (lines : List Text) (a b : ℕ) → IsOption (option_count poll) a → IsOption (option_count poll) b → votes (counted poll lines) a b ≡ votes_for poll lines a b
unfolding counted
votes_are poll lines a b is_a is_b =
    let n = option_count poll in
    ap (λ row. at_option row b 0) (entries_at n (λ x. entries n (votes_for poll lines x)) a _ is_a) ∙ entries_at n (votes_for poll lines a) b 0 is_b

pub sheet_exists : PollsKeepTheLimits → OutcomesExist → DecisionsExist → QuorumsExist → SheetExists
sheet_exists limits outcomes decisions quorums file poll lines casting meant =
    let is = limits file poll meant in
    let matrix = counted poll lines in
    let quorum = quorums poll in
    let outcome = outcomes poll matrix (omega (arith, is.options_min)) in
    let decision = decisions (final_set outcome.0.rounds) casting in
    let sheet : Sheet = record {
      quorum_votes = quorum.0;
      valid = valid_count poll lines;
      refused = refused_count poll lines;
      voters = voter_count poll lines;
      matrix = matrix;
      outcome = outcome.0;
      decision = decision.0;
    } in (
      sheet_text poll lines sheet,
      (
        sheet,
        record {
          quorum = quorum.1;
          valid = refl;
          refused = refl;
          voters = refl;
          size = size_is poll lines;
          counted = votes_are poll lines;
          outcome = outcome.1;
          decision = decision.1;
        },
        refl,
      ),
    )
