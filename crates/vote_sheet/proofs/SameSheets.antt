-- Two polls differ in the names on their rolls and in their last envelopes, and their files have voters that count the same: the sheets are the same but for the last envelope and the numbers of lines.
use Rattle.std.proofs.Common.{◌≡◌, ℕ, ◌*◌, ◌^◌, ◌<◌, ◌≤◌, ◌⊎◌, ◌↔◌, List, [], ◌∷◌, Option, None, Some, length, refl, sym, ap, ◌∙◌, subst, arith}
use Rattle.std.specs.Prelude.{count_by, is_some}
use Rattle.std.specs.List.{concat}
use Rattle.vote_poll.specs.PollContent.{PollContent, elector_count, option_count}
use Rattle.vote_count.specs.Ballots.{EachTwo, entry_prefers}
use Rattle.vote_count.specs.declared.Cause.{Cause}
use Rattle.vote_count.specs.declared.Cause.TheVariants.{Quorum, Majority}
use Rattle.vote_count.specs.Rounds.{AreRounds, HasCause, IsOutcome, VerdictState, cause_of}
use Rattle.vote_count.specs.Rules.{MeetsMajority, PairwiseDefeats}
use Rattle.vote_count.specs.Sets.{Pairs}
use Rattle.vote_count.specs.Votes.{Votes, votes}
use Rattle.vote_sheet.specs.ElectorLaws.{HaveSameSheets}
use Rattle.vote_steps.specs.LastBallots.{last_valid_ballots, refused_count, valid_count, voter_count, votes_for}
use Rattle.vote_sheet.specs.Sheet.{Sheet, Text, count_text, head_text, options_text, sheet_text, totals_text}
use Rattle.vote_sheet.specs.SheetOf.{IsSheetOf}
use Rattle.vote_sheet.proofs.ElectorSums.{valid-refused}

-- the poll with another roll and another last envelope
abbrev pub with_roll : PollContent → List Text → Option ℕ → PollContent
with_roll poll roll last = record poll { roll = roll; last_envelope = last }

-- two files have the same number of voters, and the same votes
pub record VoteTheSame (poll : PollContent) (lines : List Text) (again : PollContent) (others : List Text) : Type 0 where
  pub voters : voter_count again others ≡ voter_count poll lines
  pub counts : EachTwo (option_count poll) (λ a b. votes_for again others a b ≡ votes_for poll lines a b)

-- a sheet counts the same for two files
pub record CountTheSame (poll : PollContent) (lines : List Text) (again : PollContent) (others : List Text) : Type 0 where
  pub as_long : length others ≡ length lines
  pub valid : valid_count again others ≡ valid_count poll lines
  pub votes : VoteTheSame poll lines again others

pub count_the_same-back : (poll : PollContent) (lines : List Text) (again : PollContent) (others : List Text) → option_count again ≡ option_count poll → CountTheSame poll lines again others
    → CountTheSame again others poll lines
count_the_same-back poll lines again others options same = record {
  as_long = sym same.as_long;
  valid = sym same.valid;
  votes = record {
    voters = sym same.votes.voters;
    counts = λ a b of_a of_b. sym (same.votes.counts a b (of_a.0, omega (arith, of_a.1, options)) (of_b.0, omega (arith, of_b.1, options)));
  };
}

-- files of one poll count the same if they have the same last valid ballots, as many lines and as many valid lines
pub from_last_ballots : (poll : PollContent) (lines others : List Text) → length others ≡ length lines → valid_count poll others ≡ valid_count poll lines
    → last_valid_ballots poll others ≡ last_valid_ballots poll lines → CountTheSame poll lines poll others
from_last_ballots poll lines others long valid last = record {
  as_long = long;
  valid = valid;
  votes = record { voters = ap (count_by is_some) last; counts = λ a b of_a of_b. ap (count_by (entry_prefers a b)) last };
}

-- ---- of its roll, a poll uses only the number of electors
module _ (poll : PollContent) (matrix : Votes) where
  -- an option is kept if there are this many electors
  abbrev kept_among : ℕ → ℕ → Type 0
  kept_among electors o =
      (o ≡ option_count poll)
      ⊎ ((1 ≤ o) × (o < option_count poll) × (poll.quorum_multiple ^ 2 * electors ≤ (2 * votes matrix o (option_count poll)) ^ 2) × MeetsMajority poll matrix o)

  module _ (roll : List Text) (last : Option ℕ) (electors : elector_count poll ≡ length roll) where
    cause_there : (o : ℕ) (cause : Option Cause) → HasCause poll matrix o cause → HasCause (with_roll poll roll last) matrix o cause
    cause_there o None has = let P : ℕ → Type 0 = λ n. kept_among n o in subst P electors has
    cause_there o (Some Quorum) has =
        let P : ℕ → Type 0 = λ n. ¬ (poll.quorum_multiple ^ 2 * n ≤ (2 * votes matrix o (option_count poll)) ^ 2) in (has.0, subst P electors has.1)
    cause_there o (Some Majority) has =
        let P : ℕ → Type 0 = λ n. poll.quorum_multiple ^ 2 * n ≤ (2 * votes matrix o (option_count poll)) ^ 2 in (has.0, subst P electors has.1, has.2)

    outcome_there : (outcome : VerdictState) → IsOutcome poll matrix outcome → IsOutcome (with_roll poll roll last) matrix outcome
    outcome_there outcome is =
        let P : ℕ → Type 0 = λ n. (a b : ℕ) → Pairs outcome.defeats a b ↔ PairwiseDefeats (kept_among n) matrix a b in
        let Q : ℕ → Type 0 = λ n. AreRounds (kept_among n) matrix (PairwiseDefeats (kept_among n) matrix) outcome.rounds in
        record {
          causes = λ o of. cause_there o (cause_of outcome o) (is.causes o of);
          defeats = subst P electors is.defeats;
          rounds = subst Q electors is.rounds;
        }

-- ---- the sheets
-- the sheet with other numbers of lines
abbrev pub with_lines : Sheet → ℕ → ℕ → Sheet
with_lines s valid refused = record s { valid = valid; refused = refused }

pub sheet_there : (poll : PollContent) (roll : List Text) (last : Option ℕ) → elector_count poll ≡ length roll
    → (lines others : List Text) → VoteTheSame poll lines (with_roll poll roll last) others
    → (casting : Option ℕ) (s : Sheet) → IsSheetOf poll lines casting s
    → (valid refused : ℕ) → valid ≡ valid_count (with_roll poll roll last) others → refused ≡ refused_count (with_roll poll roll last) others
    → IsSheetOf (with_roll poll roll last) others casting (with_lines s valid refused)
sheet_there poll roll last electors lines others same casting s is valid refused valid_is refused_is =
    let P : ℕ → Type 0 = λ n. poll.quorum_multiple ^ 2 * n ≤ (2 * s.quorum_votes) ^ 2 in
    let Q : ℕ → Type 0 = λ k. (n : ℕ) → poll.quorum_multiple ^ 2 * k ≤ (2 * n) ^ 2 → s.quorum_votes ≤ n in
    record {
      quorum = (subst P electors is.quorum.0, subst Q electors is.quorum.1);
      valid = valid_is;
      refused = refused_is;
      voters = is.voters ∙ sym same.voters;
      size = is.size;
      counted = λ a b of_a of_b. is.counted a b of_a of_b ∙ sym (same.counts a b of_a of_b);
      outcome = outcome_there poll s.matrix roll last electors s.outcome is.outcome;
      decision = is.decision;
    }

-- files that count the same, if only the names differ
same_sheet_there : (poll : PollContent) (roll : List Text) → elector_count poll ≡ length roll
    → (lines others : List Text) → CountTheSame poll lines (with_roll poll roll poll.last_envelope) others
    → (casting : Option ℕ) (s : Sheet) → IsSheetOf poll lines casting s → IsSheetOf (with_roll poll roll poll.last_envelope) others casting s
same_sheet_there poll roll electors lines others same casting s is =
    let again = with_roll poll roll poll.last_envelope in
    sheet_there poll roll poll.last_envelope electors lines others same.votes casting s is s.valid s.refused
    (is.valid ∙ sym same.valid)
    (omega (arith, is.refused, same.as_long, same.valid, valid-refused poll lines, valid-refused again others))

-- the text of a sheet with this many electors and lines
text_among : PollContent → Sheet → ℕ → ℕ → Text
text_among poll s electors lines = concat (
    head_text poll.title electors poll.quorum_multiple s.quorum_votes poll.wording
    ∷ totals_text lines poll.last_envelope s.valid s.refused s.voters
    ∷ options_text poll.options poll.ratios
    ∷ count_text poll.options s.matrix s.outcome s.decision
    ∷ [])

same_text_there : (poll : PollContent) (roll : List Text) → elector_count poll ≡ length roll → (lines others : List Text) → length others ≡ length lines
    → (s : Sheet) → sheet_text poll lines s ≡ sheet_text (with_roll poll roll poll.last_envelope) others s
unfolding text_among
same_text_there poll roll electors lines others long s =
    ap (λ n. text_among poll s n (length lines)) electors ∙ ap (text_among poll s (length roll)) (sym long)

pub same_sheets_there : (poll : PollContent) (roll : List Text) → elector_count poll ≡ length roll
    → (lines others : List Text) → CountTheSame poll lines (with_roll poll roll poll.last_envelope) others
    → HaveSameSheets poll lines (with_roll poll roll poll.last_envelope) others
same_sheets_there poll roll electors lines others same casting text =
    let again = with_roll poll roll poll.last_envelope in
    let same_text = same_text_there poll roll electors lines others same.as_long in (
      λ h. (h.0, same_sheet_there poll roll electors lines others same casting h.0 h.1, h.2 ∙ same_text h.0),
      λ h. (
        h.0,
        same_sheet_there again poll.roll (sym electors) others lines (count_the_same-back poll lines again others refl same) casting h.0 h.1,
        h.2 ∙ sym (same_text h.0),
      ),
    )

-- the same for one poll
pub same_sheets_here : (poll : PollContent) (lines others : List Text) → CountTheSame poll lines poll others → HaveSameSheets poll lines poll others
same_sheets_here poll lines others same = same_sheets_there poll poll.roll refl lines others same
