-- The sums of a sheet show that nobody counts twice.
use Rattle.std.proofs.Common.{◌≡◌, ℕ, ◌+◌, ◌≤◌, List, [], ◌∷◌, Option, None, Some, length, ltb, ap, inl, inr, arith}
use Rattle.std.specs.Prelude.{count_by, is_some}
use Rattle.std.proofs.lemmas.Bool.{cases_lt, le-ltb, lt-ltb}
use Rattle.std.proofs.lemmas.List.FromFn.{length-map-range_with_len}
use Rattle.std.proofs.lemmas.List.Sums.{count_by-le-length}
use Rattle.vote_poll.specs.PollContent.{PollContent, elector_count, last_in_time}
use Rattle.vote_poll.specs.Ranks.{is_preferred, rank_of}
use Rattle.vote_poll.specs.Readings.{is_ballot}
use Rattle.vote_poll.specs.declared.Reading.{Reading}
use Rattle.vote_poll.specs.declared.Reading.TheVariants.{Bad, Ballot}
use Rattle.vote_count.specs.Ballots.{entry_prefers}
use Rattle.vote_steps.specs.Recasts.{last_ballot}
use Rattle.vote_sheet.specs.ElectorLaws.{NobodyCountsTwice}
use Rattle.vote_steps.specs.LastBallots.{last_valid_ballots, readings_in_time, refused_count, valid_count}
use Rattle.vote_sheet.specs.Sheet.{Text}
use Rattle.vote_steps.proofs.Holding.{count-not, taken_and_left}
use Rattle.vote_count.proofs.Counts.{count-cons, one, one_at_most}
use Rattle.vote_sheet.proofs.StandingLemmas.{Entry, bad_hits, ballots_of, hits, hits_once, no_lines, one_line_more}

-- ---- a ballot is for one of two options at most
of_two_ranks : (r s : ℕ) → one (ltb r s) + one (ltb s r) ≤ 1
of_two_ranks r s =
    elim (cases_lt r s) [
      | inl below ↦ omega (arith, ap one (lt-ltb r s below), ap one (le-ltb s r (omega arith)))
      | inr at ↦ omega (arith, ap one (le-ltb r s at), one_at_most (ltb s r))
    ]

of_two : (o p : Option ℕ) → one (is_preferred o p) + one (is_preferred p o) ≤ 1
of_two None None = omega arith
of_two None (Some s) = omega arith
of_two (Some r) None = omega arith
of_two (Some r) (Some s) = of_two_ranks r s

of_entry : (a b : ℕ) (entry : Entry) → one (entry_prefers a b entry) + one (entry_prefers b a entry) ≤ one (is_some entry)
of_entry a b None = omega arith
of_entry a b (Some ranks) = of_two (rank_of ranks a) (rank_of ranks b)

of_entries : (a b : ℕ) (entries : List Entry) → count_by (entry_prefers a b) entries + count_by (entry_prefers b a) entries ≤ count_by is_some entries
of_entries a b [] = omega arith
of_entries a b (entry ∷ entries) =
    omega (
      arith,
      count-cons (entry_prefers a b) entry entries,
      count-cons (entry_prefers b a) entry entries,
      count-cons is_some entry entries,
      of_entry a b entry,
      of_entries a b entries,
    )

-- ---- there are no more last ballots than ballots
hits_ballot : (r : Reading) (a n : ℕ) → hits r a n ≤ one (is_ballot r)
hits_ballot (Bad fault) a n = omega (arith, bad_hits fault a n)
hits_ballot (Ballot u ranks) a n = hits_once u ranks a n

as_many_ballots : (rs : List Reading) (a n : ℕ) → ballots_of rs a n ≤ count_by is_ballot rs
as_many_ballots [] a n = omega (arith, no_lines a n)
as_many_ballots (r ∷ rs) a n = omega (arith, one_line_more r rs a n, hits_ballot r a n, as_many_ballots rs a n, count-cons is_ballot r rs)

-- as many entries as electors
pub entry_count : (poll : PollContent) (lines : List Text) → length (last_valid_ballots poll lines) ≡ elector_count poll
entry_count poll lines = length-map-range_with_len (last_ballot (readings_in_time poll lines)) 0 (elector_count poll)

-- each line is valid or refused
pub valid-refused : (poll : PollContent) (lines : List Text) → valid_count poll lines + refused_count poll lines ≡ length lines
valid-refused poll lines = omega (arith, count-not is_ballot (readings_in_time poll lines), taken_and_left poll lines (last_in_time poll))

pub counts_once : NobodyCountsTwice
counts_once poll lines casting s is =
    let entries = last_valid_ballots poll lines in
    record {
      of_two = λ a b of_a of_b. omega (arith, is.counted a b of_a of_b, is.counted b a of_b of_a, is.voters, of_entries a b entries);
      on_roll = omega (arith, is.voters, count_by-le-length is_some entries, entry_count poll lines);
      by_lines = omega (arith, is.voters, is.valid, as_many_ballots (readings_in_time poll lines) 0 (elector_count poll));
      each_line = omega (arith, is.valid, is.refused, valid-refused poll lines);
    }
