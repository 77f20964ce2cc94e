-- All faults of a poll file, in their order. Each is judged by itself: if the keys that it concerns are present and of the right
-- kind, whatever else is wrong. The faults of the keys themselves are in `KeyFaults` of vote_poll_keys.
use Rattle.std.specs.Prelude.{◌≡◌, ℕ, ◌+◌, List, [], ◌∷◌, ◌++◌, map, filter, length, Bool, ◌==◌, ◌&&◌, Option, Some, None, is_some, Result, Ok, Err}
use Rattle.std.specs.List.{list_all, range_with_len}
use Rattle.toml.specs.Data.{Members}
use Rattle.vote_poll_keys.specs.KeyFaults.{FoundKeys, fault_unless, found_in, names_of_options, of_keys}
use Rattle.vote_poll_keys.specs.Keys.{document}
use Rattle.vote_poll_keys.specs.declared.fault.PollFault.{PollFault}
use Rattle.vote_poll_keys.specs.declared.fault.PollFault.TheVariants as fault
use Rattle.vote_poll_text.specs.Names.{is_option_name, is_title, is_voter_name, is_within}
use Rattle.vote_poll.specs.Names.{is_bad_at}
use Rattle.vote_poll.specs.PollValues.{is_integer_within, last_envelope_in, quorum_in, wording_in}
use Rattle.vote_poll.specs.declared.TheConstants.{MAX_OPTIONS, MAX_ELECTORS, MAX_RATIO}

-- ---- one fault

-- the faults of a value, if there is one
abbrev pub where_found : {X : Type 0} → Option X → (X → List PollFault) → List PollFault
where_found None faults = []
where_found (Some x) faults = faults x

-- the indexes of the names that are malformed or equal an earlier name
abbrev pub bad_places : (List ℕ → Bool) → List (List ℕ) → List ℕ
bad_places has_shape names = filter (is_bad_at has_shape names) (range_with_len 0 (length names))

-- ---- the values of the keys

unfoldable pub of_title : FoundKeys → List PollFault
of_title f = where_found f.title (λ title. fault_unless (is_title title) fault.Title)

-- the default option is counted, too
unfoldable pub of_option_count : FoundKeys → List PollFault
of_option_count f = where_found f.options (λ options. fault_unless (is_within 2 MAX_OPTIONS (length options + 1)) fault.OptionCount)

-- options are numbered from 1, and the voters below from 0; the default option is the last, if it is present
unfoldable pub of_option_names : FoundKeys → List PollFault
of_option_names f = where_found (names_of_options f) (λ names. map (λ place. fault.OptionName (place + 1)) (bad_places is_option_name names))

unfoldable pub of_ratios : FoundKeys → List PollFault
of_ratios f =
    where_found f.options (λ options. where_found f.ratios (λ ratios.
    fault_unless ((length ratios == length options) && list_all (is_integer_within 1 MAX_RATIO) ratios) fault.Ratio))

unfoldable pub of_quorum : FoundKeys → List PollFault
of_quorum f = where_found f.quorum (λ quorum. fault_unless (is_some (quorum_in quorum)) fault.Quorum)

unfoldable pub of_roll_size : FoundKeys → List PollFault
of_roll_size f = where_found f.roll (λ roll. fault_unless (is_within 1 MAX_ELECTORS (length roll)) fault.RollSize)

unfoldable pub of_voter_names : FoundKeys → List PollFault
of_voter_names f = where_found f.roll (λ roll. map fault.VoterName (bad_places is_voter_name roll))

unfoldable pub of_last_envelope : FoundKeys → List PollFault
of_last_envelope f = where_found f.last_envelope (λ last. fault_unless (is_some (last_envelope_in last)) fault.LastEnvelope)

unfoldable pub of_wording : FoundKeys → List PollFault
of_wording f = where_found f.wording (λ wording. fault_unless (is_some (wording_in wording)) fault.Wording)

-- ---- the file

-- the faults of the keys' values, in their order
unfoldable pub of_contents : FoundKeys → List PollFault
of_contents f =
    of_title f
    ++ of_option_count f
    ++ of_option_names f
    ++ of_ratios f
    ++ of_quorum f
    ++ of_roll_size f
    ++ of_voter_names f
    ++ of_last_envelope f
    ++ of_wording f

-- all faults of a poll file: if its table was read, those of its keys and then those of the keys' values; else the one fault of the reading
abbrev pub faults_in : Result Members PollFault → List PollFault
faults_in (Ok table) = of_keys table (found_in table) ++ of_contents (found_in table)
faults_in (Err e) = e ∷ []

-- all faults of the text of a poll file
abbrev pub poll_faults : List ℕ → List PollFault
poll_faults text = faults_in (document text)

-- the keys are those of this table, and the faults are all its faults
pub record IsJudged (table : Members) (keys : FoundKeys) (faults : List PollFault) : Type 0 where
  pub found : keys ≡ found_in table
  pub all : faults ≡ faults_in (Ok table)
