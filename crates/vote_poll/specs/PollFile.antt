-- The meaning of a poll file: a poll, or the first of its faults.
use Rattle.std.specs.Prelude.{◌≡◌, ℕ, List, [], ◌∷◌, map, nat_abs, Option, Some, None, option_and_then, unwrap_or, slice_get, Result, Ok, Err}
use Rattle.toml.specs.Data.{Members}
use Rattle.vote_poll_keys.specs.KeyFaults.{FoundKeys, found_in, names_of_options}
use Rattle.vote_poll_keys.specs.Keys.{Gives, ◌>>=◌, document}
use Rattle.vote_poll_keys.specs.declared.fault.PollFault.{PollFault}
use Rattle.vote_poll.specs.PollContent.{PollContent}
use Rattle.vote_poll.specs.PollFaults.{IsJudged, faults_in, poll_faults}
use Rattle.vote_poll.specs.PollValues.{last_envelope_in, quorum_in, wording_in}
use Rattle.vote_poll.specs.declared.wording.Wording.TheVariants.{AtLeast}

-- the poll of keys without a fault; the default option is the last, and if there is no wording it is the Constitution's
abbrev pub poll_of : FoundKeys → PollContent
poll_of f = record {
  title = unwrap_or f.title [];
  options = unwrap_or (names_of_options f) [];
  ratios = map nat_abs (unwrap_or f.ratios []);
  quorum_multiple = unwrap_or (option_and_then quorum_in f.quorum) 0;
  roll = unwrap_or f.roll [];
  last_envelope = option_and_then last_envelope_in f.last_envelope;
  wording = unwrap_or (option_and_then wording_in f.wording) AtLeast;
}

-- the first of the faults, or the poll if there is no fault
abbrev pub first_or : List PollFault → PollContent → Result PollContent PollFault
first_or [] poll = Ok poll
first_or (e ∷ faults) poll = Err e

-- the meaning of a poll file's table
abbrev pub poll_in_table : Members → Result PollContent PollFault
poll_in_table table = first_or (faults_in (Ok table)) (poll_of (found_in table))

-- the meaning of a poll file's text
unfoldable pub poll_in : List ℕ → Result PollContent PollFault
poll_in text = do
  table ← document text
  poll_in_table table

-- for each table with these keys and these faults, the result is the table's meaning: the poll, or the first of the faults
abbrev pub IsPollOrFirst : FoundKeys → List PollFault → Result PollContent PollFault → Type 0
IsPollOrFirst keys faults result = (table : Members) → IsJudged table keys faults → result ≡ poll_in_table table

-- the same, unless memory ran out
abbrev pub GivesPollOrFirst : FoundKeys → List PollFault → Result PollContent PollFault → Type 0
GivesPollOrFirst keys faults result = (table : Members) → IsJudged table keys faults → Gives (λ poll. poll) result (poll_in_table table)

-- ---- the law

abbrev pub fault_told : Result PollContent PollFault → Option PollFault
fault_told (Ok poll) = None
fault_told (Err e) = Some e

-- the fault that is reported of a poll file is the first of all its faults, and a file that means a poll has no fault
abbrev pub FirstIsTold : Type 0
FirstIsTold = (text : List ℕ) → slice_get (poll_faults text) 0 ≡ fault_told (poll_in text)
