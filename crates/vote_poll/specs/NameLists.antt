-- The lists of names in a poll file: which names each can have, and the faults of the others.
use Rattle.std.specs.Prelude.{◌≡◌, ℕ, ◌+◌, List, Bool, ◌||◌, ◌&&◌, not, map}
use Rattle.std.specs.Borrow.{Bor}
use Rattle.std.specs.List.{list_any}
use Rattle.std.specs.Str.{bytes_eq}
use Rattle.indexmap.specs.IndexSet.{IndexSet}
use Rattle.vote_poll_keys.specs.KeyFaults.{fault_unless}
use Rattle.vote_poll_text.specs.Names.{is_option_name, is_voter_name}
use Rattle.vote_poll_keys.specs.declared.fault.PollFault.{PollFault}
use Rattle.vote_poll_keys.specs.declared.fault.PollFault.TheVariants.{OptionName, VoterName}
use Rattle.vote_poll.specs.PollFaults.{bad_places}
use Rattle.vote_poll.specs.declared.names.NameList.{NameList}
use Rattle.vote_poll.specs.declared.names.NameList.TheVariants.{Options, Roll}

abbrev pub has_shape : NameList → List ℕ → Bool
has_shape Options name = is_option_name name
has_shape Roll name = is_voter_name name

-- the fault of a bad name at an index; options are numbered from 1, voters from 0
abbrev pub bad_name : NameList → ℕ → PollFault
bad_name Options place = OptionName (place + 1)
bad_name Roll place = VoterName place

-- the faults of the names of a list
abbrev pub bad_names : NameList → List (List ℕ) → List PollFault
bad_names list names = map (bad_name list) (bad_places (has_shape list) names)

-- the name is one of the names seen
abbrev pub was_seen : {S : Type 0} → IndexSet (Bor (List ℕ)) S → List ℕ → Bool
was_seen seen name = list_any (λ n. bytes_eq name n.now) seen.keys

-- the fault of the name at an index, if it is malformed or was seen before
abbrev pub of_name : {S : Type 0} → NameList → IndexSet (Bor (List ℕ)) S → List ℕ → ℕ → List PollFault
of_name list seen name place = fault_unless (has_shape list name && not (was_seen seen name)) (bad_name list place)

-- the names seen are the earlier names and this name
abbrev pub NotesName : {S : Type 0} → List ℕ → IndexSet (Bor (List ℕ)) S → IndexSet (Bor (List ℕ)) S → Type 0
NotesName name before after = (other : List ℕ) → was_seen after other ≡ (was_seen before other || bytes_eq other name)
