-- The keys of a poll file, each judged by itself: which are present and of the right kind, and the faults of the others.
use Rattle.std.specs.Prelude.{ℕ, ℤ, List, [], ◌∷◌, ◌++◌, Bool, true, false, ◌&&◌, ◌||◌, if◌then◌else◌, Option, is_some, is_none, option_map, option_to_list}
use Rattle.std.specs.List.{flat_map}
use Rattle.toml.specs.Data.{Members, as_str, as_integer}
use Rattle.vote_poll_keys.specs.Keys.{all_keys, found, list_of, value_at}
use Rattle.vote_poll_keys.specs.declared.fault.PollKey.{PollKey}
use Rattle.vote_poll_keys.specs.declared.fault.PollKey.TheVariants as key
use Rattle.vote_poll_keys.specs.declared.fault.PollFault.{PollFault}
use Rattle.vote_poll_keys.specs.declared.fault.PollFault.TheVariants as fault

-- ---- what is found

-- the keys, each with its value if it is present and of the right kind
pub record FoundKeys : Type 0 where
  pub title : Option (List ℕ)
  pub options : Option (List (List ℕ))
  pub ratios : Option (List ℤ)
  pub default_option : Option (List ℕ)
  pub quorum : Option ℤ
  pub roll : Option (List (List ℕ))
  pub last_envelope : Option ℤ
  pub wording : Option (List ℕ)

-- the keys of a table that are present and of the right kind
abbrev pub found_in : Members → FoundKeys
found_in table = record {
  title = found key.Title as_str table;
  options = found key.Options (list_of as_str) table;
  ratios = found key.Ratios (list_of as_integer) table;
  default_option = found key.DefaultOption as_str table;
  quorum = found key.Quorum as_integer table;
  roll = found key.Roll (list_of as_str) table;
  last_envelope = found key.LastEnvelope as_integer table;
  wording = found key.Wording as_str table;
}

-- the names of the options that were found, the default option after the others; None if the list of options was not found
abbrev pub names_of_options : FoundKeys → Option (List (List ℕ))
names_of_options f = option_map (λ options. options ++ option_to_list f.default_option) f.options

-- ---- one fault

-- no fault if it is right, else this fault
abbrev pub fault_unless : Bool → PollFault → List PollFault
fault_unless right e = if right then [] else e ∷ []

-- the key is present and of the right kind
abbrev pub is_found : FoundKeys → PollKey → Bool
is_found f key.Title = is_some f.title
is_found f key.Options = is_some f.options
is_found f key.Ratios = is_some f.ratios
is_found f key.DefaultOption = is_some f.default_option
is_found f key.Quorum = is_some f.quorum
is_found f key.Roll = is_some f.roll
is_found f key.LastEnvelope = is_some f.last_envelope
is_found f key.Wording = is_some f.wording

abbrev pub may_be_missing : PollKey → Bool
may_be_missing key.LastEnvelope = true
may_be_missing key.Wording = true
may_be_missing other = false

-- the key is missing and may be missing, or it is present and of the right kind
abbrev pub is_right : Members → FoundKeys → PollKey → Bool
is_right table f name = (may_be_missing name && is_none (value_at name table)) || is_found f name

-- the fault of a key that is missing although it is required, or is of the wrong kind
abbrev pub fault_of_key : Members → FoundKeys → PollKey → List PollFault
fault_of_key table f name = fault_unless (is_right table f name) (fault.Key name)

-- ---- all keys, in their order

unfoldable pub of_keys : Members → FoundKeys → List PollFault
of_keys table f = flat_map (fault_of_key table f) all_keys
