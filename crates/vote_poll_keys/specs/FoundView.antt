-- The values that contracts see of the keys that were found.
use Rattle.std.specs.Prelude.{◌≡◌, ◌++◌, ℕ, ℤ, List, Option, Result, String, OnOk, map, option_copied, option_map}
use Rattle.std.specs.Borrow.{Bor}
use Rattle.std.specs.BTreeMap.{BTreeMap}
use Rattle.std.specs.Global.{Vec}
use Rattle.std.specs.declared.alloc.Global.{Global}
use Rattle.toml.specs.Data.{Items}
use Rattle.toml.specs.View.{items_view, table_view}
use Rattle.toml.specs.declared.value.Value.{Value}
use Rattle.vote_poll_keys.specs.KeyFaults.{FoundKeys, fault_of_key, of_keys}
use Rattle.vote_poll_keys.specs.declared.fault.PollKey.{PollKey}
use Rattle.vote_poll_keys.specs.declared.fault.PollFault.{PollFault}
use Rattle.vote_poll_keys.specs.declared.found.FoundKeys.{FoundKeys as Inside}

abbrev pub texts : List (Bor (List ℕ)) → List (List ℕ)
texts list = map (λ text. text.now) list

abbrev pub texts_view : Option (Vec (Bor (List ℕ))) → Option (List (List ℕ))
texts_view list = option_map (λ found. texts found.items) list

abbrev pub numbers_view : Option (Vec ℤ) → Option (List ℤ)
numbers_view list = option_map (λ found. found.items) list

abbrev pub list_view : Option (Bor (List Value)) → Option Items
list_view list = option_map (λ items. items_view items.now) list

-- the list that was found is this list
abbrev pub AreTexts : Option (List (List ℕ)) → Option (Vec (Bor (List ℕ))) → Type 0
AreTexts meant list = texts_view list ≡ meant

abbrev pub AreNumbers : Option (List ℤ) → Option (Vec ℤ) → Type 0
AreNumbers meant list = numbers_view list ≡ meant

abbrev pub found_view : Inside → FoundKeys
found_view f = record {
  title = option_copied f.title;
  options = texts_view f.options;
  ratios = numbers_view f.ratios;
  default_option = option_copied f.default_option;
  quorum = f.quorum;
  roll = texts_view f.roll;
  last_envelope = f.last_envelope;
  wording = option_copied f.wording;
}

-- ---- the faults of keys

-- the fault of a key, if it has one
abbrev pub key_fault : BTreeMap (String Global) Value → Inside → PollKey → List PollFault
key_fault table keys key = fault_of_key (table_view table) (found_view keys) key

-- the faults are those of all keys of the table
abbrev pub AreKeyFaults : BTreeMap (String Global) Value → Inside → Vec PollFault → Type 0
AreKeyFaults table keys faults = faults.items ≡ of_keys (table_view table) (found_view keys)

-- if the call returned Ok, it has appended these faults to the list
abbrev pub AddsFaults : {X E : Type 0} → Result X E → Vec PollFault → List PollFault → Vec PollFault → Type 0
AddsFaults r before faults after = OnOk r (after.items ≡ before.items ++ faults)
