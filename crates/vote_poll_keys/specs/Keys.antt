-- The keys of a poll file, and the values at them in the table of a text.
use Rattle.std.specs.Prelude.{◌≡◌, ℕ, List, [], ◌∷◌, map, if◌then◌else◌, Option, None, option_and_then, Result, Ok, Err, codes}
use Rattle.std.specs.Option.{ok_or}
use Rattle.std.specs.List.{find}
use Rattle.std.specs.Str.{bytes_eq, is_utf8}
use Rattle.toml.specs.Data.{Data, Items, no_items, item, Members, get_member, as_array}
use Rattle.toml.specs.Parse.{parse_document}
use Rattle.vote_poll_keys.specs.Lists.{all_some}
use Rattle.vote_poll_keys.specs.declared.fault.PollKey.{PollKey}
use Rattle.vote_poll_keys.specs.declared.fault.PollKey.TheVariants as key
use Rattle.vote_poll_keys.specs.declared.fault.PollFault.{PollFault}
use Rattle.vote_poll_keys.specs.declared.fault.PollFault.TheVariants as fault

-- ---- the keys

-- the items of an array of TOML
abbrev pub items_list : Items → List Data
items_list no_items = []
items_list (item value values) = value ∷ items_list values

-- the items, if each is of the kind
abbrev pub each_of : {X : Type 0} → (Data → Option X) → Items → Option (List X)
each_of kind items = all_some (map kind (items_list items))

-- the items of a list, if each is of the kind
abbrev pub list_of : {X : Type 0} → (Data → Option X) → Data → Option (List X)
list_of kind value = option_and_then (each_of kind) (as_array value)

-- a key as the file writes it
abbrev pub key_name : PollKey → List ℕ
key_name key.Title = codes "title"
key_name key.Options = codes "options"
key_name key.Ratios = codes "ratios"
key_name key.DefaultOption = codes "default"
key_name key.Quorum = codes "quorum"
key_name key.Roll = codes "roll"
key_name key.LastEnvelope = codes "last_envelope"
key_name key.Wording = codes "wording"

-- the keys, in the order in which they are looked for
abbrev pub all_keys : List PollKey
all_keys = key.Title ∷ key.Options ∷ key.Ratios ∷ key.DefaultOption ∷ key.Quorum ∷ key.Roll ∷ key.LastEnvelope ∷ key.Wording ∷ []

-- the key with this name
abbrev pub key_named : List ℕ → Option PollKey
key_named name = find (λ key. bytes_eq (key_name key) name) all_keys

abbrev pub value_at : PollKey → Members → Option Data
value_at name table = get_member (key_name name) table

-- the value of a key, if it is present and of the kind
abbrev pub found : {X : Type 0} → PollKey → (Data → Option X) → Members → Option X
found name kind table = option_and_then kind (value_at name table)

infixl 10 ◌>>=◌
abbrev pub ◌>>=◌ : {A B : Type 0} → Result A PollFault → (A → Result B PollFault) → Result B PollFault
(Ok x) >>= f = f x
(Err e) >>= f = Err e

-- ---- the file

-- the table of a text
unfoldable pub document : List ℕ → Result Members PollFault
document text = ok_or (if is_utf8 text then parse_document text else None) fault.Syntax

-- ---- the result of a call

abbrev pub Fails : {Y : Type 0} → PollFault → Result Y PollFault → Type 0
Fails fault.Memory meaning = Unit {0}
Fails e meaning = meaning ≡ Err e

-- the result is the meaning, unless memory ran out
abbrev pub Gives : {X Y : Type 0} → (X → Y) → Result X PollFault → Result Y PollFault → Type 0
Gives view (Ok x) meaning = meaning ≡ Ok (view x)
Gives view (Err e) meaning = Fails e meaning
