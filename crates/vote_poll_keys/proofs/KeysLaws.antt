-- The meaning of a poll file, step by step.
use Rattle.std.proofs.Common.{◌≡◌, zero, suc, arith, ◌+◌, ◌<◌, ◌≤◌, ◌++◌, ◌∷◌, [], length, take, get_or, map, ℕ, List, Option, Some, None, refl, ap, sym, ◌∙◌, inl, inr, Ok, Err}
use Rattle.std.specs.Str.{IsUtf8, is_utf8}
use Rattle.std.proofs.lemmas.Bool.{cases_Bool}
use Rattle.std.proofs.lemmas.Str.{is_utf8-from_IsUtf8, IsUtf8-from_is_utf8}
use Rattle.std.proofs.lemmas.List.{map-append, take_more, take_all}
use Rattle.std.proofs.lemmas.Simd.{map-map}
use Rattle.toml.specs.Data.{Data, Items, Members, as_array}
use Rattle.toml.specs.View.{view, items_view}
use Rattle.toml.specs.declared.value.Value.{Value}
use Rattle.vote_poll_keys.specs.Lists.{all_some}
use Rattle.std.specs.Option.{option_and_then, option_map}
use Rattle.toml.specs.Parse.{parse_document}
use Rattle.vote_poll_keys.specs.Keys.{document, each_of, found, items_list, list_of, value_at}
use Rattle.vote_poll_keys.specs.declared.fault.PollKey.{PollKey}
use Rattle.vote_poll_keys.specs.declared.fault.PollFault.TheVariants as fault

pub document-table : (text : List ℕ) (table : Members) → IsUtf8 text → parse_document text ≡ Some table → document text ≡ Ok table
unfolding document
document-table text table utf8 parsed = rw (is_utf8-from_IsUtf8 text utf8, parsed)

pub document-refused : (text : List ℕ) → (IsUtf8 text → parse_document text ≡ None) → document text ≡ Err fault.Syntax
unfolding document
document-refused text refused =
    elim (cases_Bool (is_utf8 text)) [
      | inl utf8 ↦ rw (utf8, refused (IsUtf8-from_is_utf8 text utf8))
      | inr other ↦ rw other
    ]

-- ---- lists
items_list-view : (vs : List Value) → items_list (items_view vs) ≡ map view vs
items_list-view [] = refl
items_list-view (v ∷ vs) = ap (λ ds. view v ∷ ds) (items_list-view vs)

pub each_of-view : {X : Type 0} (kind : Data → Option X) (vs : List Value) → each_of kind (items_view vs) ≡ all_some (map (λ v. kind (view v)) vs)
each_of-view kind vs = ap (λ ds. all_some (map kind ds)) (items_list-view vs) ∙ ap all_some (map-map kind view vs)

pub all_some-push : {X : Type 0} (values : List (Option X)) (x : X) → all_some (values ++ Some x ∷ []) ≡ option_map (λ xs. xs ++ x ∷ []) (all_some values)
all_some-push [] x = refl
all_some-push (None ∷ values) x = refl
all_some-push (Some y ∷ values) x = rw (all_some-push values x) (pushed_behind (all_some values) y x)
  where
    pushed_behind : {X : Type 0} (o : Option (List X)) (y x : X) → option_map (λ xs. y ∷ xs) (option_map (λ xs. xs ++ x ∷ []) o) ≡ option_map (λ xs. xs ++ x ∷ []) (option_map (λ xs. y ∷ xs) o)
    pushed_behind None y x = refl
    pushed_behind (Some xs) y x = refl

-- one item more
pub all_some-more : {A X : Type 0} (f : A → Option X) (xs : List A) (i : ℕ) (d : A) (ys : List X) (y : X) → i < length xs
    → all_some (map f (take i xs)) ≡ Some ys → Some y ≡ f (get_or xs i d) → all_some (map f (take (i + 1) xs)) ≡ Some (ys ++ y ∷ [])
all_some-more f xs i d ys y within before here =
    let longer : take (i + 1) xs ≡ take i xs ++ get_or xs i d ∷ [] = take_more xs i d within in
    rw (longer, map-append, ← here, all_some-push (map f (take i xs)) y, before)

-- all items
pub all_some-whole : {A X : Type 0} (f : A → Option X) (xs : List A) (i : ℕ) (ys : List X) → length xs ≤ i → all_some (map f (take i xs)) ≡ Some ys → all_some (map f xs) ≡ Some ys
all_some-whole f xs i ys past all = ap (λ zs. all_some (map f zs)) (sym (take_all i xs past)) ∙ all

none_behind : {X : Type 0} (o : Option X) (values : List (Option X)) → all_some values ≡ None → all_some (o ∷ values) ≡ None
none_behind None values none = refl
none_behind (Some x) values none = rw none

-- if one item is not of the kind, the list is not of the kind
pub all_some-none : {X Y : Type 0} (f : X → Option Y) (xs : List X) (i : ℕ) (d : X) → i < length xs → f (get_or xs i d) ≡ None → all_some (map f xs) ≡ None
all_some-none f [] i d within none = absurd (omega arith)
all_some-none f (x ∷ xs) zero d within none = rw none
all_some-none f (x ∷ xs) (suc i) d within none = none_behind (f x) (map f xs) (all_some-none f xs i d (omega arith) none)

-- ---- the list at a key
pub found-list : {X : Type 0} (kind : Data → Option X) (name : PollKey) (table : Members) (items : Items) → Some items ≡ found name as_array table → found name (list_of kind) table ≡ each_of kind items
found-list kind name table items h = at_value kind (value_at name table) items h
  where
    at_value : {X : Type 0} (kind : Data → Option X) (value : Option Data) (items : Items) → Some items ≡ option_and_then as_array value → option_and_then (list_of kind) value ≡ each_of kind items
    at_value kind None items h = cc
    at_value kind (Some value) items h = ap (option_and_then (each_of kind)) (sym h)

-- if a key has no list, it has no list of any kind
pub found-no_list : {X : Type 0} (kind : Data → Option X) (name : PollKey) (table : Members) → None ≡ found name as_array table → found name (list_of kind) table ≡ None
found-no_list kind name table h = at_value kind (value_at name table) h
  where
    at_value : {X : Type 0} (kind : Data → Option X) (value : Option Data) → None ≡ option_and_then as_array value → option_and_then (list_of kind) value ≡ None
    at_value kind None h = refl
    at_value kind (Some value) h = ap (option_and_then (each_of kind)) (sym h)
