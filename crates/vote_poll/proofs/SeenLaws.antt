-- The names seen so far, and the bad names among them.
use Rattle.std.proofs.Common.{◌≡◌, ◌<◌, ◌+◌, ◌∷◌, ◌++◌, [], ℕ, zero, suc, List, Bool, true, false, filter, map, take, length, get_or, refl, ap, sym, ◌∙◌, arith, append_assoc, Bor, cond, inl, inr}
use Rattle.std.specs.List.{list_any, range_with_len}
use Rattle.std.specs.Prelude.{◌||◌, ◌&&◌, not}
use Rattle.std.specs.Str.{bytes_eq}
use Rattle.std.proofs.lemmas.Bool.{cases_Bool}
use Rattle.std.proofs.lemmas.Slice.Eq.{bytes_eq-Decides}
use Rattle.std.proofs.lemmas.List.{map-append, take_more}
use Rattle.std.proofs.lemmas.List.Elements.{filter-append}
use Rattle.vote_poll.specs.NameLists.{bad_name, has_shape}
use Rattle.vote_poll.specs.Names.{is_bad_at}
use Rattle.vote_poll_keys.specs.KeyFaults.{fault_unless}
use Rattle.vote_poll_keys.specs.declared.fault.PollFault.{PollFault}
use Rattle.vote_poll.specs.declared.names.NameList.{NameList}

-- ---- numbers that pass a test
range_more : (a n : ℕ) → range_with_len a (suc n) ≡ range_with_len a n ++ (a + n) ∷ []
range_more a zero = ap (λ k. k ∷ []) (omega arith)
range_more a (suc n) =
    let last : a + 1 + n ≡ a + suc n = omega arith in
    ap (λ ks. a ∷ ks) (range_more (a + 1) n ∙ ap (λ k. range_with_len (a + 1) n ++ k ∷ []) last)

pub places_more : (p : ℕ → Bool) (naming : ℕ → PollFault) (n : ℕ) → map naming (filter p (range_with_len 0 (n + 1))) ≡ map naming (filter p (range_with_len 0 n)) ++ fault_unless (not (p n)) (naming n)
places_more p naming n =
    let next : n + 1 ≡ suc n = omega arith in
    let first : 0 + n ≡ n = omega arith in
    let longer : range_with_len 0 (n + 1) ≡ range_with_len 0 n ++ n ∷ [] = ap (range_with_len 0) next ∙ range_more 0 n ∙ ap (λ k. range_with_len 0 n ++ k ∷ []) first in
    ap (λ ks. map naming (filter p ks)) longer ∙ ap (map naming) (filter-append p (range_with_len 0 n) (n ∷ []))
    ∙ map-append naming (filter p (range_with_len 0 n)) (filter p (n ∷ [])) ∙ ap (λ xs. map naming (filter p (range_with_len 0 n)) ++ xs) (one (p n) refl)
  where
    one : (b : Bool) → p n ≡ b → map naming (filter p (n ∷ [])) ≡ fault_unless (not (p n)) (naming n)
    one true e = rw e refl
    one false e = rw e refl

-- ---- equal names
abbrev pub text : List ℕ → Bor (List ℕ)
text bytes = record { ref_ptr = (0, 0); now = bytes }

pub same_text : (a b : List ℕ) → bytes_eq a b ≡ bytes_eq b a
same_text a b = elim (cases_Bool (bytes_eq a b)) [
  | inl same ↦ same ∙ sym ((bytes_eq-Decides b a).1 (sym ((bytes_eq-Decides a b).0 same)))
  | inr apart ↦ elim (cases_Bool (bytes_eq b a)) [
    | inl same ↦ let there : bytes_eq a b ≡ true = (bytes_eq-Decides a b).1 (sym ((bytes_eq-Decides b a).0 same)) in cc
    | inr other ↦ apart ∙ sym other
  ]
]

pub cond_or : (same equal seen : Bool) → same ≡ equal → cond same true seen ≡ (seen || equal)
cond_or true equal true is = refl
cond_or true equal false is = is
cond_or false equal true is = refl
cond_or false equal false is = is

-- ---- one name after another
or_assoc : (a b c : Bool) → (a || (b || c)) ≡ ((a || b) || c)
or_assoc true b c = refl
or_assoc false b c = refl

or_false : (a : Bool) → (a || false) ≡ a
or_false true = refl
or_false false = refl

list_any-push : {X : Type 0} (p : X → Bool) (xs : List X) (x : X) → list_any p (xs ++ x ∷ []) ≡ (list_any p xs || p x)
list_any-push p [] x = or_false (p x)
list_any-push p (y ∷ xs) x = ap (λ b. p y || b) (list_any-push p xs x) ∙ or_assoc (p y) (list_any p xs) (p x)

-- the names seen are those before an index; with one more, those before the next index
pub seen_more : (names : List (List ℕ)) (place : ℕ) (name other : List ℕ) (before after : Bool) → place < length names → name ≡ get_or names place []
    → before ≡ list_any (bytes_eq other) (take place names) → after ≡ (before || bytes_eq other name) → after ≡ list_any (bytes_eq other) (take (place + 1) names)
seen_more names place name other before after within is seen more =
    let longer : take (place + 1) names ≡ take place names ++ get_or names place [] ∷ [] = take_more names place [] within in
    more ∙ ap (λ b. b || bytes_eq other name) seen ∙ ap (λ n. list_any (bytes_eq other) (take place names) || bytes_eq other n) is
    ∙ sym (list_any-push (bytes_eq other) (take place names) (get_or names place [])) ∙ ap (list_any (bytes_eq other)) (sym longer)

-- the faults of the names before an index
abbrev pub bad_before : NameList → List (List ℕ) → ℕ → List PollFault
bad_before list names place = map (bad_name list) (filter (is_bad_at (has_shape list) names) (range_with_len 0 place))

good_is : (shaped double : Bool) → (shaped && not double) ≡ not (not shaped || double)
good_is true double = refl
good_is false double = refl

pub judged_more : (list : NameList) (names : List (List ℕ)) (place : ℕ) (name : List ℕ) (double : Bool) (start before after : List PollFault) → name ≡ get_or names place []
    → double ≡ list_any (bytes_eq name) (take place names) → before ≡ start ++ bad_before list names place
    → after ≡ before ++ fault_unless (has_shape list name && not double) (bad_name list place) → after ≡ start ++ bad_before list names (place + 1)
judged_more list names place name double start before after is seen first judged =
    let bad : not (has_shape list name) || double ≡ is_bad_at (has_shape list) names place =
    ap (λ d. not (has_shape list name) || d) seen ∙ ap (λ n. not (has_shape list n) || list_any (bytes_eq n) (take place names)) is in
    let here : after ≡ before ++ fault_unless (not (is_bad_at (has_shape list) names place)) (bad_name list place) =
    judged ∙ ap (λ good. before ++ fault_unless good (bad_name list place)) (good_is (has_shape list name) double ∙ ap not bad) in
    here ∙ ap (λ es. es ++ fault_unless (not (is_bad_at (has_shape list) names place)) (bad_name list place)) first
    ∙ append_assoc start (bad_before list names place) (fault_unless (not (is_bad_at (has_shape list) names place)) (bad_name list place))
    ∙ ap (λ es. start ++ es) (sym (places_more (is_bad_at (has_shape list) names) (bad_name list) place))
