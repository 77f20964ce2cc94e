-- If a poll file's keys have no fault, the poll that they give keeps the limits.
use Rattle.std.proofs.Common.{◌≡◌, ◌+◌, ◌≤◌, ◌==◌, ◌&&◌, ◌∷◌, ◌++◌, [], ℕ, ℤ, List, Bool, true, false, cond, map, length, Option, Some, None, IfSome, refl, ap, sym, ◌∙◌, arith, nat_abs, length-append, pos, Bor, unwrap_or, slice_get}
use Rattle.std.specs.Prelude.{is_some}
use Rattle.std.specs.Option.{option_and_then, option_copied}
use Rattle.std.specs.List.{list_all}
use Rattle.std.proofs.lemmas.Bool.{and_parts}
use Rattle.std.proofs.lemmas.Bool.Decides.{nat_tests}
use Rattle.std.proofs.lemmas.Int.{ints}
use Rattle.std.proofs.lemmas.List.{length-map}
use Rattle.std.proofs.lemmas.List.Elements.{All-map, All-weaker}
use Rattle.std.proofs.lemmas.List.Sums.{AllPass-from_list_all}
use Rattle.toml.specs.Data.{Members}
use Rattle.vote_poll.specs.Names.{first_bad}
use Rattle.vote_poll_text.specs.Names.{is_within, is_voter_name, is_option_name, is_title}
use Rattle.vote_poll.specs.PollContent.{IsPoll, PollContent}
use Rattle.vote_poll_keys.specs.KeyFaults.{FoundKeys, fault_unless, is_right, names_of_options, of_keys}
use Rattle.vote_poll.specs.PollFaults.{IsJudged, bad_places, of_contents, of_last_envelope, of_option_count, of_option_names, of_quorum, of_ratios, of_roll_size, of_title, of_voter_names, of_wording, where_found}
use Rattle.vote_poll.specs.PollFile.{poll_of}
use Rattle.vote_poll.specs.PollValues.{is_integer_within, last_envelope_in, number_within, quorum_in}
use Rattle.vote_poll.proofs.NamesLaws.{within_bounds}
use Rattle.vote_poll.proofs.PollFaultsLaws.{first_bad_place}
use Rattle.vote_poll.specs.declared.TheConstants.{MAX_OPTIONS, MAX_ELECTORS, MAX_RATIO, MAX_QUORUM_MULTIPLE}
use Rattle.vote_poll_text.specs.declared.lines.TheConstants.{MAX_LINES}
use Rattle.vote_poll_keys.specs.declared.fault.PollKey.TheVariants as key
use Rattle.vote_poll_keys.specs.declared.fault.PollFault.{PollFault}
use Rattle.vote_poll_keys.specs.declared.fault.PollFault.TheVariants as fault

-- ---- no fault in a list of parts
nothing_in : {X : Type 0} (xs ys : List X) → xs ++ ys ≡ [] → (xs ≡ []) × (ys ≡ [])
nothing_in [] ys none = (refl, none)
nothing_in (x ∷ xs) ys none = cc

right_if_none : (right : Bool) (e : PollFault) → fault_unless right e ≡ [] → right ≡ true
right_if_none true e none = refl
right_if_none false e none = cc

none_named : (naming : ℕ → PollFault) (places : List ℕ) → map naming places ≡ [] → places ≡ []
none_named naming [] none = refl
none_named naming (place ∷ places) none = cc

none_bad : (naming : ℕ → PollFault) (has_shape : List ℕ → Bool) (names : List (List ℕ)) → map naming (bad_places has_shape names) ≡ [] → first_bad has_shape names ≡ None
none_bad naming has_shape names none =
    sym (first_bad_place has_shape names) ∙ ap (λ places. slice_get places 0) (none_named naming (bad_places has_shape names) none)

there : {X : Type 0} (o : Option X) → is_some o ≡ true → (x : X) × (o ≡ Some x)
there None is = cc
there (Some x) is = (x, refl)

-- ---- the numbers
integer_bounds : (low high : ℕ) (z : ℤ) → is_integer_within low high z ≡ true → (low ≤ nat_abs z) × (nat_abs z ≤ high)
integer_bounds low high (pos n) h = (grind (arith, ints, nat_tests), grind (arith, ints, nat_tests))
integer_bounds low high z h = (grind (arith, ints, nat_tests), grind (arith, ints, nat_tests))

number_at_most : (high : ℕ) (z : ℤ) (n : ℕ) → number_within 0 high z ≡ Some n → n ≤ high
number_at_most high z n is = at_most (is_integer_within 0 high z) refl is
  where
    at_most : (test : Bool) → is_integer_within 0 high z ≡ test → cond test (Some (nat_abs z)) None ≡ Some n → n ≤ high
    at_most true within same = let equal : nat_abs z ≡ n = cc in omega (arith, equal, (integer_bounds 0 high z within).1)
    at_most false within same = cc

quorum_at_most : (o : Option ℕ) → ((n : ℕ) → o ≡ Some n → n ≤ MAX_QUORUM_MULTIPLE) → unwrap_or o 0 ≤ MAX_QUORUM_MULTIPLE
quorum_at_most None most = omega arith
quorum_at_most (Some n) most = most n refl

if_some : (o : Option ℕ) (high : ℕ) → ((n : ℕ) → o ≡ Some n → n ≤ high) → IfSome o (λ n. n ≤ high)
if_some None high most = tt
if_some (Some n) high most = most n refl

of_integer : (high : ℕ) (o : Option ℤ) (n : ℕ) → option_and_then (number_within 0 high) o ≡ Some n → n ≤ high
of_integer high None n is = cc
of_integer high (Some z) n is = number_at_most high z n is

-- ---- the whole
-- what the reader of the keys has to know of the poll that they give
pub record IsWhole (f : FoundKeys) : Type 0 where
  pub title : f.title ≡ Some (poll_of f).title
  pub ratios : list_all (is_integer_within 1 MAX_RATIO) (unwrap_or f.ratios []) ≡ true
  pub roll : first_bad is_voter_name (unwrap_or f.roll []) ≡ None
  pub poll : IsPoll (poll_of f)

-- the values of the required keys
record AreThere (f : FoundKeys) : Type 0 where
  title : List ℕ
  options : List (List ℕ)
  ratios : List ℤ
  default_option : List ℕ
  roll : List (List ℕ)
  title_is : f.title ≡ Some title
  options_are : f.options ≡ Some options
  ratios_are : f.ratios ≡ Some ratios
  default_is : f.default_option ≡ Some default_option
  roll_is : f.roll ≡ Some roll

are_there : (table : Members) (f : FoundKeys) → of_keys table f ≡ [] → AreThere f
unfolding of_keys
are_there table f none =
    let title = nothing_in (fault_unless (is_right table f key.Title) (fault.Key key.Title)) _ none in
    let options = nothing_in (fault_unless (is_right table f key.Options) (fault.Key key.Options)) _ title.1 in
    let ratios = nothing_in (fault_unless (is_right table f key.Ratios) (fault.Key key.Ratios)) _ options.1 in
    let default_option = nothing_in (fault_unless (is_right table f key.DefaultOption) (fault.Key key.DefaultOption)) _ ratios.1 in
    let quorum = nothing_in (fault_unless (is_right table f key.Quorum) (fault.Key key.Quorum)) _ default_option.1 in
    let roll = nothing_in (fault_unless (is_right table f key.Roll) (fault.Key key.Roll)) _ quorum.1 in
    let has_title = there f.title (right_if_none _ _ title.0) in
    let has_options = there f.options (right_if_none _ _ options.0) in
    let has_ratios = there f.ratios (right_if_none _ _ ratios.0) in
    let has_default = there f.default_option (right_if_none _ _ default_option.0) in
    let has_roll = there f.roll (right_if_none _ _ roll.0) in
    record {
      title = has_title.0;
      options = has_options.0;
      ratios = has_ratios.0;
      default_option = has_default.0;
      roll = has_roll.0;
      title_is = has_title.1;
      options_are = has_options.1;
      ratios_are = has_ratios.1;
      default_is = has_default.1;
      roll_is = has_roll.1;
    }

is_whole : (f : FoundKeys) → AreThere f → of_contents f ≡ [] → IsWhole f
unfolding of_contents of_title of_option_count of_option_names of_ratios of_roll_size of_voter_names
is_whole f has none =
    let names : List (List ℕ) = has.options ++ has.default_option ∷ [] in
    let wording = nothing_in _ (of_wording f) none in
    let last = nothing_in _ (of_last_envelope f) wording.0 in
    let voters = nothing_in _ (of_voter_names f) last.0 in
    let size = nothing_in _ (of_roll_size f) voters.0 in
    let quorum = nothing_in _ (of_quorum f) size.0 in
    let ratios = nothing_in _ (of_ratios f) quorum.0 in
    let options = nothing_in _ (of_option_names f) ratios.0 in
    let title_and_count = nothing_in (of_title f) (of_option_count f) options.0 in
    let names_are : names_of_options f ≡ Some names = rw (has.options_are, has.default_is) refl in
    let title_right : is_title has.title ≡ true =
    right_if_none _ fault.Title (sym (ap (λ o. where_found o (λ title. fault_unless (is_title title) fault.Title)) has.title_is) ∙ title_and_count.0) in
    let count_right : is_within 2 MAX_OPTIONS (length has.options + 1) ≡ true =
    right_if_none _ fault.OptionCount
    (sym (ap (λ o. where_found o (λ options. fault_unless (is_within 2 MAX_OPTIONS (length options + 1)) fault.OptionCount)) has.options_are) ∙ title_and_count.1) in
    let option_names : first_bad is_option_name names ≡ None =
    none_bad (λ place. fault.OptionName (place + 1)) is_option_name names
    (sym (ap (λ o. where_found o (λ names. map (λ place. fault.OptionName (place + 1)) (bad_places is_option_name names))) names_are) ∙ options.1) in
    let ratio_right : (length has.ratios == length has.options) && list_all (is_integer_within 1 MAX_RATIO) has.ratios ≡ true =
    right_if_none _ fault.Ratio
    (sym (ap (λ o. where_found o (λ options. where_found f.ratios (λ ratios. fault_unless ((length ratios == length options) && list_all (is_integer_within 1 MAX_RATIO) ratios) fault.Ratio))) has.options_are
    ∙ ap (λ o. where_found o (λ ratios. fault_unless ((length ratios == length has.options) && list_all (is_integer_within 1 MAX_RATIO) ratios) fault.Ratio)) has.ratios_are) ∙ ratios.1) in
    let size_right : is_within 1 MAX_ELECTORS (length has.roll) ≡ true =
    right_if_none _ fault.RollSize
    (sym (ap (λ o. where_found o (λ roll. fault_unless (is_within 1 MAX_ELECTORS (length roll)) fault.RollSize)) has.roll_is) ∙ size.1) in
    let voter_names : first_bad is_voter_name has.roll ≡ None =
    none_bad fault.VoterName is_voter_name has.roll
    (sym (ap (λ o. where_found o (λ roll. map fault.VoterName (bad_places is_voter_name roll))) has.roll_is) ∙ voters.1) in
    let (counted, ranged) = and_parts (length has.ratios == length has.options) (list_all (is_integer_within 1 MAX_RATIO) has.ratios) ratio_right in
    let title : unwrap_or f.title [] ≡ has.title = ap (λ o. unwrap_or o []) has.title_is in
    let whole : unwrap_or (names_of_options f) [] ≡ names = ap (λ o. unwrap_or o []) names_are in
    let numbers : unwrap_or f.ratios [] ≡ has.ratios = ap (λ o. unwrap_or o []) has.ratios_are in
    let roll : unwrap_or f.roll [] ≡ has.roll = ap (λ o. unwrap_or o []) has.roll_is in
    let option_count = within_bounds 2 MAX_OPTIONS (length has.options + 1) count_right in
    let roll_size = within_bounds 1 MAX_ELECTORS (length has.roll) size_right in
    let long : length names ≡ length has.options + 1 = length-append has.options (has.default_option ∷ []) in
    let whole_long : length (unwrap_or (names_of_options f) []) ≡ length names = ap length whole in
    let roll_long : length (unwrap_or f.roll []) ≡ length has.roll = ap length roll in
    record {
      title = has.title_is ∙ ap Some (sym title);
      ratios = ap (list_all (is_integer_within 1 MAX_RATIO)) numbers ∙ ranged;
      roll = ap (first_bad is_voter_name) roll ∙ voter_names;
      poll = record {
        title = ap is_title title ∙ title_right;
        options_min = omega (arith, option_count.0, long, whole_long);
        options_max = omega (arith, option_count.1, long, whole_long);
        option_names = ap (first_bad is_option_name) whole ∙ option_names;
        ratio_count = let same : length has.ratios ≡ length has.options = grind (arith, nat_tests) in
            omega (arith, same, ap length numbers, length-map (unwrap_or f.ratios []) nat_abs, long, whole_long);
        ratio_range = rw numbers (All-map (λ r. (1 ≤ r) × (r ≤ MAX_RATIO)) nat_abs has.ratios (All-weaker (λ z. is_integer_within 1 MAX_RATIO z ≡ true) (λ z. (1 ≤ nat_abs z) × (nat_abs z ≤ MAX_RATIO)) (integer_bounds 1 MAX_RATIO) has.ratios (AllPass-from_list_all (is_integer_within 1 MAX_RATIO) has.ratios ranged)));
        quorum_range = quorum_at_most (option_and_then quorum_in f.quorum) (of_integer MAX_QUORUM_MULTIPLE f.quorum);
        electors_min = omega (arith, roll_size.0, roll_long);
        electors_max = omega (arith, roll_size.1, roll_long);
        voter_names = ap (first_bad is_voter_name) roll ∙ voter_names;
        last_range = if_some (option_and_then last_envelope_in f.last_envelope) MAX_LINES (of_integer MAX_LINES f.last_envelope);
      };
    }

pub whole_if_judged : (table : Members) (f : FoundKeys) → IsJudged table f [] → IsWhole f
whole_if_judged table f judged =
    let none : of_keys table f ++ of_contents f ≡ [] = ap (λ k. of_keys table k ++ of_contents k) judged.found ∙ sym judged.all in
    let parts = nothing_in (of_keys table f) (of_contents f) none in
    is_whole f (are_there table f parts.0) parts.1

-- ---- two polls with the same values
pub same_poll : (p q : PollContent) → p.title ≡ q.title → p.options ≡ q.options → p.ratios ≡ q.ratios → p.quorum_multiple ≡ q.quorum_multiple → p.roll ≡ q.roll → p.last_envelope ≡ q.last_envelope
    → p.wording ≡ q.wording → p ≡ q
same_poll p q title options ratios quorum roll last wording =
    ap (λ t. record { title = t; options = p.options; ratios = p.ratios; quorum_multiple = p.quorum_multiple; roll = p.roll; last_envelope = p.last_envelope; wording = p.wording }) title
    ∙ ap (λ o. record { title = q.title; options = o; ratios = p.ratios; quorum_multiple = p.quorum_multiple; roll = p.roll; last_envelope = p.last_envelope; wording = p.wording }) options
    ∙ ap (λ r. record { title = q.title; options = q.options; ratios = r; quorum_multiple = p.quorum_multiple; roll = p.roll; last_envelope = p.last_envelope; wording = p.wording }) ratios
    ∙ ap (λ m. record { title = q.title; options = q.options; ratios = q.ratios; quorum_multiple = m; roll = p.roll; last_envelope = p.last_envelope; wording = p.wording }) quorum
    ∙ ap (λ r. record { title = q.title; options = q.options; ratios = q.ratios; quorum_multiple = q.quorum_multiple; roll = r; last_envelope = p.last_envelope; wording = p.wording }) roll
    ∙ ap (λ l. record { title = q.title; options = q.options; ratios = q.ratios; quorum_multiple = q.quorum_multiple; roll = q.roll; last_envelope = l; wording = p.wording }) last
    ∙ ap (λ w. record { title = q.title; options = q.options; ratios = q.ratios; quorum_multiple = q.quorum_multiple; roll = q.roll; last_envelope = q.last_envelope; wording = w }) wording

-- ---- what was found and read
pub text_given : (o : Option (Bor (List ℕ))) (d : Bor (List ℕ)) (t : List ℕ) → option_copied o ≡ Some t → (unwrap_or o d).now ≡ t
text_given None d t h = cc
text_given (Some x) d t h = cc
