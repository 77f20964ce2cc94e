-- The getters of `clap` read the values in the rows of the matches; and only a command with the flag has a number of desks.
use Rattle.std.proofs.Common.{Bor, ◌≡◌, ◌≢◌, ◌∙◌, ◌<◌, ℕ, Option, Some, None, Result, Ok, Err, refl, sym, subst, ap, arith, List, codes, slice_index}
use Rattle.std.specs.Str.Parse.{IsNumeral, ParsesUnsigned, digits_value, without_leading_plus}
use Rattle.clap.specs.Words.{ReadsOne, Row, Text, first_of, first_value, one_text, rows_of}
use Rattle.clap.specs.declared.parser.matches.Found.{Found}
use Rattle.clap.proofs.WalkLemmas.{first_value-rows, one_text-rows}
use Rattle.vote_command_line.specs.ParsedArgs.{HasDesks, HasNumber, HasValues, NamedRequest, purpose_name, subcommand_name}
use Rattle.vote_request.specs.declared.Listing.TheVariants as listing
use Rattle.vote_request.specs.declared.Purpose.{Purpose}
use Rattle.vote_request.specs.declared.Purpose.TheVariants as purpose
use Rattle.vote_request.specs.declared.Request.TheVariants as request

pub first_value_rows : (found : Found) (id : Text) → first_value found id ≡ first_of id (rows_of found)
first_value_rows = first_value-rows

-- a number that a typed getter reads is the value of the option
pub number_read : {E : Type 0} (gives : Text → Result ℕ E → Type 0) → ((text : Text) (n : ℕ) → gives text (Ok n) → IsNumeral 10 (without_leading_plus text) × (n ≡ digits_value 10 (without_leading_plus text)))
    → (found : Found) (id : Text) (n : ℕ) (result : Option ℕ) → result ≡ Some n
    → (one_text found id ≡ None → result ≡ None) → ((text : Text) → one_text found id ≡ Some text → ReadsOne gives text result)
    → HasNumber (rows_of found) id n
number_read gives reads found id n result is none value = go (one_text found id) refl
  where
    go : (given : Option Text) → one_text found id ≡ given → HasNumber (rows_of found) id n
    go None e = let absent = none e in cc
    go (Some text) e = let number = reads text n (subst (λ r. ReadsOne gives text r) is (value text e)) in (text, sym (one_text-rows found id) ∙ e, number.0, number.1)

-- a number that a typed getter does not return is not the value of the option
pub no_number_read : {E : Type 0} (gives : Text → Result ℕ E → Type 0) → ((text : Text) (r : Result ℕ E) → gives text r → ParsesUnsigned 8 10 text r)
    → (found : Found) (id : Text) (n : ℕ) (result : Option ℕ) → n < 256 → (result ≡ Some n → ⊥)
    → ((text : Text) → one_text found id ≡ Some text → ReadsOne gives text result)
    → HasNumber (rows_of found) id n → ⊥
no_number_read gives parses found id n (Some read) few other value has =
    let parsed = parses has.0 (Ok read) (value has.0 (one_text-rows found id ∙ has.1)) in other (ap Some (parsed.1 ∙ sym has.3))
no_number_read gives parses found id n None few other value has =
    let err = value has.0 (one_text-rows found id ∙ has.1) in parses has.0 (Err err.0) err.1 (has.2, omega (arith, has.3))

-- by its second letter, this is not the name of a command without desks
abbrev CountsByName : Text → Type 0
CountsByName name = (slice_index name 1 ≢ 116) × (slice_index name 1 ≢ 104) × (slice_index name 1 ≢ 120)

counts_by_name : (made_for : Purpose (Bor Text)) → CountsByName (purpose_name made_for)
counts_by_name purpose.Sheet = (λ e. omega (arith, e), λ e. omega (arith, e), λ e. omega (arith, e))
counts_by_name purpose.Picture = (λ e. omega (arith, e), λ e. omega (arith, e), λ e. omega (arith, e))
counts_by_name (purpose.Verification sheet) = (λ e. omega (arith, e), λ e. omega (arith, e), λ e. omega (arith, e))

-- a request of such a command has a number of desks
no_desks : (rows : List Row) → ((desks : ℕ) → HasDesks rows desks → ⊥) → (name : Text) → CountsByName name → (request : NamedRequest) → subcommand_name request ≡ name → HasValues rows request → ⊥
no_desks rows none name counts (request.Count poll ballots desks casting made_for) is has = none desks has.2
no_desks rows none name counts (request.List poll ballots listing.Steps) is has = counts.0 (ap (λ text. slice_index text 1) (sym is))
no_desks rows none name counts (request.List poll ballots listing.Standing) is has = counts.0 (ap (λ text. slice_index text 1) (sym is))
no_desks rows none name counts (request.Check poll) is has = counts.1 (ap (λ text. slice_index text 1) (sym is))
no_desks rows none name counts (request.Explain poll ballots file poll_name) is has = counts.2 (ap (λ text. slice_index text 1) (sym is))

pub no_count : (rows : List Row) → ((desks : ℕ) → HasDesks rows desks → ⊥) → (made_for : Purpose (Bor Text)) → (request : NamedRequest) → subcommand_name request ≡ purpose_name made_for → HasValues rows request → ⊥
no_count rows none made_for = no_desks rows none (purpose_name made_for) (counts_by_name made_for)

pub no_verify : (rows : List Row) → ((desks : ℕ) → HasDesks rows desks → ⊥) → (request : NamedRequest) → subcommand_name request ≡ codes "verify" → HasValues rows request → ⊥
no_verify rows none = no_desks rows none (codes "verify") (λ e. omega (arith, e), λ e. omega (arith, e), λ e. omega (arith, e))
