-- The text was found among the sheets with the shared lines. These lines are those of the count, so what was found is said of the sheets of the poll and its lines.
use Rattle.std.proofs.Common.{◌≡◌, ◌++◌, ◌∙◌, ap, string_bytes, subst, sym}
use Rattle.vote_sheet.specs.Counted.{IsWhole, shared_text}
use Rattle.vote_sheet.specs.Sheet.{Text}
use Rattle.vote_sheet.specs.Verify.{IsFound, IsVerification, difference_text}
use Rattle.vote_sheet.proofs.Verifying.{agrees_longest, is_verified, none_verified}
use Rattle.vote_sheet.proofs.verify.verify_sheet.Goals as goal

pub returns-in-Same-clause-verification : goal.returns-in-Same-clause-verification
returns-in-Same-clause-verification c =
    let poll = c.args.poll.now in
    let count = c.in_ok-count.count in
    let text = c.args.text.now in
    let shared : c.as_str.result.now ≡ shared_text poll count = c.as_str.ensures.value ∙ c.in_ok-push_shared.ensures ∙ ap (λ t. t ++ shared_text poll count) c.new-sheet.ensures.bytes in
    let P : Text → Type 0 = λ t. IsFound poll (IsWhole poll count t) text c.in_ok-casting.field-0 in
    let found = subst (IsFound poll (IsWhole poll count (shared_text poll count)) text) c.in-Same.is (subst P shared c.in_ok-casting.ensures) in
    subst (IsVerification poll c.args.lines.now text) (sym c.matching.ensures)
    (is_verified c.outcomes_are_determined.ensures c.sheet_is_unique.ensures poll c.args.lines.now count c.in_ok-count.ensures.sheets text c.in-Same.casting found)

pub returns-clause-verification : goal.returns-clause-verification
returns-clause-verification c =
    let poll = c.args.poll.now in
    let count = c.in_ok-count.count in
    let text = c.args.text.now in
    let sheet = string_bytes c.push_last_line.new.text in
    let bytes : string_bytes c.push_shared.new.text ≡ shared_text poll count = c.in_ok-push_shared.ensures ∙ ap (λ t. t ++ shared_text poll count) c.new-sheet.ensures.bytes in
    let P : Text → Type 0 = λ t. IsFound poll (IsWhole poll count t) text c.in_ok-casting.field-0 in
    let found = subst (IsFound poll (IsWhole poll count (shared_text poll count)) text) c.in-Closest.is (subst P (c.as_str.ensures.value ∙ bytes) c.in_ok-casting.ensures) in
    let Q : Text → Type 0 = λ t. IsWhole poll count t c.in-Closest.casting sheet in
    none_verified c.outcomes_are_determined.ensures c.sheet_is_unique.ensures poll c.args.lines.now count c.in_ok-count.ensures.sheets text c.in-Closest.casting sheet (subst Q bytes c.in_ok-push_last_line-in-Closest.ensures) found

pub returns-clause-words : goal.returns-clause-words
returns-clause-words c =
    let poll = c.args.poll.now in
    let count = c.in_ok-count.count in
    let text = c.args.text.now in
    let sheet = string_bytes c.push_last_line.new.text in
    let bytes : string_bytes c.push_shared.new.text ≡ shared_text poll count = c.in_ok-push_shared.ensures ∙ ap (λ t. t ++ shared_text poll count) c.new-sheet.ensures.bytes in
    let P : Text → Type 0 = λ t. IsFound poll (IsWhole poll count t) text c.in_ok-casting.field-0 in
    let found = subst (IsFound poll (IsWhole poll count (shared_text poll count)) text) c.in-Closest.is (subst P (c.as_str.ensures.value ∙ bytes) c.in_ok-casting.ensures) in
    let Q : Text → Type 0 = λ t. IsWhole poll count t c.in-Closest.casting sheet in (
      c.in-Closest.casting,
      sheet,
      agrees_longest c.outcomes_are_determined.ensures c.sheet_is_unique.ensures poll c.args.lines.now count c.in_ok-count.ensures.sheets text c.in-Closest.casting sheet (subst Q bytes c.in_ok-push_last_line-in-Closest.ensures) found,
      c.in_ok-words-in-Closest.ensures ∙ ap (difference_text text) c.as_bytes.ensures.value,
    )
