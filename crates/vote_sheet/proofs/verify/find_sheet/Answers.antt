use Rattle.std.proofs.Common.{◌≡◌, ◌++◌, ◌∙◌, ap, ap₂, length, subst, sym, take}
use Rattle.std.proofs.Math.Seq.{take-append_seam}
use Rattle.std.specs.Cmp.Lexicographic.{bytes_decides}
use Rattle.std.proofs.lemmas.Bool.{true≢false}
use Rattle.std.proofs.lemmas.List.{take-append-drop}
use Rattle.std.proofs.lemmas.Result.{IfOk-weaker}
use Rattle.vote_sheet.specs.Sheet.{Text}
use Rattle.vote_sheet.proofs.Verifying.{none_found, rest_found}
use Rattle.vote_sheet.proofs.verify.find_sheet.Goals as goal

pub returns-in-Some : goal.returns-in-Some
returns-in-Some c =
    let text = c.args.text.now in
    let front = c.as_bytes.result.now in
    let cases = c.in-Some.ensures.cases in
    let begins : take (length front) text ≡ front = (bytes_decides (take (length front) text) front).0 cases.0 in
    let parted : text ≡ front ++ c.in-Some.rest.now = sym (take-append-drop (length front) text) ∙ ap₂ ◌++◌ begins (sym cases.1) in
    let P : Text → Type 0 = λ t. text ≡ t ++ c.in-Some.rest.now in
    IfOk-weaker c.find_last.result _ _ (λ found is. rest_found c.args.poll.now c.args.count.now c.args.shared.now text c.in-Some.rest.now (subst P c.as_bytes.ensures.value parted) found is) c.find_last.ensures

pub returns-in-None : goal.returns-in-None
returns-in-None c =
    let text = c.args.text.now in
    let front = c.as_bytes.result.now in
    none_found c.args.poll.now c.args.count.now c.args.shared.now text (λ rest same.
    let P : Text → Type 0 = λ t. text ≡ t ++ rest in
    let begins = ap (take (length front)) (subst P (sym c.as_bytes.ensures.value) same) ∙ take-append_seam front rest in
    true≢false (sym ((bytes_decides (take (length front) text) front).1 begins) ∙ c.in-None.ensures.cases))
