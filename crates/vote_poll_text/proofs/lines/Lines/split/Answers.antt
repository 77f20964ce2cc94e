use Rattle.std.proofs.Common.{◌≡◌, ◌≤◌, List, ℕ, map, length, Bor, sym, ap, subst, arith}
use Rattle.std.proofs.lemmas.Bool.Decides.{nat_tests}
use Rattle.std.proofs.lemmas.List.{length-map}
use Rattle.vote_poll_text.specs.declared.lines.TheConstants.{MAX_LINES}
use Rattle.vote_poll_text.specs.Lines.{AreLines, lines_of}
use Rattle.vote_poll_text.proofs.LinesLaws.{lines_are, line_laws}
use Rattle.vote_poll_text.proofs.lines.Lines.split.Goals as goal

pub returns-clause-lines : goal.returns-clause-lines
returns-clause-lines c =
    let same : map (λ (line : Bor (List ℕ)). line.now) c.in_ok-lines.lines.items ≡ lines_of c.args.text.now = grind (arith, line_laws) in
    subst (AreLines c.args.text.now) (sym same) (lines_are c.args.text.now)

pub invariant_of-result-2 : goal.invariant_of-result-2
invariant_of-result-2 c =
    let same : map (λ (line : Bor (List ℕ)). line.now) c.in_ok-lines.lines.items ≡ lines_of c.args.text.now = grind (arith, line_laws) in
    let few : length (lines_of c.args.text.now) ≤ MAX_LINES = grind (arith, line_laws) in
    omega (arith, few, ap length same, length-map c.in_ok-lines.lines.items (λ (line : Bor (List ℕ)). line.now))

pub returns-in_err-lines-clause-too_many : goal.returns-in_err-lines-clause-too_many
returns-in_err-lines-clause-too_many c = grind (arith, line_laws)

pub returns-clause-too_many : goal.returns-clause-too_many
returns-clause-too_many c = grind (arith, line_laws)

pub returns-then-too_many-clause-too_many : goal.returns-then-too_many-clause-too_many
returns-then-too_many-clause-too_many c = grind (arith, line_laws, nat_tests)
