use Rattle.std.proofs.Common.{◌≡◌, ◌++◌, ◌∙◌, ap, append_assoc, arith, codes, decimal, rules, string_bytes}
use Rattle.vote_sheet.specs.Sheet.{Text, each, right, row_text, votes_text}
use Rattle.vote_sheet.proofs.Padding.{number_in_3}
use Rattle.vote_sheet.proofs.sheet_text.push_row.Goals as goal

-- the three pieces that are written
pieces : (old number cells : Text) → ((old ++ number) ++ cells) ++ codes "\n" ≡ old ++ (number ++ (cells ++ codes "\n"))
pieces old number cells = simp append_assoc

pub returns : goal.returns
unfolding row_text
returns c =
    let matrix = c.args.matrix.now in
    let a = c.args.a in
    let number = string_bytes c.write.new.self in
    let all : c.loop-before.before ≡ matrix.options = omega arith in
    let cells : Text = each matrix.options (votes_text matrix a) in
    let written : string_bytes c.loop-before.text ≡ number ++ cells = c.loop-before.invariant ∙ ap (λ n. number ++ each n (votes_text matrix a)) all in
    rw (← pieces (string_bytes c.args.text.now) (right 3 (decimal a)) cells, ← number_in_3 c.laid_out.result a c.laid_out.ensures, ← c.in_ok-write.ensures.bytes, ← written) (search rules)
