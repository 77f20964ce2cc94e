use Rattle.std.proofs.Common.{◌+◌, ◌++◌, ◌∙◌, ap, append_assoc, decimal, string_bytes, sym}
use Rattle.vote_sheet.specs.Sheet.{column_text, each, right}
use Rattle.vote_sheet.proofs.Padding.{number_in_6}
use Rattle.vote_sheet.proofs.Texts.{each_one_more}
use Rattle.vote_sheet.proofs.sheet_text.push_table_head.Goals as goal

pub loop-before-preserved : goal.loop-before-preserved
unfolding column_text
loop-before-preserved c =
    let k = c.loop-before.before in
    let old = string_bytes c.push_str.new.self in
    let cell = right 6 (decimal (k + 1)) in
    c.in_ok-write.ensures.bytes
    ∙ ap (λ t. string_bytes c.loop-before.text ++ t) (number_in_6 c.laid_out.result (k + 1) c.laid_out.ensures)
    ∙ ap (λ t. t ++ cell) c.loop-before.invariant
    ∙ append_assoc old (each k column_text) cell
    ∙ ap (λ t. old ++ t) (sym (each_one_more k column_text))
