use Rattle.std.proofs.Common.{◌++◌, ◌∙◌, ap, refl, sym}
use Rattle.vote_sheet.specs.Counted.{as_sheet, whole_text}
use Rattle.vote_sheet.proofs.Parts.{sheet_parts}
use Rattle.vote_sheet.proofs.Winners.{final_is_option}
use Rattle.vote_sheet.proofs.sheet.sheet_of_box.Goals as goal

pub returns : goal.returns
returns c =
    let poll = c.args.poll.now in
    let count = c.in_ok-count.count in
    let decision = c.decide-decision.result in
    let is = c.in_ok-count.ensures.sheets in (
      as_sheet count decision,
      is.sheets c.args.casting decision c.decide-decision.ensures.decision,
      c.in_ok-push_sheet.ensures ∙ ap (λ t. t ++ whole_text poll count decision) c.new-text.ensures.bytes
          ∙ sym (sheet_parts poll c.args.lines.now count decision is.line_count),
      refl,
    )

pub push_sheet-requires : goal.push_sheet-requires
push_sheet-requires c o wins = final_is_option c.args.poll.now c.in_ok-count.count c.in_ok-count.ensures.kept o (c.decide-decision.ensures.winner o wins)
