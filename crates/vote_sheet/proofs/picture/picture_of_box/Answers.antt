use Rattle.std.proofs.Common.{◌++◌, ◌∙◌, ap, refl}
use Rattle.vote_sheet.specs.Counted.{as_sheet}
use Rattle.vote_sheet.specs.Picture.{picture_text}
use Rattle.vote_sheet.specs.Sheet.{Sheet}
use Rattle.vote_sheet.proofs.picture.picture_of_box.Goals as goal

pub returns : goal.returns
returns c =
    let s : Sheet = as_sheet c.in_ok-count.count c.decide-decision.result in (
      s,
      c.in_ok-count.ensures.sheets.sheets c.args.casting c.decide-decision.result c.decide-decision.ensures.decision,
      c.in_ok-push_picture.ensures ∙ ap (λ t. t ++ picture_text c.args.poll.now s) c.new-text.ensures.bytes,
      refl,
    )
