use Rattle.vote_sheet.specs.Sheet.{casting_note}
use Rattle.vote_sheet.proofs.sheet_text.casting_note.Goals as goal

pub returns : goal.returns
unfolding casting_note
returns c = rw (← c.len.ensures.count) c.when.ensures
