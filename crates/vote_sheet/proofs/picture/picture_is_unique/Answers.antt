use Rattle.vote_sheet.proofs.PictureLaws.{picture_is_unique}
use Rattle.vote_sheet.proofs.picture.picture_is_unique.Goals as goal

pub returns : goal.returns
returns c = picture_is_unique c.outcomes_are_determined.ensures c.decisions_are_determined.ensures
