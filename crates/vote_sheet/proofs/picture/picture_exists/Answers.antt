use Rattle.vote_sheet.proofs.PictureLaws.{picture_exists}
use Rattle.vote_sheet.proofs.picture.picture_exists.Goals as goal

pub returns : goal.returns
returns c = picture_exists c.sheet_exists.ensures
