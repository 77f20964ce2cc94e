use Rattle.vote_sheet.proofs.VerificationsExist.{verifications_exist}
use Rattle.vote_sheet.proofs.laws.verifications_exist.Goals as goal

pub returns : goal.returns
returns c = verifications_exist c.sheet_exists.ensures c.sheet_is_unique.ensures
