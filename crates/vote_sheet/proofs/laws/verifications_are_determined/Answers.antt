use Rattle.vote_sheet.proofs.VerifiedOnce.{verifications_are_determined}
use Rattle.vote_sheet.proofs.laws.verifications_are_determined.Goals as goal

pub returns : goal.returns
returns c = verifications_are_determined c.sheet_is_unique.ensures
