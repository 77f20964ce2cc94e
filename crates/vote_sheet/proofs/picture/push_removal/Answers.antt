use Rattle.std.proofs.Common.{append_assoc}
use Rattle.vote_sheet.proofs.picture.push_removal.Goals as goal

pub returns-in-Some : goal.returns-in-Some
returns-in-Some c = rw c.in-Some.is (simp append_assoc c.writeln.ensures.bytes)
