use Rattle.vote_sheet.proofs.Renaming.{names_lem}
use Rattle.vote_sheet.proofs.laws.names_do_not_matter.Goals as goal

pub returns : goal.returns
returns c = names_lem c.each_line_is_read.ensures
