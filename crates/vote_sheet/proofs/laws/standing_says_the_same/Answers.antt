use Rattle.vote_sheet.proofs.StandingLemmas.{says_the_same}
use Rattle.vote_sheet.proofs.laws.standing_says_the_same.Goals as goal

pub returns : goal.returns
returns c = says_the_same c.lines_are_unique.ensures c.each_line_is_read.ensures
