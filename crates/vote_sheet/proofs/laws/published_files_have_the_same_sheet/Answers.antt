use Rattle.vote_sheet.proofs.Publishing.{have_the_same_sheet}
use Rattle.vote_sheet.proofs.laws.published_files_have_the_same_sheet.Goals as goal

pub returns : goal.returns
returns c = have_the_same_sheet c.each_line_is_read.ensures c.ballots_that_order_alike_count_alike.ensures c.published_files_say_the_same.ensures
