use Rattle.vote_sheet.proofs.Publishing.{say_the_same}
use Rattle.vote_sheet.proofs.laws.published_files_say_the_same.Goals as goal

pub returns : goal.returns
returns c = say_the_same c.each_line_is_read.ensures c.readings_are_unique.ensures c.names_are_distinct.ensures
