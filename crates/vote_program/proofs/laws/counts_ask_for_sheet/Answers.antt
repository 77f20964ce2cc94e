use Rattle.vote_program.proofs.CountLaws.{counts_ask}
use Rattle.vote_program.proofs.laws.counts_ask_for_sheet.Goals as goal

pub returns : goal.returns
returns c = counts_ask
