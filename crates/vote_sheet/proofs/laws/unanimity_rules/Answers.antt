use Rattle.vote_sheet.proofs.SheetLaws.{unanimity}
use Rattle.vote_sheet.proofs.laws.unanimity_rules.Goals as goal

pub returns : goal.returns
returns c = unanimity c.final_set_is_one.ensures c.final_set_is_pareto.ensures c.winners_are_in_the_set.ensures
