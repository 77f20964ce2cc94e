use Rattle.vote_sheet.proofs.ElectorLaws.{outdated_lines}
use Rattle.vote_sheet.proofs.laws.only_the_last_ballot_counts.Goals as goal

pub returns : goal.returns
returns c = outdated_lines
