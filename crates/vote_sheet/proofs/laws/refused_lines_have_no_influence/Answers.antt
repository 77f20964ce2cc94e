use Rattle.vote_sheet.proofs.ElectorLaws.{refused_line_after, refused_lines}
use Rattle.vote_sheet.proofs.laws.refused_lines_have_no_influence.Goals as goal

pub returns-clause-changed : goal.returns-clause-changed
returns-clause-changed c = refused_lines

pub returns-clause-added : goal.returns-clause-added
returns-clause-added c = refused_line_after
