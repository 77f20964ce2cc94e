use Rattle.vote_audit.proofs.laws.lines_are_counted.Goals as goal

pub returns : goal.returns
returns c poll lines b slips_by_desk audited = c.lines_are_counted.ensures poll lines b audited.holds
