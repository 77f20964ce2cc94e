use Rattle.vote_count.proofs.BitLemmas.{last_mark}
use Rattle.vote_count.proofs.options.OptionSet.last.Goals as goal

pub returns-clause-none_behind : goal.returns-clause-none_behind
returns-clause-none_behind c o = rw (← c.self.view_is) (last_mark c.self.inside.bits o c.self.invariant)
