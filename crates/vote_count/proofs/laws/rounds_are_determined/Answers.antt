use Rattle.vote_count.specs.Rules.{IsKept, PairwiseDefeats}
use Rattle.vote_count.proofs.RoundLemmas.{rounds_unique}
use Rattle.vote_count.proofs.laws.rounds_are_determined.Goals as goal

pub returns : goal.returns
returns c poll matrix rounds others = rounds_unique (IsKept poll matrix) matrix rounds others (PairwiseDefeats (IsKept poll matrix) matrix)
