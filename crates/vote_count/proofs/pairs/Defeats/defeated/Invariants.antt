use Rattle.std.proofs.Common.{ℕ, ◌<◌, [], get_or}
use Rattle.vote_count.specs.Sets.{In}
use Rattle.vote_count.proofs.pairs.Defeats.defeated.Given as goal

-- the set has the options of the rows so far
abbrev pub invariant-loop-row : goal.invariant-loop-row
invariant-loop-row l = (k o : ℕ) → k < l.row-index → In (get_or l.row-items k []) o → In l.defeated o
