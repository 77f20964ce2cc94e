use Rattle.std.proofs.Common.{sym, cond}
use Rattle.std.proofs.lemmas.List.Sorted.{sum_by-IsPermutation}
use Rattle.vote_count.specs.Ballots.{entry_prefers}
use Rattle.vote_count.proofs.laws.ballots_are_anonymous.Goals as goal

pub returns : goal.returns
returns c ballots others permutation a b = sym (sum_by-IsPermutation (λ entry. cond (entry_prefers a b entry) 1 0) ballots others permutation)
