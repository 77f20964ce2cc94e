use Rattle.vote_explain_ballots.proofs.Words.{◌≡◌, ◌+◌, ◌++◌, codes, decimal, string_bytes}
use Rattle.vote_explain_ballots.specs.Explained.{each}
use Rattle.vote_explain_ballots.proofs.explain.own_ballot.Given as goal

abbrev pub invariant-loop-before : goal.invariant-loop-before
invariant-loop-before l = string_bytes l.ballot ≡ string_bytes l.initial.ballot ++ each l.before (λ option. decimal (option + 1) ++ codes ",")
