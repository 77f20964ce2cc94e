use Rattle.vote_explain_ballots.proofs.Words.{◌≡◌, string_bytes}
use Rattle.vote_explain_ballots.specs.Explained.{each, numbered}
use Rattle.vote_explain_ballots.proofs.explain.own_options.Given as goal

abbrev pub invariant-loop-before : goal.invariant-loop-before
invariant-loop-before l = string_bytes l.row ≡ each l.before (numbered l.poll.options)
