use Rattle.vote_explain_ballots.proofs.Words.{take}
use Rattle.vote_explain_ballots.proofs.Scanning.{IsAfter}
use Rattle.vote_explain_ballots.proofs.places.exit_of.Given as goal

abbrev pub invariant-loop-before : goal.invariant-loop-before
invariant-loop-before l = IsAfter (take l.before l.line) l.before l.part
