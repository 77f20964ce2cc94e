use Rattle.vote_explain_ballots.proofs.Words.{◌≡◌, drop, list_any, nat_le}
use Rattle.vote_hints.specs.Near.{edits_between}
use Rattle.vote_explain_ballots.specs.Tables.{is_near_name}
use Rattle.vote_explain_ballots.proofs.tables.is_near_name.Given as goal

abbrev pub invariant-loop-voter : goal.invariant-loop-voter
invariant-loop-voter l = list_any (λ name. nat_le (edits_between l.word name) l.edits) (drop l.voter l.poll.roll) ≡ is_near_name l.poll.roll l.word
