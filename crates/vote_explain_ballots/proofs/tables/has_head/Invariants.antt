use Rattle.vote_explain_ballots.proofs.Words.{◌≡◌, ◌&&◌, ◌||◌, drop, false, list_any, is_of_ranks}
use Rattle.vote_explain_ballots.specs.Tables.{has_head}
use Rattle.vote_explain_ballots.proofs.tables.has_head.Given as goal

abbrev pub invariant-loop-place : goal.invariant-loop-place
invariant-loop-place l =
    let left = drop l.place l.file.lines.now in
    ((l.has_one && list_any is_of_ranks left) || has_head l.file.poll.now l.is_below left) ≡ has_head l.file.poll.now false l.file.lines.now
