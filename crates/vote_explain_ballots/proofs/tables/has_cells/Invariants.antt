use Rattle.vote_explain_ballots.proofs.Words.{◌≡◌, ◌+◌, drop, filter, length, nat_le}
use Rattle.vote_explain_ballots.specs.Tables.{has_cells, is_of_cells}
use Rattle.vote_explain_ballots.proofs.tables.has_cells.Given as goal

abbrev pub invariant-loop-place : goal.invariant-loop-place
invariant-loop-place l = nat_le 2 (l.number + length (filter is_of_cells (drop l.place l.lines))) ≡ has_cells l.lines
