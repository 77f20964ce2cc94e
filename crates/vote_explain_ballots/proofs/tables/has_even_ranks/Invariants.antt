use Rattle.vote_explain_ballots.proofs.Words.{◌≡◌, ◌+◌, ◌&&◌, drop, filter, length, list_all, nat_le, is_even, is_of_ranks}
use Rattle.vote_explain_ballots.specs.Tables.{has_even_ranks}
use Rattle.vote_explain_ballots.proofs.tables.has_even_ranks.Given as goal

abbrev pub invariant-loop-place : goal.invariant-loop-place
invariant-loop-place l =
    let left = filter is_of_ranks (drop l.place l.lines) in
    (nat_le 2 (l.number + length left) && list_all is_even left) ≡ has_even_ranks l.lines
