use Rattle.std.proofs.Common.{◌≡◌, ◌+◌, drop}
use Rattle.vote_sheet.specs.Picture.{removing_round}
use Rattle.vote_sheet.proofs.picture.removing_round.Given as goal

-- no round before this one removes the defeat
abbrev pub invariant-loop-index : goal.invariant-loop-index
invariant-loop-index l = removing_round (l.index + 1) (drop l.index l.rounds) l.a l.b ≡ removing_round 1 l.rounds l.a l.b
