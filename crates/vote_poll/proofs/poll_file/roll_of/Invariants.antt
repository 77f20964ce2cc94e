use Rattle.std.proofs.Common.{◌≡◌, map, take, string_bytes}
use Rattle.vote_poll.proofs.FirstBad.{now}
use Rattle.vote_poll.proofs.poll_file.roll_of.Given as goal

abbrev pub invariant-loop-name : goal.invariant-loop-name
invariant-loop-name l = map string_bytes l.roll.keys ≡ take l.name-index (map now l.names)
