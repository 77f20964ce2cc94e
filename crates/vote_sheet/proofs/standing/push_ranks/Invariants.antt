use Rattle.std.proofs.Common.{◌≡◌, ◌++◌, map, string_bytes, take}
use Rattle.std.specs.List.{join_with_byte}
use Rattle.vote_poll.specs.BallotLine.{rank_text}
use Rattle.vote_sheet.proofs.standing.push_ranks.Given as goal

-- the ranks of the options before this one are written
abbrev pub invariant-loop-before : goal.invariant-loop-before
invariant-loop-before l = string_bytes l.text ≡ string_bytes l.fn.text ++ join_with_byte 44 (map rank_text (take l.before l.ranks))
