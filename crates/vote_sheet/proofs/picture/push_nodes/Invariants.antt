use Rattle.std.proofs.Common.{◌≡◌, ◌++◌, string_bytes}
use Rattle.vote_sheet.specs.Picture.{node_of}
use Rattle.vote_sheet.specs.Sheet.{each}
use Rattle.vote_sheet.proofs.picture.push_nodes.Given as goal

-- the lines of the options before this one are written
abbrev pub invariant-loop-before : goal.invariant-loop-before
invariant-loop-before l = string_bytes l.text ≡ string_bytes l.initial.text ++ each l.before (node_of l.poll.options l.verdict l.decision)
