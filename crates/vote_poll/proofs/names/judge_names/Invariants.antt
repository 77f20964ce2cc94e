use Rattle.std.proofs.Common.{◌≡◌, ◌++◌, ℕ, List, map, take}
use Rattle.std.specs.List.{list_any}
use Rattle.std.specs.Str.{bytes_eq}
use Rattle.vote_poll.specs.NameLists.{was_seen}
use Rattle.vote_poll.proofs.FirstBad.{now}
use Rattle.vote_poll.proofs.SeenLaws.{bad_before}
use Rattle.vote_poll.proofs.names.judge_names.Given as goal

abbrev pub invariant-loop-place : goal.invariant-loop-place
invariant-loop-place l =
    ((other : List ℕ) → was_seen l.seen other ≡ list_any (bytes_eq other) (take l.place (map now l.names)))
    × (l.faults.items ≡ l.initial.faults.items ++ bad_before l.list (map now l.names) l.place)
