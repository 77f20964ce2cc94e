use Rattle.std.proofs.Common.{◌≡◌, false, take, string_bytes}
use Rattle.std.specs.List.{list_any}
use Rattle.std.specs.Str.{bytes_eq}
use Rattle.vote_poll.proofs.names.place_of.Given as goal

abbrev pub invariant-loop-place : goal.invariant-loop-place
invariant-loop-place l = list_any (λ option. bytes_eq l.name (string_bytes option)) (take l.place l.options) ≡ false
