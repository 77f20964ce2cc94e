use Rattle.std.proofs.Common.{◌≡◌, true, take}
use Rattle.std.specs.List.{list_all}
use Rattle.vote_poll_text.specs.Names.{is_printable}
use Rattle.vote_poll_text.proofs.names.are_printable.Given as goal

abbrev pub invariant-loop-byte : goal.invariant-loop-byte
invariant-loop-byte l = list_all is_printable (take l.byte-index l.text) ≡ true
