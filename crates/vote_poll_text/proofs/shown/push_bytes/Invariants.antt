use Rattle.std.proofs.Common.{◌≡◌, ◌++◌, drop, string_bytes}
use Rattle.std.specs.List.{flat_map}
use Rattle.vote_poll_text.specs.Shown.{shown_byte}
use Rattle.vote_poll_text.proofs.shown.push_bytes.Given as goal

-- the text so far and the shown form of the bytes that are left make up the whole
abbrev pub invariant-loop-byte : goal.invariant-loop-byte
invariant-loop-byte l = string_bytes l.text ++ flat_map shown_byte (drop l.byte-index l.bytes) ≡ string_bytes l.fn.text ++ flat_map shown_byte l.bytes
