use Rattle.std.proofs.Common.{◌≡◌, ◌++◌, string_bytes}
use Rattle.std.specs.Str.{encode_utf8_all}
use Rattle.vote_sheet.specs.Picture.{quoted}
use Rattle.vote_sheet.proofs.picture.push_quoted.Given as goal

-- the characters before this one are written
abbrev pub invariant-loop-character : goal.invariant-loop-character
invariant-loop-character l = string_bytes l.text ≡ string_bytes l.initial.text ++ quoted (encode_utf8_all l.yielded)
