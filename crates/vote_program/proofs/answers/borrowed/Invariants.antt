use Rattle.std.proofs.Common.{◌≡◌, map, string_bytes, take}
use Rattle.vote_command_line.specs.Words.{texts_of}
use Rattle.vote_program.proofs.answers.borrowed.Given as goal

-- the words before this one are borrowed
abbrev pub invariant-loop-word : goal.invariant-loop-word
invariant-loop-word l = texts_of l.all.items ≡ map string_bytes (take l.word-index l.words)
