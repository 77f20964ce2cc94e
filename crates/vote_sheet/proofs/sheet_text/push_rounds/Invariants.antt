use Rattle.std.proofs.Common.{◌≡◌, ◌+◌, ◌++◌, drop, string_bytes}
use Rattle.vote_sheet.specs.Sheet.{rounds_from}
use Rattle.vote_sheet.proofs.sheet_text.push_rounds.Given as goal

-- the text that is written and the rounds that are left make up the whole
abbrev pub invariant-loop-index : goal.invariant-loop-index
invariant-loop-index l =
    string_bytes l.text ++ rounds_from l.options (l.index + 1) (drop l.index l.rounds)
    ≡ string_bytes l.initial.text ++ rounds_from l.options 1 l.rounds
