use Rattle.std.proofs.Common.{◌≡◌, ◌++◌, append_assoc, codes, decimal, ◌+◌, rules, string_bytes}
use Rattle.std.specs.Prelude.{slice_get}
use Rattle.vote_poll_text.specs.Lines.{lines_of}
use Rattle.vote_sheet.specs.Sheet.{Text}
use Rattle.vote_sheet.specs.Verify.{common_lines, difference_text, shown_line}
use Rattle.vote_sheet.proofs.verify.push_difference.Goals as goal

-- the five pieces that are written
pieces : (old text sheet : Text)
    → let before = common_lines text sheet in
    ((((old ++ (codes "differs at line " ++ (decimal (before + 1) ++ codes "\nsheet: "))) ++ shown_line (slice_get (lines_of text) before)) ++ codes "\ncount: ")
    ++ shown_line (slice_get (lines_of sheet) before)) ++ codes "\n" ≡ old ++ difference_text text sheet
unfolding difference_text
pieces old text sheet = simp append_assoc

pub returns : goal.returns
returns c =
    rw (← pieces (string_bytes c.args.words.now) c.args.text.now c.args.sheet.now, ← c.common_lines-before.ensures, ← c.in_ok-write.ensures.bytes, ← c.in_ok-push_shown_line.ensures, ← c.in_ok-push_str.ensures.bytes, ← c.in_ok-push_shown_line-2.ensures) (search rules)
