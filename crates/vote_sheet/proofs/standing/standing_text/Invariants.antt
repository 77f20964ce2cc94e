use Rattle.std.proofs.Common.{◌≡◌, ◌++◌, drop, string_bytes}
use Rattle.vote_poll_text.specs.Lines.{text_of_lines}
use Rattle.vote_steps.specs.LastBallots.{last_valid_ballots}
use Rattle.vote_sheet.specs.Standing.{ballot_lines, standing_text}
use Rattle.vote_sheet.proofs.standing.standing_text.Given as goal

-- the text that is written and the lines of the voters that are left make up the whole
abbrev pub invariant-loop-voter : goal.invariant-loop-voter
invariant-loop-voter l =
    string_bytes l.text ++ text_of_lines (ballot_lines (drop l.voter l.poll.roll) (drop l.voter (last_valid_ballots l.poll l.lines))) ≡ standing_text l.poll l.lines
