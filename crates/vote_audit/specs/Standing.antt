-- What an audited box says about the voters: the same as the lines, in whatever order they were cast.
use Rattle.std.specs.Prelude.{◌≡◌, ℕ, List, take}
use Rattle.vote_poll.specs.PollContent.{PollContent}
use Rattle.vote_poll.specs.Readings.{readings}
use Rattle.vote_desks_box.specs.declared.Slip.{Slip}
use Rattle.vote_steps.specs.History.{standing_ranks}
use Rattle.vote_steps.specs.Boxes.{BoxState}
use Rattle.vote_steps.specs.Recasts.{last_ballot}
use Rattle.vote_steps.specs.Standing.{CountsLines}
use Rattle.vote_audit.specs.Audit.{IsAudited}

-- each voter's ballot that stands has the ranks of the voter's last line that reads as a ballot and is not late
abbrev pub LastLinesStand : Type 0
LastLinesStand =
    (poll : PollContent) (lines : List (List ℕ)) (b : BoxState) (slips_by_desk : List (List Slip)) (voter : ℕ) → IsAudited poll lines b slips_by_desk
    → standing_ranks b.last_in_time b.steps voter ≡ last_ballot (take b.last_in_time (readings poll lines)) voter

-- the totals and the votes of the box are those of the lines
abbrev pub LinesAreCounted : Type 0
LinesAreCounted =
    (poll : PollContent) (lines : List (List ℕ)) (b : BoxState) (slips_by_desk : List (List Slip)) → IsAudited poll lines b slips_by_desk → CountsLines (readings poll lines) b
