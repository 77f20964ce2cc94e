use Rattle.std.proofs.Common.{◌≡◌, length}
use Rattle.vote_poll.specs.PollContent.{last_in_time}
use Rattle.vote_poll.specs.Readings.{readings}
use Rattle.vote_steps.specs.Boxes.{box_of}
use Rattle.vote_steps.proofs.CastLemmas.{casts_of}
use Rattle.vote_steps.proofs.casting.cast_all.Given as goal

-- the lines before this line are cast
abbrev pub invariant-loop-place : goal.invariant-loop-place
invariant-loop-place l =
    l.ballot_box ≡ box_of l.poll (length l.lines) (casts_of (last_in_time l.poll) (readings l.poll l.lines) l.place)
