use Rattle.std.proofs.Common.{◌≡◌, ℕ, ◌<◌, ◌-◌, length}
use Rattle.std.specs.Prelude.{slice_get, slice_index}
use Rattle.std.specs.List.{All}
use Rattle.vote_poll.specs.PollContent.{elector_count, option_count}
use Rattle.vote_poll.specs.Readings.{ReadingFits, readings}
use Rattle.vote_desks.proofs.batch.read_batch.Given as goal

abbrev pub invariant-loop-place : goal.invariant-loop-place
invariant-loop-place l = record {
  room : length l.readings ≡ length l.initial.readings;
  fit : All (ReadingFits (option_count l.poll) (elector_count l.poll)) l.readings;
  read : (k : ℕ) → k < l.place → slice_get l.readings k ≡ slice_get (readings l.poll l.lines) (slice_index l.stamps k - 1);
}
