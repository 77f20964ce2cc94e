use Rattle.std.proofs.Common.{sym, ap, ◌∙◌}
use Rattle.vote_poll.specs.declared.Reading.TheVariants.{Ballot}
use Rattle.vote_steps.specs.PackedReadings.{unpacked}
use Rattle.vote_steps.proofs.packed_reading.PackedReading.reading.Goals as goal

pub returns-in-Ballot : goal.returns-in-Ballot
returns-in-Ballot c = ap (λ voter. Ballot voter c.in-Ballot.ranks) c.from.ensures ∙ sym (ap unpacked c.in-Ballot.is) ∙ c.self.view_is
