use Rattle.vote_count.proofs.options.OptionSet.intersection.Goals as goal
use Rattle.vote_count.proofs.BitLemmas.{has-bit_and}
use lib.Bits.{and_lt}
use Rattle.vote_poll.specs.declared.TheConstants.{MAX_OPTIONS}

pub returns : goal.returns
returns c o =
    let a = c.self.inside.bits in
    let b = c.other.inside.bits in
    rw (← c.self.view_is, ← c.other.view_is) (has-bit_and a b c.self.invariant c.other.invariant (and_lt MAX_OPTIONS a b c.self.invariant c.other.invariant) o)
