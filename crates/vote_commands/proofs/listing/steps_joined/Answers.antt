use Rattle.std.proofs.Common.{sym}
use Rattle.vote_commands.proofs.listing.steps_joined.Goals as goal

pub returns-clause-lists : goal.returns-clause-lists
returns-clause-lists g c = rw (sym c.split_joined.ensures.same) c.print_steps.ensures.lists
