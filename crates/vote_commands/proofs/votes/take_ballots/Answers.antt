use Rattle.std.proofs.Common.{rules}
use Rattle.vote_commands.proofs.Taking.{ballots_taken}
use Rattle.vote_commands.proofs.votes.take_ballots.Goals as goal

pub returns-clause-taken : goal.returns-clause-taken
returns-clause-taken g c =
    ballots_taken _ _ _ _ _ _ c.inputs.view_is c.in-Ok.ensures.lines (search rules) (c.requires.take.promises _ _ _ _ c.take.ensures) c.in-Ok-take.is
