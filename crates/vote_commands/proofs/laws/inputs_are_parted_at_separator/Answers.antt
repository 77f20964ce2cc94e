use Rattle.vote_commands.proofs.JoinedLaws.{inputs_are_parted}
use Rattle.vote_commands.proofs.laws.inputs_are_parted_at_separator.Goals as goal

pub returns : goal.returns
returns c = inputs_are_parted
