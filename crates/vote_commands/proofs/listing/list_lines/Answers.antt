use Rattle.std.proofs.Common.{rules}
use Rattle.vote_commands.proofs.listing.list_lines.Goals as goal

pub returns-in-Steps : goal.returns-in-Steps
returns-in-Steps c = rw c.in-Steps.is (search rules)
