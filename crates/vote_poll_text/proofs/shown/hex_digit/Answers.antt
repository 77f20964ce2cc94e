use Rattle.std.proofs.Common.{rules}
use Rattle.vote_poll_text.proofs.shown.hex_digit.Goals as goal

pub returns-else-value-lt10-clause-digit : goal.returns-else-value-lt10-clause-digit
returns-else-value-lt10-clause-digit c = search rules
