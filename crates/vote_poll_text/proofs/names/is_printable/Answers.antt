use Rattle.std.proofs.Common.{rules}
use Rattle.vote_poll_text.proofs.names.is_printable.Goals as goal

pub returns-then-byte-ge32 : goal.returns-then-byte-ge32
returns-then-byte-ge32 c = search rules
