use Rattle.std.proofs.Common.{rules}
use Rattle.vote_poll_text.proofs.lines.without_last_feed.Goals as goal

pub returns : goal.returns
returns c = search rules
