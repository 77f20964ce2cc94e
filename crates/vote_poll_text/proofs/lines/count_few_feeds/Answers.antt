use Rattle.std.proofs.Common.{arith}
use Rattle.std.proofs.lemmas.Grind.{common_steps, elements, moves, pieces}
use Rattle.vote_poll_text.proofs.lines.count_few_feeds.Goals as goal

pub overflow_add-feeds : goal.overflow_add-feeds
overflow_add-feeds c = grind (arith, common_steps, elements, moves, pieces)
