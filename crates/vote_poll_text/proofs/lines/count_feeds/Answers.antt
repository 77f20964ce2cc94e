use Rattle.std.proofs.Common.{ap, arith}
use Rattle.vote_poll_text.specs.Lines.{feed_count}
use Rattle.vote_poll_text.proofs.LinesLaws.{feeds_parted}
use Rattle.vote_poll_text.proofs.lines.count_feeds.Goals as goal

pub count_few_feeds-requires : goal.count_few_feeds-requires
count_few_feeds-requires c = omega (arith, c.split_at.ensures.front_len)

pub loop-rest-preserved : goal.loop-rest-preserved
loop-rest-preserved c =
    omega (arith, feeds_parted 224 c.loop-rest.rest.now, ap feed_count c.split_at.ensures.front, ap feed_count c.split_at.ensures.back, c.loop-rest.invariant, c.count_few_feeds.ensures)
