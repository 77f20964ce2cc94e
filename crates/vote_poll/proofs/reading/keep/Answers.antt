use Rattle.std.proofs.Common.{◌∙◌, ap, arith, set}
use Rattle.vote_poll.proofs.RankRow.{row-full, row-push}
use Rattle.vote_poll.proofs.reading.keep.Goals as goal

pub returns-then-count-lt-MAX_OPTIONS : goal.returns-then-count-lt-MAX_OPTIONS
returns-then-count-lt-MAX_OPTIONS c keys long row =
    ap (λ r. set r c.args.count c.args.key) row ∙ row-push keys c.args.count c.args.key long (omega (arith, c.if-count-lt-MAX_OPTIONS.true))

pub returns-else-count-lt-MAX_OPTIONS : goal.returns-else-count-lt-MAX_OPTIONS
returns-else-count-lt-MAX_OPTIONS c keys long row = row ∙ row-full keys c.args.key (omega (arith, c.if-count-lt-MAX_OPTIONS.false))
