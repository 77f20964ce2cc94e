use Rattle.std.proofs.Common.{◌≡◌, ◌+◌, length}
use Rattle.vote_poll_text.specs.Lines.{feed_count}
use Rattle.vote_poll_text.proofs.lines.count_feeds.Given as goal

-- the line feeds counted so far and those of the rest are all line feeds of the text
abbrev pub invariant-loop-rest : goal.invariant-loop-rest
invariant-loop-rest l = l.feeds + feed_count l.rest ≡ feed_count l.fn.text

abbrev pub decreases-loop-rest : goal.decreases-loop-rest
decreases-loop-rest l = length l.rest
