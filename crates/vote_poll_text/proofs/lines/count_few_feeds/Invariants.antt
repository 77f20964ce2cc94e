use Rattle.std.proofs.Common.{◌≡◌, take}
use Rattle.vote_poll_text.specs.Lines.{feed_count}
use Rattle.vote_poll_text.proofs.lines.count_few_feeds.Given as goal

abbrev pub invariant-loop-byte : goal.invariant-loop-byte
invariant-loop-byte l = l.feeds ≡ feed_count (take l.byte-index l.text)
