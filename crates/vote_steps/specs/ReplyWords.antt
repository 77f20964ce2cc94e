-- The words of a reply.
use Rattle.std.specs.Prelude.{codes}
use Rattle.vote_poll.specs.declared.LineFault.TheVariants.{Shape, RankCount, Roll}
use Rattle.vote_poll_text.specs.Texts.{Text}
use Rattle.vote_steps.specs.declared.step.Reply.{Reply}
use Rattle.vote_steps.specs.declared.step.Reply.TheVariants.{BoxClosed, Late, BadLine, Superseded, Replaced, Counted}

abbrev pub reply_words : Reply → Text
reply_words Counted = codes "counted"
reply_words Replaced = codes "replaced"
reply_words Superseded = codes "superseded"
reply_words (BadLine Shape) = codes "bad shape"
reply_words (BadLine RankCount) = codes "bad rank count"
reply_words (BadLine Roll) = codes "bad not on roll"
reply_words Late = codes "late"
reply_words BoxClosed = codes "closed"
