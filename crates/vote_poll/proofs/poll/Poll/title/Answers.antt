use Rattle.std.proofs.Common.{ap, ◌∙◌}
use Rattle.vote_poll.specs.PollContent.{PollContent}
use Rattle.vote_poll.proofs.poll.Poll.title.Goals as goal

pub returns : goal.returns
returns c = c.as_str.ensures.value ∙ ap (λ (poll : PollContent). poll.title) c.self.view_is
