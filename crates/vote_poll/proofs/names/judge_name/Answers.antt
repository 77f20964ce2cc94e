use Rattle.std.proofs.Common.{◌∙◌}
use Rattle.vote_poll.specs.NameLists.{was_seen}
use Rattle.vote_poll.proofs.SeenLaws.{cond_or, same_text, text}
use Rattle.vote_poll.proofs.names.judge_name.Goals as goal

pub returns-in_ok-push-clause-noted : goal.returns-in_ok-push-clause-noted
returns-in_ok-push-clause-noted c = λ other. c.in_ok-is_new.ensures.updates.0 (text other) ∙ cond_or _ _ (was_seen c.args.seen.now other) (same_text c.args.name.now other)
