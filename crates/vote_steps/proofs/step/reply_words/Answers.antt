use Rattle.std.proofs.Common.{rules}
use Rattle.vote_steps.proofs.step.reply_words.Goals as goal

pub returns-in-Late : goal.returns-in-Late
returns-in-Late c = search rules
