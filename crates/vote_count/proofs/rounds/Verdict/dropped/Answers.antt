use Rattle.std.proofs.Common.{sym, ap, ◌∙◌}
use Rattle.std.specs.Prelude.{None}
use Rattle.vote_poll.proofs.OptionLaws.{at_option-in}
use Rattle.vote_count.specs.Rounds.{cause_of}
use Rattle.vote_count.proofs.rounds.Verdict.dropped.Goals as goal

pub returns : goal.returns
returns c = sym (at_option-in c.self.inside.causes c.args.option None c.requires.0) ∙ ap (λ v. cause_of v c.args.option) c.self.view_is
