use Rattle.std.proofs.Common.{rules, ◌∙◌, ap, ap₂, sym}
use Rattle.std.proofs.lemmas.List.{take_all}
use Rattle.std.proofs.lemmas.List.Sums.{fold_more}
use Rattle.std.specs.List.{fold}
use Rattle.clap.specs.Words.{App, with_subcommand}
use Rattle.vote_command_line.specs.CommandLine.{bare_command}
use Rattle.vote_command_line.specs.Subcommands.{with_command}
use Rattle.vote_command_line.proofs.command_line.debvote_command.Goals as goal

pub loop-subcommand-preserved : goal.loop-subcommand-preserved
loop-subcommand-preserved c = record {
  app = c.in_ok-program-2.ensures.shape c.in_ok-command.ensures.local
      ∙ ap₂ with_subcommand c.loop-subcommand.invariant.app (ap (λ (app : App). app.top) c.in_ok-command.ensures.app)
      ∙ sym (fold_more with_command bare_command _ _ _ c.loop-subcommand-test.true);
  local = search rules;
}

pub returns-clause-app : goal.returns-clause-app
returns-clause-app c = c.loop-subcommand.invariant.app ∙ ap (fold with_command bare_command) (take_all _ _ c.loop-subcommand-test.false)
