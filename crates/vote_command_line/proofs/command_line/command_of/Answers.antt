use Rattle.std.proofs.Common.{rules, ◌≡◌, ◌∙◌, ap₂, sym}
use Rattle.std.proofs.lemmas.List.{take_all}
use Rattle.std.proofs.lemmas.List.Sums.{fold_more}
use Rattle.std.specs.List.{fold}
use Rattle.clap.specs.Words.{app_of, new_app, with_rule}
use Rattle.vote_command_line.specs.Subcommands.{name_and_flags, with_flag}
use Rattle.vote_command_line.proofs.command_line.command_of.Goals as goal

pub loop-flag-preserved : goal.loop-flag-preserved
loop-flag-preserved c = record {
  app = c.in_ok-command.ensures.shape c.arg_of.ensures.local ∙ ap₂ with_rule c.loop-flag.invariant.app c.arg_of.ensures.rule
      ∙ sym (fold_more with_flag _ _ _ _ c.loop-flag-test.true);
  local = search rules;
}

pub returns-clause-app : goal.returns-clause-app
returns-clause-app c =
    let start : app_of c.about-command.result ≡ new_app (name_and_flags c.args.subcommand).0 = search rules in
    let flags = take_all _ _ c.loop-flag-test.false ∙ c.flags-flag-items.ensures in
    c.loop-flag.invariant.app ∙ ap₂ (fold with_flag) start flags
