use Rattle.std.proofs.Common.{◌≡◌, false, take}
use Rattle.std.specs.List.{fold}
use Rattle.clap.specs.Words.{app_of}
use Rattle.clap.specs.declared.builder.command.Command.TheViews.{out-Command as fields_of}
use Rattle.vote_command_line.specs.CommandLine.{bare_command}
use Rattle.vote_command_line.specs.Subcommands.{with_command}
use Rattle.vote_command_line.proofs.command_line.debvote_command.Given as goal

-- the commands before this one are added
abbrev pub invariant-loop-subcommand : goal.invariant-loop-subcommand
invariant-loop-subcommand l = record {
  app : app_of l.program ≡ fold with_command bare_command (take l.subcommand-index l.subcommand-items);
  local : (fields_of l.program).has_globals ≡ false;
}
