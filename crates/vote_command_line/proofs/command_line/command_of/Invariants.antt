use Rattle.std.proofs.Common.{◌≡◌, false, take}
use Rattle.std.specs.List.{fold}
use Rattle.clap.specs.Words.{app_of}
use Rattle.clap.specs.declared.builder.command.Command.TheViews.{out-Command as fields_of}
use Rattle.vote_command_line.specs.Subcommands.{with_flag}
use Rattle.vote_command_line.proofs.command_line.command_of.Given as goal

-- the flags before this one are added
abbrev pub invariant-loop-flag : goal.invariant-loop-flag
invariant-loop-flag l = record {
  app : app_of l.command ≡ fold with_flag (app_of l.initial.command) (take l.flag-index l.flag-items);
  local : (fields_of l.command).has_globals ≡ false;
}
