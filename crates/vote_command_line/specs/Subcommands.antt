-- The flags and the commands, by their names in the program.
use Rattle.std.specs.Prelude.{List, [], ◌∷◌, codes}
use Rattle.std.specs.List.{fold}
use Rattle.clap.specs.Words.{App, Rule, Text, new_app, with_rule, with_subcommand}
use Rattle.vote_command_line.specs.CommandLine.{desks_flag, flag, required_flag}
use Rattle.vote_command_line.specs.declared.command_line.Flag.{Flag}
use Rattle.vote_command_line.specs.declared.command_line.Flag.TheVariants.{Poll, Ballots, BallotsIfGiven, Sheet, Desks, Casting}
use Rattle.vote_command_line.specs.declared.command_line.Subcommand.{Subcommand}
use Rattle.vote_command_line.specs.declared.command_line.Subcommand.TheVariants.{Count, Steps, Check, Explain, Standing, Verify, Picture}

abbrev pub flag_rule : Flag → Rule
flag_rule Poll = required_flag (codes "poll")
flag_rule Ballots = required_flag (codes "ballots")
flag_rule BallotsIfGiven = flag (codes "ballots")
flag_rule Sheet = required_flag (codes "sheet")
flag_rule Desks = desks_flag
flag_rule Casting = flag (codes "casting")

-- the command with one more flag
abbrev pub with_flag : App → Flag → App
with_flag app flag = with_rule app (flag_rule flag)

-- the name of the command, and its flags
abbrev pub name_and_flags : Subcommand → Text × List Flag
name_and_flags Count = (codes "count", Poll ∷ Ballots ∷ Desks ∷ Casting ∷ [])
name_and_flags Steps = (codes "steps", Poll ∷ Ballots ∷ [])
name_and_flags Check = (codes "check", Poll ∷ [])
name_and_flags Explain = (codes "explain", Poll ∷ BallotsIfGiven ∷ [])
name_and_flags Standing = (codes "standing", Poll ∷ Ballots ∷ [])
name_and_flags Verify = (codes "verify", Poll ∷ Ballots ∷ Sheet ∷ Desks ∷ [])
name_and_flags Picture = (codes "picture", Poll ∷ Ballots ∷ Desks ∷ Casting ∷ [])

abbrev pub subcommand_app : Subcommand → App
subcommand_app subcommand = fold with_flag (new_app (name_and_flags subcommand).0) (name_and_flags subcommand).1

-- the program with one more command
abbrev pub with_command : App → Subcommand → App
with_command app subcommand = with_subcommand app (subcommand_app subcommand).top
