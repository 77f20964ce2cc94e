-- The command line, as `clap` reads it.
use Rattle.std.specs.Prelude.{true, List, [], ◌∷◌, Some, codes, pos}
use Rattle.std.specs.List.{fold}
use Rattle.clap.specs.Words.{App, Rule, Text, new_app, new_rule, with_rule, with_subcommand}
use Rattle.clap.specs.declared.builder.ArgAction.TheVariants.{Set}
use Rattle.clap.specs.declared.builder.ValueParser.TheVariants as parser
use Rattle.vote_request.specs.declared.TheConstants.{MAX_DESKS}

-- a flag with one value
abbrev pub flag : Text → Rule
flag name = record (new_rule name) { long = Some name; action = Some Set; value_names = 1 }

abbrev pub required_flag : Text → Rule
required_flag name = record (flag name) { required = true }

-- a whole number from 1 to MAX_DESKS; 1 if none is given
abbrev pub desks_flag : Rule
desks_flag = record (flag (codes "desks")) {
  defaults = codes "1" ∷ [];
  parser = Some (parser.Signed (pos 1) (pos MAX_DESKS));
}

-- a command: its name, and its flags
abbrev pub command : Text → List Rule → App
command name flags = fold with_rule (new_app name) flags

-- the commands, in the order in which help lists them
abbrev pub commands : List App
commands =
    command (codes "count") (required_flag (codes "poll") ∷ required_flag (codes "ballots") ∷ desks_flag ∷ flag (codes "casting") ∷ [])
    ∷ command (codes "steps") (required_flag (codes "poll") ∷ required_flag (codes "ballots") ∷ [])
    ∷ command (codes "check") (required_flag (codes "poll") ∷ [])
    ∷ command (codes "explain") (required_flag (codes "poll") ∷ flag (codes "ballots") ∷ [])
    ∷ command (codes "standing") (required_flag (codes "poll") ∷ required_flag (codes "ballots") ∷ [])
    ∷ command (codes "verify") (required_flag (codes "poll") ∷ required_flag (codes "ballots") ∷ required_flag (codes "sheet") ∷ desks_flag ∷ [])
    ∷ command (codes "picture") (required_flag (codes "poll") ∷ required_flag (codes "ballots") ∷ desks_flag ∷ flag (codes "casting") ∷ [])
    ∷ []

-- the words come without the program's name
abbrev pub bare_command : App
bare_command =
    let new = new_app (codes "debvote") in
    record new { top = record new.top { no_binary_name = true; subcommand_required = true; has_version = true } }

abbrev pub debvote_command : App
debvote_command = fold (λ program command. with_subcommand program command.top) bare_command commands
