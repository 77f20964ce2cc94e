-- The exit status for words that make no request.
use Rattle.std.specs.Prelude.{ℕ}
use Rattle.vote_command_line.specs.declared.ArgsFault.{ArgsFault}
use Rattle.vote_command_line.specs.declared.ArgsFault.TheVariants.{Help, Refused, NotUtf8, Memory}

abbrev pub args_status : ArgsFault → ℕ
args_status (Help text) = 0
args_status (Refused text) = 2
args_status NotUtf8 = 2
args_status Memory = 5
