use Rattle.clap.specs.Words.{found_of, rows_of}
use Rattle.vote_command_line.proofs.ArgLemmas.{no_count}
use Rattle.vote_command_line.proofs.command_line.count_request.Goals as goal

pub returns-in_err-desks_given : goal.returns-in_err-desks_given
returns-in_err-desks_given c = rw c.from_residual-in_err-desks_given.ensures (no_count (rows_of (found_of c.args.given.now)) c.in_err-desks_given.ensures.none c.args.purpose)
