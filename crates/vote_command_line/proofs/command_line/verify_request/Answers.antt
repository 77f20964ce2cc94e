use Rattle.clap.specs.Words.{found_of, rows_of}
use Rattle.vote_command_line.proofs.ArgLemmas.{no_verify}
use Rattle.vote_command_line.proofs.command_line.verify_request.Goals as goal

pub returns-in_err-desks_given : goal.returns-in_err-desks_given
returns-in_err-desks_given c = rw c.from_residual-in_err-desks_given.ensures (no_verify (rows_of (found_of c.args.given.now)) c.in_err-desks_given.ensures.none)
