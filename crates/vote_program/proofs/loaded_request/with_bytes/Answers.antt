use Rattle.vote_program.proofs.OnFiles.{desks_stay}
use Rattle.vote_program.proofs.loaded_request.with_bytes.Goals as goal

pub returns-clause-desks : goal.returns-clause-desks
returns-clause-desks c = rw c.on.ensures (desks_stay c.args.request.now _ _ _ c.requires)
