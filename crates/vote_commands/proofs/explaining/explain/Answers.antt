use Rattle.std.proofs.Common.{refl, rules}
use Rattle.vote_commands.proofs.Stopping.{stops_at_output}
use Rattle.vote_commands.proofs.explaining.explain.Goals as goal

pub returns-clause-explains : goal.returns-clause-explains
returns-clause-explains g c =
    stops_at_output _ _ c.in-Ok.explained c.as_bytes.result.now _ _ _ c.in-Err-write_run.fault refl c.in-Err-write_run.ensures.only (search rules)
    c.in-Ok.ensures.stops c.in-Ok.ensures.told c.in-Err-write_run.ensures.writes
