use Rattle.std.proofs.Common.{rules}
use Rattle.vote_files.proofs.standard.WriterSinkSink.put.Goals as goal

pub returns-in-Ok-eq0-clause-faulty : goal.returns-in-Ok-eq0-clause-faulty
returns-in-Ok-eq0-clause-faulty g c = search rules

pub returns-in-Ok-clause-faulty : goal.returns-in-Ok-clause-faulty
returns-in-Ok-clause-faulty g c = search rules
