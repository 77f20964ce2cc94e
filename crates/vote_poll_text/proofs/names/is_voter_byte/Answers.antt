use Rattle.std.proofs.Common.{arith}
use Rattle.std.proofs.lemmas.Bool.Decides.{nat_tests}
use Rattle.vote_poll_text.proofs.names.is_voter_byte.Goals as goal

pub returns-in-97-to-122 : goal.returns-in-97-to-122
returns-in-97-to-122 c = grind (arith, nat_tests)

pub returns-in_default : goal.returns-in_default
returns-in_default c = grind (arith, nat_tests)
