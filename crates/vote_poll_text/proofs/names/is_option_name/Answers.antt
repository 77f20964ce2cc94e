use Rattle.std.proofs.Common.{arith}
use Rattle.std.proofs.lemmas.Bool.Decides.{nat_tests}
use Rattle.vote_poll_text.proofs.names.is_option_name.Goals as goal

pub returns-then-are_printable : goal.returns-then-are_printable
returns-then-are_printable c = grind (arith, nat_tests)
