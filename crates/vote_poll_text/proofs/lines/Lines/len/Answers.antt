use Rattle.std.proofs.Common.{ap, arith, length, Bor, List, ℕ}
use Rattle.std.proofs.lemmas.List.{length-map}
use Rattle.vote_poll_text.proofs.lines.Lines.len.Goals as goal

pub returns-clause-number : goal.returns-clause-number
returns-clause-number c = omega (arith, length-map c.self.inside.lines.items (λ (line : Bor (List ℕ)). line.now), ap length c.self.view_is)
