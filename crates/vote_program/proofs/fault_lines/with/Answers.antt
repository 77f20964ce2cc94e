use Rattle.std.proofs.Common.{arith, rules, ◌≡◌, ℕ, List, length, refl}
use Rattle.std.proofs.lemmas.Bool.{le-leb}
use Rattle.std.specs.Fmt.Cut.{cut_to}
use Rattle.vote_program.proofs.fault_lines.with.Goals as goal

-- a text that has room is not cut
not_cut : (text : List ℕ) → cut_to (length text) text ≡ text
unfolding cut_to
not_cut text = rw (le-leb (length text) (length text) (omega arith)) refl

pub returns : goal.returns
returns c = search (rules, not_cut)
