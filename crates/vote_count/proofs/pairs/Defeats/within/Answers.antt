use Rattle.std.proofs.Common.{suc, sym, ap, ◌∙◌, arith}
use Rattle.vote_count.specs.Sets.{has_pair}
use Rattle.vote_count.proofs.Sizes.{pair_next}
use Rattle.vote_count.proofs.pairs.Defeats.within.Goals as goal

pub loop-i-init : goal.loop-i-init
loop-i-init c = record {
  long = c.inside.invariant;
  done = λ k o none. absurd (omega arith);
  rest = λ k o _. sym (pair_next c.inside.inside.rows k o) ∙ ap (λ rows. has_pair rows (suc k) o) c.inside.view_is ∙ c.empty-inside.ensures (suc k) o;
}
