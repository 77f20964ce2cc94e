-- The search goes up from 0: no number below the present one meets the bound. When it ends, the present one is the least that does.
use Rattle.std.proofs.Common.{◌*◌, ◌≤◌, inl, inr, arith, rules}
use Rattle.std.proofs.Math.Nat.{mul-le-mul}
use Rattle.std.proofs.lemmas.Bool.{cases_lt}
use Rattle.vote_poll.proofs.Squares.{double_square_le, le_double_square, square_is}
use Rattle.vote_poll.proofs.quorum.times_q.Goals as goal

pub loop-votes-init : goal.loop-votes-init
loop-votes-init c =
    let few : c.from-times.result ≤ 10 = search rules in
    record {
      bound = search rules;
      small = omega (arith, mul-le-mul (mul-le-mul few few) c.requires.electors);
      below = λ n none. absurd (omega arith);
      within = omega arith;
    }

pub loop-votes-smaller : goal.loop-votes-smaller
loop-votes-smaller c = omega (arith, le_double_square c.loop-votes.votes)

pub loop-votes-preserved : goal.loop-votes-preserved
loop-votes-preserved c = record {
  bound = c.loop-votes.invariant.bound;
  small = c.loop-votes.invariant.small;
  below = λ n lt. omega (arith, square_is (2 * c.loop-votes.votes), double_square_le n c.loop-votes.votes (omega arith));
  within = omega (arith, le_double_square c.loop-votes.votes);
}

pub returns : goal.returns
returns c = (
  omega (arith, square_is (2 * c.loop-votes.votes)),
  λ n meets. elim (cases_lt n c.loop-votes.votes) [
    | inl fewer ↦ absurd (omega (arith, meets, c.loop-votes.invariant.below n fewer, c.loop-votes.invariant.bound))
    | inr enough ↦ enough
  ],
)
