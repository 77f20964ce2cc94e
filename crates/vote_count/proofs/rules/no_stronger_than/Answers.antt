-- The rows of options before this one, and in this row the columns before this one, have the pairs that are no stronger; the others are not there yet.
use Rattle.std.proofs.Common.{ℕ, ◌+◌, ap, arith}
use Rattle.std.proofs.lemmas.Bool.{both_ways}
use Rattle.vote_count.specs.Sets.{Pairs}
use Rattle.vote_count.specs.Rules.{IsWeaker}
use Rattle.vote_count.proofs.Filled.{pair_left, pair_taken, row_begun, row_done}
use Rattle.vote_count.proofs.rules.no_stronger_than.Goals.{then-is_no_stronger, else-is_no_stronger}
use Rattle.vote_count.proofs.rules.no_stronger_than.Goals as goal

pub loop-b-init : goal.loop-b-init
loop-b-init c =
    let P : ℕ → ℕ → Type 0 = λ x y. Pairs c.args.defeats.now x y × ¬ IsWeaker c.args.matrix.now c.args.weakest.0 c.args.weakest.1 x y in
    record {
      end = (ap (λ n. n + 1) c.options-b-end.ensures.same, omega arith);
      found = row_begun (Pairs c.loop-a.found) P c.loop-a.a (λ x y d. (c.requires.defeats x y d.0).1.0) c.loop-a.invariant.found;
    }

pub loop-b-preserved : goal.loop-b-preserved
loop-b-preserved c =
    let P : ℕ → ℕ → Type 0 = λ x y. Pairs c.args.defeats.now x y × ¬ IsWeaker c.args.matrix.now c.args.weakest.0 c.args.weakest.1 x y in
    record {
      end = (c.loop-b.invariant.end.0, omega arith);
      found = elim c.if-is_no_stronger.branch [
        | then-is_no_stronger w ↦ rw w.found-is (pair_taken (Pairs c.loop-b.found) (Pairs w.insert.new.self) P c.loop-a.a c.loop-b.b c.loop-b.invariant.found w.insert.ensures (c.is_no_stronger.ensures.0 w.if-is_no_stronger.true))
        | else-is_no_stronger w ↦ rw w.found-is (pair_left (Pairs c.loop-b.found) P c.loop-a.a c.loop-b.b c.loop-b.invariant.found (λ d. both_ways _ w.if-is_no_stronger.false (c.is_no_stronger.ensures.1 d)))
      ];
    }

pub loop-a-preserved : goal.loop-a-preserved
loop-a-preserved c =
    let P : ℕ → ℕ → Type 0 = λ x y. Pairs c.args.defeats.now x y × ¬ IsWeaker c.args.matrix.now c.args.weakest.0 c.args.weakest.1 x y in
    record {
      end = (c.loop-a.invariant.end.0, omega arith);
      found =
          row_done (Pairs c.loop-b.found) P c.loop-a.a c.loop-b.b (c.args.matrix.now.options + 1)
          (omega arith) (λ x y d. omega (arith, c.requires.defeats x y d.0)) c.loop-b.invariant.found;
    }
