-- The rows of options before this one, and in this row the columns before this one, have exactly the pairwise defeats; the others are not there yet.
use Rattle.std.proofs.Common.{ℕ, ◌+◌, ap, arith}
use Rattle.std.proofs.lemmas.Bool.{both_ways}
use Rattle.vote_count.specs.Sets.{In, Pairs}
use Rattle.vote_count.specs.Rules.{PairwiseDefeats}
use Rattle.vote_count.proofs.Filled.{pair_left, pair_taken, row_begun, row_done}
use Rattle.vote_count.proofs.pairs.Defeats.of.Goals.{then-is_defeat, else-is_defeat}
use Rattle.vote_count.proofs.pairs.Defeats.of.Goals as goal

pub loop-b-init : goal.loop-b-init
loop-b-init c = record {
  end = (ap (λ n. n + 1) c.options-b-end.ensures.same, omega arith);
  found = row_begun (Pairs c.loop-a.defeats) (PairwiseDefeats (In c.args.set.now) c.args.matrix.now) c.loop-a.a (λ x y d. (c.requires y d.1).0) c.loop-a.invariant.found;
}

pub loop-b-preserved : goal.loop-b-preserved
loop-b-preserved c =
    let P : ℕ → ℕ → Type 0 = PairwiseDefeats (In c.args.set.now) c.args.matrix.now in
    record {
      end = (c.loop-b.invariant.end.0, omega arith);
      found = elim c.if-is_defeat.branch [
        | then-is_defeat w ↦ rw w.defeats-is (pair_taken (Pairs c.loop-b.defeats) (Pairs w.insert.new.self) P c.loop-a.a c.loop-b.b c.loop-b.invariant.found w.insert.ensures (c.is_defeat.ensures.0 w.if-is_defeat.true))
        | else-is_defeat w ↦ rw w.defeats-is (pair_left (Pairs c.loop-b.defeats) P c.loop-a.a c.loop-b.b c.loop-b.invariant.found (λ d. both_ways _ w.if-is_defeat.false (c.is_defeat.ensures.1 d)))
      ];
    }

pub loop-a-preserved : goal.loop-a-preserved
loop-a-preserved c = record {
  end = (c.loop-a.invariant.end.0, omega arith);
  found =
      row_done (Pairs c.loop-b.defeats) (PairwiseDefeats (In c.args.set.now) c.args.matrix.now) c.loop-a.a c.loop-b.b (c.args.matrix.now.options + 1)
      (omega arith) (λ x y d. omega (arith, c.requires y d.1)) c.loop-b.invariant.found;
}
