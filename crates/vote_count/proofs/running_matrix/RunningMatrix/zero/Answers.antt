use Rattle.std.proofs.Common.{◌-◌, replicate, ◌∙◌, arith}
use Rattle.vote_count.specs.declared.running_matrix.RunningMatrix.TheInside.{Inside}
use Rattle.vote_count.proofs.RunningLemmas.{kept-same, same-turns, sum-seen-at}
use Rattle.vote_count.proofs.running_matrix.RunningMatrix.zero.Goals as goal

pub invariant_of-result : goal.invariant_of-result
invariant_of-result c = record {
  few = c.requires;
  pending = omega arith;
  settled = same-turns 0;
  changes = same-turns 128;
  within = λ i j in_i in_j. let change = kept-same 128 i j (omega (arith, in_i, c.requires)) (omega (arith, in_j, c.requires)) in (omega (arith, change), omega (arith, change));
  sums = λ i j in_i in_j.
      let change = kept-same 128 i j (omega (arith, in_i, c.requires)) (omega (arith, in_j, c.requires)) in
      let settled = kept-same 0 i j (omega (arith, in_i, c.requires)) (omega (arith, in_j, c.requires)) in
      (omega (arith, change, settled), omega (arith, change, settled));
}

pub returns-clause-votes : goal.returns-clause-votes
returns-clause-votes c a b of_a of_b =
    let m : Inside = record { options = c.args.options; pending = 0; settled = replicate 64 (replicate 16 0); changes = replicate 64 (replicate 16 128) } in
    let change = kept-same 128 (a - 1) (b - 1) (omega (arith, of_a.1, c.requires)) (omega (arith, of_b.1, c.requires)) in
    let settled = kept-same 0 (a - 1) (b - 1) (omega (arith, of_a.1, c.requires)) (omega (arith, of_b.1, c.requires)) in
    sum-seen-at m a b (of_a.0, omega (arith, of_a.1, c.requires)) (of_b.0, omega (arith, of_b.1, c.requires)) ∙ omega (arith, change, settled)
