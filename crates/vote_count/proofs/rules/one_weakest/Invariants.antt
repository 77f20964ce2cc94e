-- the weakest of the defeats by options before `a`, and of those by `a` over options before `b`
use Rattle.std.proofs.Common.{◌≡◌, ◌+◌, ◌<◌, ◌≤◌, ◌⊎◌}
use Rattle.vote_count.specs.Sets.{Pairs}
use Rattle.vote_count.specs.Weakest.{IsOneWeakest}
use Rattle.vote_count.proofs.rules.one_weakest.Given as goal

abbrev pub invariant-loop-a : goal.invariant-loop-a
invariant-loop-a l = record {
  end : (l.a-end ≡ l.fn.matrix.options + 1) × (1 ≤ l.a);
  found : IsOneWeakest l.matrix (λ x y. Pairs l.defeats x y × (x < l.a)) l.weakest;
}

abbrev pub invariant-loop-b : goal.invariant-loop-b
invariant-loop-b l = record {
  end : (l.b-end ≡ l.fn.matrix.options + 1) × (1 ≤ l.b);
  found : IsOneWeakest l.matrix (λ x y. Pairs l.defeats x y × ((x < l.a) ⊎ ((x ≡ l.a) × (y < l.b)))) l.weakest;
}
