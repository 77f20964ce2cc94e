-- the defeats that are no stronger: those by options before `a`, and those by `a` over options before `b`
use Rattle.std.proofs.Common.{◌≡◌, ℕ, ◌+◌, ◌<◌, ◌≤◌, ◌⊎◌, ◌↔◌}
use Rattle.vote_count.specs.Sets.{Pairs}
use Rattle.vote_count.specs.Rules.{IsWeaker}
use Rattle.vote_count.proofs.rules.no_stronger_than.Given as goal

abbrev pub invariant-loop-a : goal.invariant-loop-a
invariant-loop-a l = record {
  end : (l.a-end ≡ l.fn.matrix.options + 1) × (1 ≤ l.a);
  found : (x y : ℕ) → Pairs l.found x y ↔ ((Pairs l.defeats x y × ¬ IsWeaker l.matrix l.weakest.0 l.weakest.1 x y) × (x < l.a));
}

abbrev pub invariant-loop-b : goal.invariant-loop-b
invariant-loop-b l = record {
  end : (l.b-end ≡ l.fn.matrix.options + 1) × (1 ≤ l.b);
  found : (x y : ℕ) → Pairs l.found x y ↔ ((Pairs l.defeats x y × ¬ IsWeaker l.matrix l.weakest.0 l.weakest.1 x y) × ((x < l.a) ⊎ ((x ≡ l.a) × (y < l.b))));
}
