-- Examples of which of two defeats is weaker.
use Rattle.std.proofs.Common.{◌≡◌, ℕ, ◌+◌, ◌<◌, ◌⊎◌, inl, inr, refl, sym, ◌∙◌, arith}
use Rattle.vote_count.specs.Laws.{WeakerDefeatsAsInTheExamples}
use Rattle.vote_count.specs.Rules.{IsWeaker}
use Rattle.vote_count.specs.Votes.{Votes, votes}

-- a defeat is not weaker if it has more votes for it, or if it has as many for it and no more against it
no_weaker : (m : Votes) (a x b y : ℕ) → (votes m b y < votes m a x) ⊎ ((votes m b y ≡ votes m a x) × (votes m x a < votes m y b + 1)) → ¬ IsWeaker m a x b y
no_weaker m a x b y stronger weaker =
    elim stronger [
      | inl more ↦ elim weaker [ inl less ↦ absurd (omega (arith, more, less)) | inr (same, _) ↦ absurd (omega (arith, more, same)) ]
      | inr (as_many, against) ↦ elim weaker [ inl less ↦ absurd (omega (arith, as_many, less)) | inr (_, more) ↦ absurd (omega (arith, against, more)) ]
    ]

pub weaker_in_examples : WeakerDefeatsAsInTheExamples
weaker_in_examples m are = record {
  third_and_first = (
    inl (omega (arith, are.third.0, are.first.0)),
    no_weaker m 1 2 5 6 (inl (omega (arith, are.third.0, are.first.0))),
  );
  first_and_second = (
    inr (are.first.0 ∙ sym are.second.0, omega (arith, are.first.1, are.second.1)),
    no_weaker m 3 4 1 2 (inr (are.first.0 ∙ sym are.second.0, omega (arith, are.first.1, are.second.1))),
  );
  itself = no_weaker m 1 2 1 2 (inr (refl, omega arith));
}
