-- The votes of the ballots that stand, counted by the roll and counted by their ranks.
use Rattle.std.proofs.Common.{◌≡◌, ℕ, Bool, List, [], ◌∷◌, Option, Some, None, refl, ap, arith}
use Rattle.std.specs.Prelude.{map, option_and_then}
use Rattle.std.specs.List.{count_by, range_with_len}
use Rattle.vote_count.proofs.Counts.{count-cons, one}
use Rattle.vote_count.specs.Ballots.{entry_prefers}
use Rattle.vote_steps.specs.declared.step.Received.{Received}
use Rattle.vote_steps.specs.History.{is_for, standing, standing_ranks}
use Rattle.vote_steps.specs.Laws.{VotesAreRecounted}

pub same_entry : (a b : ℕ) (o : Option Received) → is_for a b o ≡ entry_prefers a b (option_and_then (λ ballot. Some ballot.ranks) o)
same_entry a b None = refl
same_entry a b (Some ballot) = refl

pub count_by-map_same : {X Y Z : Type 0} (f : X → Y) (g : X → Z) (p : Y → Bool) (q : Z → Bool) → ((x : X) → p (f x) ≡ q (g x)) → (xs : List X) → count_by p (map f xs) ≡ count_by q (map g xs)
count_by-map_same f g p q same [] = refl
count_by-map_same f g p q same (x ∷ xs) = omega (arith, count-cons p (f x) (map f xs), count-cons q (g x) (map g xs), ap one (same x), count_by-map_same f g p q same xs)

pub votes_are_recounted_lem : VotesAreRecounted
votes_are_recounted_lem last steps electors a b =
    count_by-map_same (standing last steps) (standing_ranks last steps) (is_for a b) (entry_prefers a b) (λ v. same_entry a b (standing last steps v)) (range_with_len 0 electors)
