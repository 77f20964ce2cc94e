-- A box with no steps: its list of ballots is `None` copied, so no voter has a ballot and all counts are 0.
use Rattle.std.proofs.Common.{◌≡◌, ℕ, ◌*◌, Bool, false, cond, List, Option, Some, None, get_or, refl, ap, ◌∙◌, sym, subst, replicate, arith}
use Rattle.std.specs.Prelude.{is_some}
use Rattle.std.specs.List.{count_by}
use Rattle.std.proofs.lemmas.List.Folds.{sum_by-replicate}
use Rattle.vote_poll.specs.Options.{IsOption}
use Rattle.vote_poll.proofs.OptionLaws.{get_or-replicate_same}
use Rattle.vote_steps.specs.declared.step.Received.{Received}
use Rattle.vote_steps.specs.History.{is_for}
use Rattle.vote_steps.proofs.KeepingLemmas.{keeps_new}
use Rattle.vote_steps.proofs.ballot_box.BallotBox.new.Goals as goal

none_some : {x : Received} → None ≡ Some x → ⊥
none_some is = cc

-- a clone of None is None, so all entries are None
only_none : (is_clone : Option Received → Type 0) → ((x : Received) → ¬ is_clone (Some x)) → (y : Option Received) → is_clone y → y ≡ None
only_none is_clone never None is = refl
only_none is_clone never (Some x) is = absurd (never x is)

all_none : (items wanted : List (Option Received)) (is_clone : Option Received → Type 0) → (((y : Option Received) → is_clone y → y ≡ None) → items ≡ wanted) → ((x : Received) → ¬ is_clone (Some x)) → items ≡ wanted
all_none items wanted is_clone each never = each (only_none is_clone never)

pub invariant_of-result-2 : goal.invariant_of-result-2
invariant_of-result-2 c =
    keeps_new _ c.in_ok-steps.ensures.items c.in_ok-steps.ensures.capacity refl refl refl
    (c.in_ok-used.ensures.items_if_clones_equal (λ y e. e)) (all_none _ _ _ c.in_ok-ballots.ensures.items_if_clones_equal (λ x is. is) ∙ ap (λ n. replicate n None) (sym c.in_ok-ballots.ensures.len)) c.in_ok-used.ensures.len c.requires.limit c.requires.last_in_time

none_counted : (p : Option Received → Bool) (ballots : List (Option Received)) (n : ℕ) → ballots ≡ replicate n None → p None ≡ false → count_by p ballots ≡ 0
none_counted p ballots n is none = ap (count_by p) is ∙ sum_by-replicate (λ o. cond (p o) 1 0) n None ∙ ap (λ (b : Bool). n * cond b 1 0) none ∙ omega arith

none_stands : (ballots : List (Option Received)) (n k : ℕ) → ballots ≡ replicate n None → get_or ballots k None ≡ None
none_stands ballots n k is = ap (λ (bs : List (Option Received)). get_or bs k None) is ∙ get_or-replicate_same n k None

-- no voter has a ballot
pub invariant_of-result : goal.invariant_of-result
invariant_of-result c =
    let ballots = c.in_ok-ballots.ballots in
    let n = c.args.electors in
    let is : ballots.items ≡ replicate n None = all_none _ _ _ c.in_ok-ballots.ensures.items_if_clones_equal (λ x is. is) in
    record {
      few = omega (arith, c.in_ok-ballots.ensures.len, c.requires.electors.1);
      fit = λ k x stands. absurd (none_some (sym (none_stands ballots.items n k is) ∙ stands));
      counted = sym (none_counted is_some ballots.items n is refl);
      recounted = λ a b of_a of_b.
          let Of : ℕ → ℕ → Type 0 = λ o options. IsOption options o in
          c.zero.ensures.votes a b (subst (Of a) c.zero.ensures.options of_a) (subst (Of b) c.zero.ensures.options of_b) ∙ sym (none_counted (is_for a b) ballots.items n is refl);
    }
