-- Tests of the rules: they compare numbers, so it is known whether each holds.
use Rattle.std.proofs.Common.{◌≡◌, ◌≢◌, ℕ, zero, suc, ◌*◌, ◌^◌, ◌≤◌, ◌⊎◌, Bool, true, not, ◌&&◌, ◌||◌, inl, inr, refl, sym, ap, subst, arith}
use Rattle.std.specs.Prelude.{◌==◌}
use Rattle.std.specs.Bool.{Decides}
use Rattle.std.proofs.Math.Dec.{leb}
use Rattle.std.proofs.lemmas.Bool.{cases_Bool, cases_eq, le-leb, leb-true}
use Rattle.std.proofs.lemmas.Bool.Decides.{Decides-and, Decides-eqb, Decides-like, Decides-not, Decides-or, not_from_Decides}
use Rattle.vote_poll.specs.declared.wording.Wording.{Wording}
use Rattle.vote_poll.specs.declared.wording.Wording.TheVariants.{AtLeast, MoreThan}
use Rattle.vote_poll.specs.Options.{IsOption}
use Rattle.vote_poll.specs.PollContent.{PollContent, elector_count, option_count, ratio_of}
use Rattle.vote_count.specs.Rules.{IsKept, IsMajority, IsWeaker, MeetsMajority, MeetsQuorum, PairwiseDefeats}
use Rattle.vote_count.specs.Votes.{Votes, votes}
use Rattle.vote_count.proofs.Schulze.{kept_option, other_kept}

-- a test of whether a fact holds
abbrev pub Test : Type 0 → Type 0
Test P = (t : Bool) × Decides t P

pub marked : (b : Bool) → Test (b ≡ true)
marked b = (b, (λ h. h, λ h. h))

pub equal : (a b : ℕ) → Test (a ≡ b)
equal a b = (a == b, Decides-eqb a b)

pub at_most : (a b : ℕ) → Test (a ≤ b)
at_most a b = (leb a b, (leb-true a b, le-leb a b))

pub negated : {P : Type 0} → Test P → Test (¬ P)
negated p = (not p.0, Decides-not p.0 p.1)

-- the same test, for a fact that holds at the same time
pub like : {P Q : Type 0} → Test P → (P → Q) → (Q → P) → Test Q
like p to back = (p.0, Decides-like p.0 to back p.1)

pub both : {P Q : Type 0} → Test P → Test Q → Test (P × Q)
both p q = (p.0 && q.0, Decides-and p.0 q.0 p.1 q.1)

pub either : {P Q : Type 0} → Test P → Test Q → Test (P ⊎ Q)
either p q = (p.0 || q.0, Decides-or p.0 q.0 p.1 q.1)

pub all_three : {P Q R : Type 0} → Test P → Test Q → Test R → Test (P × Q × R)
all_three p q r = like (both p (both q r)) (λ h. (h.0, h.1.0, h.1.1)) (λ h. (h.0, (h.1, h.2)))

all_four : {P Q R S : Type 0} → Test P → Test Q → Test R → Test S → Test (P × Q × R × S)
all_four p q r s = like (both p (all_three q r s)) (λ h. (h.0, h.1.0, h.1.1, h.1.2)) (λ h. (h.0, (h.1, h.2, h.3)))

pub known : {P : Type 0} → Test P → P ⊎ ¬ P
known p = elim (cases_Bool p.0) [ inl passes ↦ inl (p.1.0 passes) | inr fails ↦ inr (not_from_Decides p.0 p.1 fails) ]

pub implied : {P Q : Type 0} → Test P → Test Q → Test (P → Q)
implied p q =
    like (either (negated p) q) (λ h is. elim h [ inl never ↦ absurd (never is) | inr so ↦ so ])
    (λ f. elim (known p) [ inl is ↦ inr (f is) | inr never ↦ inl never ])

-- a test of a fact about each of the options 1 to n
pub of_each : (n : ℕ) (P : ℕ → Type 0) → ((o : ℕ) → Test (P o)) → Test ((o : ℕ) → IsOption n o → P o)
of_each zero P t = (true, (λ _ o is. absurd (omega (arith, is.0, is.1)), λ _. refl))
of_each (suc n) P t =
    like (both (t (suc n)) (of_each n P t))
    (λ h o is. elim (cases_eq o (suc n)) [ inl last ↦ subst P (sym last) h.0 | inr other ↦ h.1 o (is.0, omega (arith, is.1, other)) ])
    (λ h. (h (suc n) (omega arith, omega arith), λ o is. h o (is.0, omega (arith, is.1))))

pub weaker : (m : Votes) (a x b y : ℕ) → Test (IsWeaker m a x b y)
weaker m a x b y = either (at_most (suc (votes m a x)) (votes m b y)) (both (equal (votes m a x) (votes m b y)) (at_most (suc (votes m y b)) (votes m x a)))

pub quorum : (poll : PollContent) (n : ℕ) → Test (MeetsQuorum poll n)
quorum poll n = at_most (poll.quorum_multiple ^ 2 * elector_count poll) ((2 * n) ^ 2)

wording_majority : (wording : Wording) (ratio won lost : ℕ) → Test (IsMajority wording ratio won lost)
wording_majority AtLeast ratio won lost = both (at_most (ratio * lost) won) (at_most (suc lost) won)
wording_majority MoreThan ratio won lost = at_most (suc (ratio * lost)) won

module _ (poll : PollContent) (m : Votes) where
  abbrev K : ℕ → Type 0
  K = IsKept poll m

  pub majority : (o : ℕ) → Test (MeetsMajority poll m o)
  majority o = wording_majority poll.wording (ratio_of poll o) (votes m o (option_count poll)) (votes m (option_count poll) o)

  pub kept : (o : ℕ) → Test (K o)
  kept o =
      let default = option_count poll in
      either (equal o default) (all_four (at_most 1 o) (at_most (suc o) default) (quorum poll (votes m o default)) (majority o))

  pub defeat : (a b : ℕ) → Test (PairwiseDefeats K m a b)
  defeat a b = all_three (kept a) (kept b) (at_most (suc (votes m b a)) (votes m a b))

  -- an option that defeats another is one of the options
  pub defeater_option : (a b : ℕ) → PairwiseDefeats K m a b → IsOption (option_count poll) a
  defeater_option a b d =
      let apart : a ≢ b = λ same. omega (arith, d.2, ap (votes m a) same, ap (λ x. votes m x a) same) in
      kept_option poll m (other_kept poll m a b d.0 d.1 apart).3 a d.0
