-- The voter has no ballot, or a newer or an older one. In each case the roll, the totals and the matrix are then those of the ballots that stand.
use Rattle.std.proofs.Common.{◌≡◌, ℕ, ◌+◌, ◌<◌, ◌≤◌, Bool, cond, Option, Some, None, length, get_or, set, refl, sym, ap, ◌∙◌, subst, ⊎_elim, arith, Vec, vec_len, Global}
use Rattle.std.specs.Prelude.{is_some}
use Rattle.std.specs.List.{count_by}
use Rattle.std.proofs.lemmas.Bool.{cases_eq}
use Rattle.std.proofs.lemmas.Bool.Decides.{nat_tests}
use Rattle.std.proofs.lemmas.List.{get_or_read_under, set-get_or, get_or-set_same, get_or-set_other}
use Rattle.std.proofs.lemmas.List.Sums.{count_by-le-length, sum_by-set}
use Rattle.vote_poll.specs.Options.{IsOption}
use Rattle.vote_poll.specs.declared.TheConstants.{MAX_ELECTORS}
use Rattle.vote_steps.specs.declared.step.Received.{Received}
use Rattle.vote_steps.specs.History.{is_for}
use Rattle.vote_steps.specs.Receiving.{HaveRanks}
use Rattle.vote_steps.proofs.roll.Roll.receive.Goals as goal

-- the voter's ballot that stood, at the index that was read
stood : (ballots : Vec (Option Received) Global) (voter : ℕ) (read old : Option Received) → read ≡ get_or ballots.items voter read → voter < vec_len ballots → read ≡ old → get_or ballots.items voter None ≡ old
stood ballots voter read old at within is = sym (get_or_read_under ballots.items voter (vec_len ballots) read None at within ballots.ok.0) ∙ is

-- a count of the roll's entries after a voter's entry was replaced by another
counted_with : (ballots : Vec (Option Received) Global) (voter : ℕ) (old new : Option Received) (p : Option Received → Bool) → get_or ballots.items voter None ≡ old → voter < vec_len ballots
    → count_by p (set ballots.items voter new) + cond (p old) 1 0 ≡ count_by p ballots.items + cond (p new) 1 0
counted_with ballots voter old new p is within =
    let f : Option Received → ℕ = λ o. cond (p o) 1 0 in
    rw is at (sum_by-set f ballots.items voter new None (omega (arith, within, ballots.ok.0)))

fit_with : (ballots : Vec (Option Received) Global) (voter options : ℕ) (ballot : Received) → voter < vec_len ballots → length ballot.ranks ≡ options → HaveRanks options ballots.items
    → (k : ℕ) (x : Received) → get_or (set ballots.items voter (Some ballot)) k None ≡ Some x → length x.ranks ≡ options
fit_with ballots voter options ballot within fits all k x is =
    ⊎_elim
    (λ (same : k ≡ voter).
    let both : Some x ≡ Some ballot = sym is ∙ ap (λ i. get_or (set ballots.items voter (Some ballot)) i None) same ∙ get_or-set_same ballots.items voter (Some ballot) None (omega (arith, within, ballots.ok.0)) in
    let one : x ≡ ballot = cc in ap (λ (b : Received). length b.ranks) one ∙ fits)
    (λ other. all k x (sym (get_or-set_other ballots.items voter k (Some ballot) None other) ∙ is))
    (cases_eq k voter)

pub returns-in-Some-clause-reply : goal.returns-in-Some-clause-reply
returns-in-Some-clause-reply c =
    let is = stood c.args.self.now.ballots c.args.voter c.index.result.now (Some c.in-Some.standing) c.index.ensures c.requires.voter c.in-Some.is in
    rw is (grind (arith, nat_tests))

pub returns-in-Some-clause-ballots : goal.returns-in-Some-clause-ballots
returns-in-Some-clause-ballots c =
    let is = stood c.args.self.now.ballots c.args.voter c.index.result.now (Some c.in-Some.standing) c.index.ensures c.requires.voter c.in-Some.is in
    sym (set-get_or c.args.self.now.ballots.items c.args.voter None) ∙ rw is (grind (arith, nat_tests))

pub returns-in-Some-2-clause-reply : goal.returns-in-Some-2-clause-reply
returns-in-Some-2-clause-reply c =
    let is = stood c.args.self.now.ballots c.args.voter c.index.result.now (Some c.in-Some.standing) c.index.ensures c.requires.voter c.in-Some.is in
    rw is (grind (arith, nat_tests))

pub returns-in-Some-2-clause-ballots : goal.returns-in-Some-2-clause-ballots
returns-in-Some-2-clause-ballots c =
    let is = stood c.args.self.now.ballots c.args.voter c.index.result.now (Some c.in-Some.standing) c.index.ensures c.requires.voter c.in-Some.is in
    rw is (grind (arith, nat_tests))

pub returns-in-None : goal.returns-in-None
returns-in-None c =
    let is = stood c.args.self.now.ballots c.args.voter c.index.result.now None c.index.ensures c.requires.voter c.in-None.is in
    record { reply = rw is refl; ballots = rw is refl; options = c.add.ensures.options }

pub invariant_of-self-in-None : goal.invariant_of-self-in-None
invariant_of-self-in-None c =
    let ballots = c.args.self.now.ballots in
    let counted = λ (p : Option Received → Bool). counted_with ballots c.args.voter None (Some c.args.ballot) p (stood ballots c.args.voter c.index.result.now None c.index.ensures c.requires.voter c.in-None.is) c.requires.voter in
    record {
      few = c.args.self.now.few;
      fit = fit_with ballots c.args.voter _ c.args.ballot c.requires.voter (c.requires.ranks ∙ sym c.add.ensures.options) (rw c.add.ensures.options c.args.self.now.fit);
      counted = omega (arith, c.args.self.now.counted, counted is_some);
      recounted = λ a b of_a of_b.
          let Of : ℕ → ℕ → Type 0 = λ k n. IsOption n k in
          let of_a' = subst (Of a) c.add.ensures.options of_a in
          let of_b' = subst (Of b) c.add.ensures.options of_b in
          omega (arith, c.add.ensures.votes a b of_a' of_b', c.args.self.now.recounted a b of_a' of_b', counted (is_for a b));
    }

-- no more voters have a ballot than are on the roll
pub overflow_add-self : goal.overflow_add-self
overflow_add-self c =
    let ballots = c.args.self.now.ballots in
    let few : vec_len ballots ≤ MAX_ELECTORS = c.args.self.now.few in
    record { fits = omega (arith, few, c.args.self.now.counted, ballots.ok.0, count_by-le-length is_some ballots.items) }

pub exchange-requires-clause-counted : goal.exchange-requires-clause-counted
exchange-requires-clause-counted c a b of_a of_b preferred =
    let ballots = c.args.self.now.ballots in
    let is = stood ballots c.args.voter c.index.result.now (Some c.in-Some-2.standing) c.index.ensures c.requires.voter c.in-Some-2.is in
    omega (arith, counted_with ballots c.args.voter (Some c.in-Some-2.standing) None (is_for a b) is c.requires.voter, ap (λ (t : Bool). cond {A = ℕ} t 1 0) preferred, c.args.self.now.recounted a b of_a of_b)

-- a vote of the matrix can count more voters than there are
pub add-requires-clause-room : goal.add-requires-clause-room
add-requires-clause-room c a b of_a of_b _ =
    let ballots = c.args.self.now.ballots in
    let few : vec_len ballots ≤ MAX_ELECTORS = c.args.self.now.few in
    omega (arith, few, c.args.self.now.recounted a b of_a of_b, ballots.ok.0, count_by-le-length (is_for a b) ballots.items)

pub exchange-requires-clause-room : goal.exchange-requires-clause-room
exchange-requires-clause-room c a b of_a of_b _ =
    let ballots = c.args.self.now.ballots in
    let few : vec_len ballots ≤ MAX_ELECTORS = c.args.self.now.few in
    omega (arith, few, c.args.self.now.recounted a b of_a of_b, ballots.ok.0, count_by-le-length (is_for a b) ballots.items)

pub invariant_of-self-in-Some-2 : goal.invariant_of-self-in-Some-2
invariant_of-self-in-Some-2 c =
    let ballots = c.args.self.now.ballots in
    let stands = Some c.in-Some-2.standing in
    let counted = λ (p : Option Received → Bool). counted_with ballots c.args.voter stands (Some c.args.ballot) p (stood ballots c.args.voter c.index.result.now stands c.index.ensures c.requires.voter c.in-Some-2.is) c.requires.voter in
    record {
      few = c.args.self.now.few;
      fit = fit_with ballots c.args.voter _ c.args.ballot c.requires.voter (c.requires.ranks ∙ sym c.exchange.ensures.options) (rw c.exchange.ensures.options c.args.self.now.fit);
      counted = omega (arith, c.args.self.now.counted, counted is_some);
      recounted = λ a b of_a of_b.
          let Of : ℕ → ℕ → Type 0 = λ k n. IsOption n k in
          let of_a' = subst (Of a) c.exchange.ensures.options of_a in
          let of_b' = subst (Of b) c.exchange.ensures.options of_b in
          omega (arith, c.exchange.ensures.votes a b of_a' of_b', c.args.self.now.recounted a b of_a' of_b', counted (is_for a b));
    }
