-- The options before this one are in the set exactly if they are unbeaten in the given set; the others are not there yet.
use Rattle.std.proofs.Common.{ℕ, sym, ◌∙◌, arith}
use Rattle.std.proofs.lemmas.Bool.{both_ways}
use Rattle.vote_count.specs.Sets.{In, Pairs}
use Rattle.vote_count.specs.Rules.{InSchwartzSet}
use Rattle.vote_count.proofs.Filled.{option_left, option_taken}
use Rattle.vote_count.proofs.rules.schwartz.Goals.{then-has+then-is_unbeaten, else-has, else-has-via-then-has+else-is_unbeaten, else-has-via-else-has}
use Rattle.vote_count.proofs.rules.schwartz.Goals as goal

pub loop-a-init : goal.loop-a-init
loop-a-init c = (omega arith, λ x. (λ h. absurd (both_ways _ (c.empty-schwartz.ensures x) h), λ h. absurd (omega (arith, h.1, c.requires x h.0.0))))

pub loop-a-preserved : goal.loop-a-preserved
loop-a-preserved c =
    let P : ℕ → Type 0 = InSchwartzSet (In c.args.set.now) (Pairs c.args.chains.now) in (
      omega arith,
      elim c.if-has.branch [
        | then-has+then-is_unbeaten w ↦ rw w.schwartz-is (option_taken (In c.loop-a.schwartz) (In w.insert.new.self) P c.loop-a.a c.loop-a.invariant.1 w.insert.ensures.options
            (sym c.has.ensures ∙ w.if-has.true, w.is_unbeaten.ensures.0 w.if-is_unbeaten.true))
        | else-has w ↦ rw w.schwartz-is (option_left (In c.loop-a.schwartz) P c.loop-a.a c.loop-a.invariant.1
            (λ p. elim w.else-has.branch [
              | else-has-via-then-has+else-is_unbeaten w' ↦ both_ways _ w'.if-is_unbeaten.false (w'.is_unbeaten.ensures.1 p.1)
              | else-has-via-else-has w' ↦ both_ways _ w'.if-has.false (c.has.ensures ∙ p.0)
            ]))
      ],
    )

pub returns : goal.returns
returns c a = (
  λ h. ((c.loop-a.invariant.1 a).0 h).0,
  λ h. (c.loop-a.invariant.1 a).1 (h, omega (arith, c.last-a-end.ensures.none_behind a h.0)),
)
