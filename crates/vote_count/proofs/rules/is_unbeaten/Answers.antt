-- The options before this one are no reason to call the option beaten. One that beats it and is not beaten back ends the search.
use Rattle.std.proofs.Common.{ℕ, inl, inr, refl, sym, ◌∙◌, subst, arith}
use Rattle.std.specs.Prelude.{◌⊎◌}
use Rattle.std.proofs.lemmas.Bool.{both_ways, cases_Bool, cases_eq}
use Rattle.vote_count.specs.Sets.{In, Pairs, has_pair}
use Rattle.vote_count.proofs.rules.is_unbeaten.Goals.{else-has-via-then-has+else-is_beaten_by, else-has-via-else-has}
use Rattle.vote_count.proofs.rules.is_unbeaten.Goals as goal

pub returns : goal.returns
returns c = (
  λ _ b in_set. c.loop-b.invariant.1 b in_set (omega (arith, c.last-b-end.ensures.none_behind b in_set)),
  λ _. refl,
)

pub returns-then-is_beaten_by : goal.returns-then-is_beaten_by
returns-then-is_beaten_by c =
    let beaten = c.is_beaten_by.ensures.0 c.if-is_beaten_by.true in (
      λ h. absurd (both_ways _ refl h),
      λ unbeaten. absurd (elim (unbeaten c.loop-b.b (sym c.has.ensures ∙ c.if-has.true)) [ inl back ↦ beaten.1 back | inr not_beaten ↦ not_beaten beaten.0 ]),
    )

pub loop-b-preserved : goal.loop-b-preserved
loop-b-preserved c =
    let P : ℕ → Type 0 = λ y. Pairs c.args.chains.now c.args.a y ⊎ ¬ Pairs c.args.chains.now y c.args.a in (
      omega arith,
      λ y in_set lt. elim (cases_eq y c.loop-b.b) [
        | inr other ↦ c.loop-b.invariant.1 y in_set (omega arith)
        | inl same ↦ subst P (sym same) (elim c.else-has.branch [
          | else-has-via-then-has+else-is_beaten_by w ↦ elim (cases_Bool (has_pair c.args.chains.now c.args.a c.loop-b.b)) [
            | inl back ↦ inl back
            | inr not_back ↦ inr (λ beaten. both_ways _ w.if-is_beaten_by.false (w.is_beaten_by.ensures.1 (beaten, λ back. both_ways _ not_back back)))
          ]
          | else-has-via-else-has w ↦ absurd (both_ways _ w.if-has.false (c.has.ensures ∙ subst (λ (b : ℕ). In c.args.set.now b) same in_set))
        ])
      ],
    )
