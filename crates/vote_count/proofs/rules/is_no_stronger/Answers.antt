use Rattle.std.proofs.Common.{inl, inr, sym, ◌∙◌}
use Rattle.std.proofs.lemmas.Bool.{both_ways, cases_Bool, not_from_false, not_from_true}
use Rattle.vote_count.proofs.rules.is_no_stronger.Goals as goal

pub returns-then-has : goal.returns-then-has
returns-then-has c = (
  λ h. (sym c.has.ensures ∙ c.if-has.true, λ weaker. both_ways _ (not_from_true _ (c.is_weaker.ensures.1 weaker)) h),
  λ found. elim (cases_Bool c.is_weaker.result) [ inl weaker ↦ absurd (found.1 (c.is_weaker.ensures.0 weaker)) | inr not_weaker ↦ not_from_false _ not_weaker ],
)

pub returns-else-has : goal.returns-else-has
returns-else-has c = (λ h. absurd (both_ways _ c.if-has.false h), λ found. c.has.ensures ∙ found.0)
