use Rattle.std.proofs.Common.{inl, inr, sym, ◌∙◌}
use Rattle.std.proofs.lemmas.Bool.{both_ways, cases_Bool, not_from_false, not_from_true}
use Rattle.vote_count.proofs.rules.is_beaten_by.Goals as goal

pub returns-then-has : goal.returns-then-has
returns-then-has c = (
  λ h. (sym c.has.ensures ∙ c.if-has.true, λ back. both_ways _ (not_from_true _ (c.has-then-has.ensures ∙ back)) h),
  λ beaten. elim (cases_Bool c.has-then-has.result) [ inl back ↦ absurd (beaten.1 (sym c.has-then-has.ensures ∙ back)) | inr not_back ↦ not_from_false _ not_back ],
)

pub returns-else-has : goal.returns-else-has
returns-else-has c = (λ h. absurd (both_ways _ c.if-has.false h), λ beaten. c.has.ensures ∙ beaten.0)
