use Rattle.std.proofs.Common.{sym, ◌∙◌}
use Rattle.std.proofs.lemmas.Bool.{both_ways, lt-ltb, ltb-true}
use Rattle.vote_count.proofs.pairs.is_defeat.Goals.{then-has, else-has}
use Rattle.vote_count.proofs.pairs.is_defeat.Goals as goal

pub returns-then-has-2 : goal.returns-then-has-2
returns-then-has-2 c = (
  λ more. elim c.if-has.branch [
    | then-has w ↦ (sym c.has.ensures ∙ w.if-has.true, sym w.has-then-has.ensures ∙ sym w.value-is ∙ c.if-has-2.true, rw (c.votes.ensures, c.votes-then-has-2.ensures) at (ltb-true _ _ more))
    | else-has w ↦ absurd (both_ways _ (w.value-is ∙ w.if-has.false) c.if-has-2.true)
  ],
  λ defeat. lt-ltb _ _ (rw (c.votes.ensures, c.votes-then-has-2.ensures) defeat.2),
)

pub returns-else-has-2 : goal.returns-else-has-2
returns-else-has-2 c = (
  λ h. absurd (both_ways _ c.if-has-2.false h),
  λ defeat. elim c.if-has.branch [
    | then-has w ↦ w.value-is ∙ w.has-then-has.ensures ∙ defeat.1
    | else-has w ↦ absurd (both_ways _ w.if-has.false (c.has.ensures ∙ defeat.0))
  ],
)
