use Rattle.std.proofs.Common.{inl, inr, sym, ◌∙◌, arith}
use Rattle.std.proofs.lemmas.Bool.{eqb-true, lt-ltb, ltb-true}
use Rattle.vote_count.proofs.rules.is_weaker.Goals as goal

pub returns-then-won-other_won : goal.returns-then-won-other_won
returns-then-won-other_won c = (
  λ _. inl (rw (c.votes-won.ensures, c.votes-other_won.ensures) at c.if-won-other_won.true),
  λ _. lt-ltb _ _ c.if-won-other_won.true,
)

pub returns-else-won-other_won-2 : goal.returns-else-won-other_won-2
returns-else-won-other_won-2 c = (
  λ same. absurd (c.if-won-other_won-2.false (eqb-true _ _ same)),
  λ weaker. absurd (elim weaker [
    | inl fewer ↦ omega (arith, fewer, c.if-won-other_won.false, c.votes-won.ensures, c.votes-other_won.ensures)
    | inr equal ↦ c.if-won-other_won-2.false (c.votes-won.ensures ∙ equal.0 ∙ sym c.votes-other_won.ensures)
  ]),
)

pub returns-then-won-other_won-2 : goal.returns-then-won-other_won-2
returns-then-won-other_won-2 c = (
  λ more. inr (sym c.votes-won.ensures ∙ c.if-won-other_won-2.true ∙ c.votes-other_won.ensures, rw (c.votes-other_lost.ensures, c.votes-lost.ensures) at (ltb-true _ _ more)),
  λ weaker. elim weaker [
    | inl fewer ↦ absurd (omega (arith, fewer, c.if-won-other_won-2.true, c.votes-won.ensures, c.votes-other_won.ensures))
    | inr equal ↦ lt-ltb _ _ (rw (c.votes-other_lost.ensures, c.votes-lost.ensures) equal.1)
  ],
)
