use Rattle.std.proofs.Common.{◌≡◌, Bool, true, false, not, refl, sym, ap, ◌∙◌}
use Rattle.std.specs.Prelude.{◌↔◌, IsTrue}
use Rattle.std.proofs.lemmas.Bool.{false≢true}
use Rattle.vote_steps.specs.Boxes.{BoxState}
use Rattle.vote_steps.specs.History.{is_closed}
use Rattle.vote_steps.proofs.ballot_box.BallotBox.is_open.Goals as goal

not_closed : (mine closed : Bool) → mine ≡ closed → IsTrue (not mine) ↔ ¬ IsTrue closed
not_closed true true same = (λ is_open. absurd (false≢true is_open), λ none. absurd (none refl))
not_closed false false same = (λ _ closed. absurd (false≢true closed), λ _. refl)
not_closed true false same = absurd (false≢true (sym same))
not_closed false true same = absurd (false≢true same)

pub returns : goal.returns
returns c = not_closed c.self.inside.closed _ (c.self.invariant.closed ∙ ap (λ (b : BoxState). is_closed b.steps) c.self.view_is)
