use Rattle.std.proofs.Common.{◌+◌, ◌≤◌, length, ap, subst, arith}
use Rattle.vote_poll_text.specs.declared.lines.TheConstants.{MAX_LINES}
use Rattle.vote_steps.specs.Boxes.{BoxState, UsesAll}
use Rattle.vote_steps.specs.Keeping.{state_of}
use Rattle.vote_steps.proofs.LegalLemmas.{has_room_for_all_lem, each_stamp_is_used_lem}
use Rattle.vote_steps.proofs.ballot_box.BallotBox.steps.Goals as goal

pub returns-clause-len : goal.returns-clause-len
returns-clause-len c =
    let P : BoxState → Type 0 = λ b. length b.steps ≤ b.limit + 1 in subst P c.self.view_is (has_room_for_all_lem (state_of c.self.inside) c.self.invariant.legal)

pub returns-clause-all_used : goal.returns-clause-all_used
returns-clause-all_used c = let P : BoxState → Type 0 = λ b. UsesAll b in subst P c.self.view_is (each_stamp_is_used_lem (state_of c.self.inside) c.self.invariant.legal)

pub returns-clause-at_most : goal.returns-clause-at_most
returns-clause-at_most c =
    let P : BoxState → Type 0 = λ b. length b.steps ≤ MAX_LINES + 1 in
    let len = has_room_for_all_lem (state_of c.self.inside) c.self.invariant.legal in
    let limit = c.self.invariant.limit_fits in
    subst P c.self.view_is (omega arith)

pub returns-clause-steps : goal.returns-clause-steps
returns-clause-steps c = cc (ap (λ (b : BoxState). b.steps) c.self.view_is)
