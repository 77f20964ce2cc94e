use Rattle.std.proofs.Common.{ap, ◌∙◌}
use Rattle.std.specs.Prelude.{is_some}
use Rattle.std.specs.List.{count_by}
use Rattle.vote_steps.specs.declared.ballot_box.Totals.{Totals}
use Rattle.vote_steps.specs.Boxes.{BoxState}
use Rattle.vote_steps.specs.History.{valid, refused, voters}
use Rattle.vote_steps.proofs.ballot_box.BallotBox.totals.Goals as goal

pub returns : goal.returns
returns c =
    let totals : BoxState → Totals =
    λ b. record { valid = valid b.last_in_time b.steps; refused = refused b.last_in_time b.steps; voters = voters b.last_in_time b.steps b.electors } in
    let counted = c.self.inside.roll.counted ∙ ap (count_by is_some) c.self.invariant.roll_is in
    rw (c.self.invariant.valid_is, c.self.invariant.refused_is, counted) (ap totals c.self.view_is)
