use Rattle.std.proofs.Common.{[], ◌∷◌, ◌++◌, ap, ◌∙◌}
use Rattle.vote_steps.specs.declared.step.Reply.{Reply}
use Rattle.vote_steps.specs.declared.step.Step.TheVariants.{Cast}
use Rattle.vote_steps.specs.Boxes.{BoxState}
use Rattle.vote_steps.proofs.casting.cast_at_desk_1.Goals as goal

pub returns : goal.returns
returns c =
    let old = c.args.ballot_box.now in
    let after : Reply → BoxState = λ reply. record old { steps = old.steps ++ Cast 1 c.args.stamp c.args.reading reply ∷ [] } in
    c.in-Ok.ensures.step ∙ ap after c.in-Ok.ensures.reply
