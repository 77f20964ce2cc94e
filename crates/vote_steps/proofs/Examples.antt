-- Examples: the desks of a history, and the replies to an envelope.
use Rattle.std.proofs.Common.{refl}
use Rattle.vote_steps.specs.Laws.{CastsAreAtDesks, RepliesAsInTheExamples}
use Rattle.vote_steps.specs.declared.step.Step.TheVariants.{Cast}

pub casts_are_at_desks : CastsAreAtDesks
casts_are_at_desks b before after desk stamp reading reply legal is = (legal before after (Cast desk stamp reading reply) is).desk_fits

pub replies_in_examples : RepliesAsInTheExamples
replies_in_examples desk first ranks = record { earlier = refl; later = refl; another = refl; too_late = refl; closed = refl }
