use Rattle.vote_hints.proofs.HintLaws.{hint_of}
use Rattle.vote_hints.proofs.push_hint.Goals as goal

pub returns-clause-hint : goal.returns-clause-hint
returns-clause-hint c = (_, hint_of c.args.words.now, c.in_ok-push_shown.ensures)
