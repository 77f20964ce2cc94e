use Rattle.std.proofs.Common.{[], sym, ◌∙◌}
use Rattle.std.proofs.lemmas.Option.{get_or_from_slice_get}
use Rattle.vote_sheet.proofs.BallotTexts.{name_is_text}
use Rattle.vote_sheet.proofs.standing.voter_name.Goals as goal

pub unreachable-requires-in_default-from_utf8 : goal.unreachable-requires-in_default-from_utf8
unreachable-requires-in_default-from_utf8 c = c.in_default-from_utf8.ensures.cases.0 (name_is_text c.in-Some.name.now c.in-Some.ensures.name.1)

pub returns : goal.returns
returns c = c.in-Ok.ensures.cases.0 ∙ sym (get_or_from_slice_get c.args.poll.now.roll c.args.voter c.in-Some.name.now [] (sym c.in-Some.ensures.found))
