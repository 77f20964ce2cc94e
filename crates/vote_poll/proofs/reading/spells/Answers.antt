use Rattle.std.proofs.Common.{◌∙◌, sym, arith}
use Rattle.vote_poll.proofs.BallotLaws.{reading-spelled}
use Rattle.vote_poll.proofs.reading.spells.Goals as goal

pub returns-in-Some-behind_name : goal.returns-in-Some-behind_name
returns-in-Some-behind_name c same =
    reading-spelled c.args.poll.now c.args.line.now c.in-Some.name.now c.in-Some-behind_name.text.now c.args.ranks.now c.args.voter
    c.in-Some-behind_name.ensures c.in-Some.ensures.name.1 c.in-Some.ensures.name.0 (c.lists_ranks.ensures same)
    (sym c.options.ensures.number ∙ c.if-options.false ∙ c.options-else-line-gt-MAX_LINE.ensures.number) (omega arith)
