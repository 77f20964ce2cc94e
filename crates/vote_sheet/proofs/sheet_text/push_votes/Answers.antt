use Rattle.std.proofs.Common.{◌≡◌, rules}
use Rattle.std.proofs.lemmas.Bool.{eq-eqb, ne_eqb}
use Rattle.vote_count.specs.Votes.{votes}
use Rattle.vote_sheet.specs.Sheet.{right, votes_text}
use Rattle.vote_sheet.proofs.Padding.{number_in_6}
use Rattle.vote_sheet.proofs.sheet_text.push_votes.Goals as goal

pub returns-then-a-b : goal.returns-then-a-b
unfolding right votes_text
returns-then-a-b c = rw (eq-eqb _ _ c.if-a-b.true) (search rules)

pub returns-else-a-b : goal.returns-else-a-b
unfolding votes_text
returns-else-a-b c =
    let of_a : c.votes.result ≡ votes c.args.matrix.now c.args.a c.args.b = c.votes.ensures in
    rw (ne_eqb _ _ c.if-a-b.false, ← of_a, ← number_in_6 c.laid_out.result c.votes.result c.laid_out.ensures) c.write.ensures.bytes
