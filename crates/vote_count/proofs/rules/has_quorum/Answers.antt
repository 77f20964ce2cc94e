use Rattle.std.proofs.Common.{◌≡◌, arith, rules}
use Rattle.std.proofs.lemmas.Bool.{leb-true, le-leb}
use Rattle.vote_poll.specs.PollContent.{option_count}
use Rattle.vote_count.specs.Votes.{votes}
use Rattle.vote_poll.proofs.Squares.{double_square_le}
use Rattle.vote_count.proofs.rules.has_quorum.Goals as goal

pub returns : goal.returns
returns c =
    let v : c.from.result ≡ votes c.args.matrix.now c.args.option (option_count c.args.poll.now) = search rules in (
      λ enough. let more = double_square_le c.args.quorum (votes c.args.matrix.now c.args.option (option_count c.args.poll.now)) (omega (arith, leb-true _ _ enough)) in omega (arith, c.requires.quorum.0),
      λ meets. le-leb _ _ (omega (arith, c.requires.quorum.1 _ meets)),
    )
