use Rattle.std.proofs.Common.{◌≡◌, min, ap, ◌∙◌, arith, length, take, map}
use Rattle.vote_poll.specs.SortKeys.{rank_of_key}
use Rattle.vote_poll.specs.declared.TheConstants.{MAX_OPTIONS}
use Rattle.vote_poll.proofs.RankRow.{row-length, row-ranks, row-rest}
use Rattle.vote_poll.proofs.ranks.Ranks.of_row.Goals as goal

pub invariant_of-result : goal.invariant_of-result
invariant_of-result c =
    let keys = c.requires.0 in
    let few : c.min.result ≡ min (length keys) MAX_OPTIONS = omega (arith, c.requires.1) in
    (omega arith, ap length c.requires.2 ∙ row-length keys, rw (c.requires.2) (row-rest keys c.min.result few), λ k. omega (arith, c.fits-row k))

pub returns : goal.returns
returns c keys long row =
    let few : c.min.result ≡ min (length keys) MAX_OPTIONS = omega (arith, long) in
    ap (λ r. map rank_of_key (take c.min.result r)) row ∙ row-ranks keys c.min.result few
