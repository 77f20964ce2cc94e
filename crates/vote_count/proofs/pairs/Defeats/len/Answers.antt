use Rattle.std.proofs.Common.{ap, ◌∙◌, arith}
use Rattle.std.proofs.lemmas.List.{take_all}
use Rattle.std.proofs.lemmas.List.Sums.{sum_by_more}
use Rattle.vote_count.specs.Sets.{pair_count, size}
use Rattle.vote_count.proofs.pairs.Defeats.len.Goals as goal

pub loop-row-preserved : goal.loop-row-preserved
loop-row-preserved c =
    let more = sum_by_more size c.self.inside.rows c.loop-row.row-index c.row-item.result (omega (arith, c.type_inv.row-items)) in
    (omega (arith, more, c.loop-row.invariant.0, c.len-count.ensures.count), omega (arith, c.loop-row.invariant.1, c.len-count.ensures.at_most))

pub returns : goal.returns
returns c = c.loop-row.invariant.0 ∙ ap pair_count (take_all c.loop-row.row-index c.self.inside.rows (omega (arith, c.self.invariant)) ∙ c.self.view_is)
