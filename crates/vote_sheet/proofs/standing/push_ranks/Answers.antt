use Rattle.std.proofs.Common.{◌+◌, ◌++◌, ap, ◌∙◌, arith, codes, map, string_bytes, take}
use Rattle.std.specs.List.{join_with_byte}
use Rattle.vote_poll.specs.BallotLine.{rank_text}
use Rattle.vote_sheet.proofs.BallotTexts.{after_comma, first_rank, one_rank_more}
use Rattle.vote_sheet.proofs.standing.push_ranks.Goals as goal

pub loop-before-init : goal.loop-before-init
loop-before-init c =
    c.in_ok-push_rank.ensures
    ∙ ap (λ t. string_bytes c.args.text.now ++ t) (first_rank c.args.ranks.now c.rank.result (omega (arith, c.requires.some, c.requires.options)) c.rank.ensures)

pub loop-before-preserved : goal.loop-before-preserved
loop-before-preserved c =
    let ranks = c.args.ranks.now in
    let front = join_with_byte 44 (map rank_text (take c.loop-before.before ranks)) in
    after_comma _ _ _ _ front (codes ",") (rank_text c.rank-in-loop-before.result) (join_with_byte 44 (map rank_text (take (c.loop-before.before + 1) ranks)))
    c.loop-before.invariant c.in_ok-push_str.ensures.bytes c.in_ok-push_rank-2.ensures
    (one_rank_more ranks c.loop-before.before c.rank-in-loop-before.result (omega arith) (omega (arith, c.requires.options)) c.rank-in-loop-before.ensures)
