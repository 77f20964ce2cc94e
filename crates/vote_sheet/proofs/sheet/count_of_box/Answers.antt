use Rattle.std.proofs.Common.{ap, ◌∙◌, arith}
use Rattle.vote_steps.specs.declared.Totals.{Totals}
use Rattle.vote_steps.proofs.Holding.{refused_are, valid_are, voters_are, votes_are}
use Rattle.vote_sheet.proofs.sheet.count_of_box.Goals as goal

pub returns-clause-sheets : goal.returns-clause-sheets
returns-clause-sheets c =
    let held = c.requires in
    let poll = c.args.poll.now in
    let lines = c.args.lines.now in
    let totals = c.totals.ensures in
    let counted = c.lines_are_counted.ensures poll lines c.args.ballot_box.now held in
    record {
      line_count = c.len.ensures.number;
      sheets = λ casting decision is. record {
        quorum = c.quorum_votes.ensures;
        valid = ap (λ (t : Totals). t.valid) totals ∙ valid_are poll lines c.args.ballot_box.now held.sizes counted;
        refused = ap (λ (t : Totals). t.refused) totals ∙ refused_are poll lines c.args.ballot_box.now held.sizes counted;
        voters = ap (λ (t : Totals). t.voters) totals ∙ voters_are poll lines c.args.ballot_box.now held.sizes counted;
        size = c.matrix-matrix.ensures.options ∙ held.sizes.0;
        counted = λ a b in_a in_b.
            c.matrix-matrix.ensures.votes a b (in_a.0, omega (arith, in_a.1, held.sizes.0)) (in_b.0, omega (arith, in_b.1, held.sizes.0))
            ∙ votes_are poll lines c.args.ballot_box.now held.sizes counted a b;
        outcome = c.in_ok-verdict.ensures.outcome;
        decision = is;
      };
    }
