use Rattle.vote_explain_ballots.proofs.Words.{refl, subst, AreLinesFor, SaysRefusal, refusals}
use Rattle.vote_explain_ballots.proofs.explain.explain_ballots.Goals as goal

pub returns-clause-text : goal.returns-clause-text
returns-clause-text c =
    let is_text = c.in_ok-is_text.ensures.is_text in
    let (of_file, is_of_file, e1) = c.in_ok-is_text.ensures.text in
    let (findings, are_findings, e3) = c.in_ok-add_all.ensures in
    record {
      of_file = of_file;
      is_of_file = is_of_file;
      findings = findings;
      are_findings = subst (λ b. AreLinesFor (SaysRefusal b c.args.poll.now) (refusals c.args.poll.now c.args.lines.now) findings) is_text are_findings;
      is_said = rw (c.in_ok-push_totals.ensures, c.in_ok-push_example.ensures, e3, c.in_ok-push_warnings.ensures, e1, c.new-findings.ensures, is_text) refl;
    }
