use Rattle.vote_program.proofs.answers.answer_joined.Goals as goal

pub returns-clause-answers : goal.returns-clause-answers
returns-clause-answers g c = (
  c.print_joined.result,
  record {
    bytes = g.E.Sink.contents c.say_hint.new.errors;
    faults = g.E.Sink.faults c.say_hint.new.errors;
    flushed = g.E.Sink.flushed c.say_hint.new.errors;
  },
  c.print_joined.ensures.ends,
  c.report.ensures.status,
  c.say_hint.ensures,
  c.report.ensures.says,
)
