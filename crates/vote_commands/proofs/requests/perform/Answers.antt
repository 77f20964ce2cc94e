use Rattle.vote_commands.proofs.requests.perform.Goals as goal

pub returns-in-Count-clause-performs : goal.returns-in-Count-clause-performs
returns-in-Count-clause-performs g c = rw c.in-Count.is c.count_for.ensures.counts

pub returns-in-List-clause-performs : goal.returns-in-List-clause-performs
returns-in-List-clause-performs g c = rw c.in-List.is (c.perform_listing.ensures.lists, c.perform_listing.ensures.end, c.perform_listing.ensures.none)

pub returns-in-Check-clause-performs : goal.returns-in-Check-clause-performs
returns-in-Check-clause-performs g c = rw (c.in-Check.is, c.ended_as_done.ensures.stop) (c.check_poll.ensures.checks, c.ended_as_done.ensures.end, c.ended_as_done.ensures.none)

pub returns-in-Explain-clause-performs : goal.returns-in-Explain-clause-performs
returns-in-Explain-clause-performs g c = rw (c.in-Explain.is, c.unaudited.ensures.end) (c.explain.ensures.explains, c.unaudited.ensures.none)
