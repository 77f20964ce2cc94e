use Rattle.vote_poll.proofs.BallotLaws.{no_text_of_parts, text_of_parts}
use Rattle.vote_poll.proofs.reading.is_ballot_line.Goals as goal

pub returns-in-Some : goal.returns-in-Some
returns-in-Some c = rw c.is_voter_name.ensures (text_of_parts c.args.line.now (c.in-Some.parts.voter.now, c.in-Some.parts.ranks, c.in-Some.parts.count) c.in-Some.ensures)

pub returns-in-None : goal.returns-in-None
returns-in-None c = (λ is. cc, λ text. absurd (no_text_of_parts c.args.line.now c.in-None.ensures text))
