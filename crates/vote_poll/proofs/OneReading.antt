-- A poll reads a line in only one way.
use Rattle.std.proofs.Common.{◌≡◌, ℕ, List, Option, Some, None, sym, ◌∙◌, refl, length}
use Rattle.std.proofs.lemmas.Bool.{eq-eqb, ne_eqb}
use Rattle.vote_poll.specs.BallotLine.{IsBallotLine}
use Rattle.vote_poll.specs.PollContent.{PollContent, option_count}
use Rattle.vote_poll.specs.Readings.{IsReading, ballot_in, reading}
use Rattle.vote_poll.specs.declared.reading.Reading.{Reading}
use Rattle.vote_poll.specs.declared.reading.Reading.TheVariants.{Ballot, Bad}
use Rattle.vote_poll.specs.declared.reading.LineFault.TheVariants.{Shape, RankCount, Roll}
use Rattle.vote_poll.proofs.GrammarLaws.{ballot_in-sound, ballot_in-complete}

no_ballot : (line : List ℕ) (o : Option (List ℕ × List (Option ℕ))) → ballot_in line ≡ o → ((voter : List ℕ) (ranks : List (Option ℕ)) → IsBallotLine line voter ranks → ⊥) → o ≡ None
no_ballot line None is none = refl
no_ballot line (Some ballot) is none = absurd (none ballot.0 ballot.1 (ballot_in-sound line ballot is))

-- each reading of a line by the grammar is the function's reading
read_as : (poll : PollContent) (line : List ℕ) (r : Reading) → IsReading poll line r → reading poll line ≡ r
read_as poll line (Bad Shape) h = rw (no_ballot line (ballot_in line) refl h)
read_as poll line (Bad RankCount) h = rw (ballot_in-complete line h.0 h.1 h.2, ne_eqb (length h.1) (option_count poll) h.3)
read_as poll line (Bad Roll) h = rw (ballot_in-complete line h.0 h.1 h.2, eq-eqb (length h.1) (option_count poll) h.3, h.4)
read_as poll line (Ballot place ranks) h = rw (ballot_in-complete line h.0 ranks h.1, eq-eqb (length ranks) (option_count poll) h.2, h.3)

pub readings_are_one : (poll : PollContent) (line : List ℕ) (a b : Reading) → IsReading poll line a → IsReading poll line b → a ≡ b
readings_are_one poll line a b first second = sym (read_as poll line a first) ∙ read_as poll line b second
