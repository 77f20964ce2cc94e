-- What a count knows of the votes that it had taken.
use Rattle.std.proofs.Common.{◌≡◌, List, Ok, Result, length, subst}
use Rattle.std.specs.Prelude.{All, IfOk}
use Rattle.vote_poll_text.specs.Lines.{HasTooManyLines, lines_of}
use Rattle.vote_poll.specs.PollContent.{PollContent}
use Rattle.vote_desks_box.specs.Slips.{Rises}
use Rattle.vote_audit.specs.Audit.{IsAuditedFor}
use Rattle.vote_audit.specs.declared.Audited.{Audited}
use Rattle.vote_audit.specs.declared.VoteFault.{VoteFault}
use Rattle.vote_poll_text.specs.Texts.{Text}
use Rattle.vote_commands.specs.Inputs.{Inputs}
use Rattle.vote_commands.specs.TakenVotes.{AreBallotsTaken}
use Rattle.vote_commands.specs.TakingVotes.{AreVotesTaken}

-- the inputs that are given are seen as these
pub ballots_taken : (poll : PollContent) (given inputs : Inputs) (lines : List Text) (taken : Result Audited VoteFault) (audited : Audited) → given ≡ inputs
    → lines ≡ lines_of given.ballots → ¬ HasTooManyLines given.ballots → AreVotesTaken poll lines given.desks taken → taken ≡ Ok audited
    → AreBallotsTaken poll inputs (lines, audited)
ballots_taken poll given inputs lines taken audited same split few votes is =
    let of_given : AreBallotsTaken poll given (lines, audited) = record {
      lines = split;
      few = few;
      audited = subst (λ (r : Result Audited VoteFault). IfOk r (IsAuditedFor poll lines)) is votes.audited;
      desks = subst (λ (r : Result Audited VoteFault). IfOk r (λ (sealed : Audited). length sealed.slips_by_desk ≡ given.desks)) is votes.slips;
      rising = subst (λ (r : Result Audited VoteFault). IfOk r (λ (sealed : Audited). All Rises sealed.slips_by_desk)) is votes.rising;
    } in subst (λ (of : Inputs). AreBallotsTaken poll of (lines, audited)) same of_given
