-- What an audited box holds.
use Rattle.std.proofs.Common.{◌≡◌, List, subst, sym}
use Rattle.vote_poll.specs.PollContent.{PollContent}
use Rattle.vote_steps.specs.Boxes.{BoxState}
use Rattle.vote_steps.specs.HeldLines.{HoldsLines}
use Rattle.vote_audit.specs.Audit.{IsAudited, IsAuditedFor}
use Rattle.vote_desks_box.specs.Desks.{SealedState}
use Rattle.vote_desks_box.specs.declared.Slip.{Slip}
use Rattle.vote_poll_text.specs.Texts.{Text}
use Rattle.vote_commands.specs.Counting.{IsCountedIn}
use Rattle.vote_commands.specs.Inputs.{Inputs}
use Rattle.vote_commands.specs.TakenVotes.{AreTaken}
use Rattle.vote_commands.specs.declared.votes.TakenVotes.{TakenVotes}

-- a box that equals the audited box holds the lines
pub audited_holds : (poll : PollContent) (lines : List Text) (b audited : BoxState) (slips_by_desk : List (List Slip)) → b ≡ audited → IsAudited poll lines audited slips_by_desk → HoldsLines poll lines b
audited_holds poll lines b audited slips_by_desk same by = subst (λ box. HoldsLines poll lines box) (sym same) by.holds

-- the box in which the votes of the inputs were counted, by its witness
pub counted_in : (inputs : Inputs) (taken : TakenVotes) (sealed : SealedState) → sealed ≡ taken.audited → AreTaken inputs taken → IsCountedIn inputs sealed
counted_in inputs taken sealed same by = subst (IsCountedIn inputs) (sym same) (record {
  poll = taken.poll;
  meant = by.poll;
  audited = subst (λ lines. IsAuditedFor taken.poll lines taken.audited) by.ballots.lines by.ballots.audited;
  desks = by.ballots.desks;
  rising = by.ballots.rising;
})
