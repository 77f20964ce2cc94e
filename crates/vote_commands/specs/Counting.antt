-- Why a count is refused, what it returns, and how it ends.
use Rattle.std.specs.Prelude.{◌≡◌, ◌≢◌, ◌+◌, ℕ, List, All, length, Option, Some, None, option_map, IfSome, Ok}
use Rattle.std.proofs.Common.{Bor}
use Rattle.vote_count.specs.declared.Decision.{Decision}
use Rattle.vote_count.specs.declared.Decision.TheVariants as decision
use Rattle.vote_poll_text.specs.Lines.{lines_of}
use Rattle.vote_poll.specs.Names.{place_of}
use Rattle.vote_poll.specs.Options.{IsOption}
use Rattle.vote_poll.specs.PollContent.{PollContent, option_count}
use Rattle.vote_poll.specs.PollFile.{poll_in}
use Rattle.vote_desks_box.specs.Desks.{SealedState}
use Rattle.vote_desks_box.specs.Slips.{Rises}
use Rattle.vote_audit.specs.Audit.{IsAuditedFor}
use Rattle.vote_audit.specs.declared.VoteFault.TheVariants as vote
use Rattle.vote_sheet.specs.Picture.{IsPictureAndDecision}
use Rattle.vote_sheet.specs.SheetOf.{IsSheetAndDecision}
use Rattle.vote_poll_text.specs.Texts.{Text}
use Rattle.vote_sheet.specs.Verify.{AreVerificationWords, IsVerification}
use Rattle.vote_sheet.specs.declared.Verification.{Verification}
use Rattle.vote_sheet.specs.declared.Verification.TheVariants as verification
use Rattle.vote_commands.specs.Inputs.{Inputs}
use Rattle.vote_commands.specs.Runs.{GoesThrough, StopsAtLines, StopsAtPoll, StopsWhere}
use Rattle.vote_commands.specs.TakingVotes.{StopsVotes, Taking}
use Rattle.vote_commands.specs.TextAndEnd.{TextAndEnd}
use Rattle.vote_commands.specs.declared.fault.Ended.{Ended}
use Rattle.vote_commands.specs.declared.fault.Ended.TheVariants as ended
use Rattle.vote_request.specs.declared.Purpose.{Purpose}
use Rattle.vote_request.specs.declared.Purpose.TheVariants as purpose
use Rattle.vote_commands.specs.declared.fault.RunFault.{RunFault}
use Rattle.vote_commands.specs.declared.fault.RunFault.TheVariants as run

-- the option that a casting vote names, if there is a casting vote; a name that no option has stops the count (NamesNoOption)
abbrev pub casting_option : PollContent → Option Text → Option ℕ
casting_option poll None = None
casting_option poll (Some name) = option_map (λ place. place + 1) (place_of name poll.options)

-- a casting vote that names no option
abbrev pub NamesNoOption : PollContent → Option Text → Type 0
NamesNoOption poll None = ⊥
NamesNoOption poll (Some name) = place_of name poll.options ≡ None

-- the option of this poll that a casting vote names, if there is a casting vote
pub record IsNamed (poll : PollContent) (named : Option Text) (option : Option ℕ) : Type 0 where
  pub is_one : ¬ NamesNoOption poll named
  pub option_is : option ≡ casting_option poll named
  pub range : IfSome option (IsOption (option_count poll))

-- both are allowed: the votes are taken, or they are stopped by a fault by which the call that takes them may stop them
abbrev pub StopsAtVotes : Taking → ℕ → PollContent → List Text → Option RunFault → Type 0
StopsAtVotes Takes desks poll lines (Some (run.Vote fault)) = (fault ≢ vote.Memory) × StopsVotes Takes poll lines desks fault
StopsAtVotes Takes desks poll lines stop = GoesThrough stop

-- a count is stopped by its poll, by a casting vote that names no option, by too many lines, or by its votes, in this order
abbrev pub StopsCount : Taking → Inputs → Option RunFault → Type 0
StopsCount Takes inputs =
    StopsAtPoll (poll_in inputs.poll) (λ poll.
    StopsWhere (NamesNoOption poll inputs.casting) run.NoSuchOption (StopsAtLines inputs.ballots (StopsAtVotes Takes inputs.desks poll (lines_of inputs.ballots))))

-- how a count with this decision ends
abbrev pub ended_by_decision : Decision → Ended
ended_by_decision (decision.Winner option) = ended.Decided option
ended_by_decision decision.Tie = ended.Tie
ended_by_decision (decision.CastingOutside option) = ended.CastingOutside option

-- how a comparison with a published sheet ends: the sheet differs, or it is a sheet of the count
abbrev pub ended_by_verification : Verification → Ended
ended_by_verification verification.Differs = ended.Differs
ended_by_verification verification.Matches = ended.Done
ended_by_verification (verification.MatchesCasting option) = ended.Done

-- this is an audited box of the inputs' lines, with a list of slips for each of their desks, and the stamps in each list rise
pub record IsCountedIn (inputs : Inputs) (sealed : SealedState) : Type 0 where
  pub poll : PollContent
  pub meant : poll_in inputs.poll ≡ Ok poll
  pub audited : IsAuditedFor poll (lines_of inputs.ballots) sealed
  pub desks : length sealed.slips_by_desk ≡ inputs.desks
  pub rising : All Rises sealed.slips_by_desk

-- the text and the end of a count for this purpose, of the poll, the lines and the option of the casting vote
abbrev pub IsMade : Purpose (Bor Text) → PollContent → List Text → Option ℕ → TextAndEnd → Type 0
IsMade purpose.Picture poll lines casting told =
    (decision : Decision) × IsPictureAndDecision poll lines casting told.text decision × (told.end ≡ ended_by_decision decision)
IsMade purpose.Sheet poll lines casting told =
    (decision : Decision) × IsSheetAndDecision poll lines casting told.text decision × (told.end ≡ ended_by_decision decision)
IsMade (purpose.Verification sheet) poll lines casting told =
    (verification : Verification) × IsVerification poll lines sheet.now verification
    × AreVerificationWords poll lines sheet.now verification told.text × (told.end ≡ ended_by_verification verification)

-- the text and the end of a count for this purpose, from the bytes of both files
abbrev pub IsCountFor : Purpose (Bor Text) → Inputs → TextAndEnd → Type 0
IsCountFor made_for inputs told =
    (poll : PollContent) × (poll_in inputs.poll ≡ Ok poll) × IsMade made_for poll (lines_of inputs.ballots) (casting_option poll inputs.casting) told
