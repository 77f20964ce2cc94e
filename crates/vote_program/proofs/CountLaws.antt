-- The files and the casting vote leave one sheet and one status.
use Rattle.std.proofs.Common.{◌≡◌, ◌⊎◌, ◌∙◌, ◌++◌, ◌∷◌, [], ap, arith, Err, inl, inr, ℕ, List, Ok, Option, refl, Result, Some, subst, sym}
use Rattle.vote_poll_text.specs.Lines.{lines_of}
use Rattle.vote_poll.specs.PollContent.{PollContent}
use Rattle.vote_poll.specs.PollFile.{poll_in}
use Rattle.vote_poll.specs.declared.PollFault.{PollFault}
use Rattle.vote_desks_box.specs.declared.DeskFault.TheVariants as desk
use Rattle.vote_audit.specs.declared.VoteFault.{VoteFault}
use Rattle.vote_audit.specs.declared.VoteFault.TheVariants as vote
use Rattle.vote_sheet.specs.SheetOf.{IsSheet, SheetIsUnique}
use Rattle.vote_poll_text.specs.Texts.{Text}
use Rattle.vote_request.specs.declared.Purpose.TheVariants as purpose
use Rattle.vote_commands.specs.Counting.{IsCountFor, casting_option, ended_by_decision}
use Rattle.vote_commands.specs.Inputs.{Inputs}
use Rattle.vote_commands.specs.OneText.{CountsHaveOneText}
use Rattle.vote_commands.specs.Status.{fault_status, status}
use Rattle.vote_commands.specs.TakingVotes.{Taking}
use Rattle.vote_commands.specs.TextAndEnd.{TextAndEnd}
use Rattle.vote_commands.specs.declared.RunFault.TheVariants as run
use Rattle.vote_program.specs.CountEnds.{EndsAsCounted, EndsAsDecided, EndsWhere, IsDue, IsDueOrStopped, IsStopped}
use Rattle.vote_program.specs.CountLaws.{CountsAskForSheet, KnownEndsAreKept, KnownSheetsAreWritten, StoppedCountsEndSo}
use Rattle.vote_program.specs.SheetOfFiles.{IsSheetOfFiles}

pub counts_ask : CountsAskForSheet
counts_ask file_bytes words poll_name ballots_name desks option_name poll ballots asks poll_is ballots_are = record {
  poll_name = poll_name;
  ballots_name = ballots_name;
  option_name = option_name;
  desks = desks;
  request = asks;
  poll_is = poll_is;
  ballots_are = ballots_are;
  casting_is = refl;
}

-- ---- one sheet
one_poll : (read : Result PollContent PollFault) (poll other : PollContent) → read ≡ Ok poll → read ≡ Ok other → poll ≡ other
one_poll read poll other is is_other = cc

one_sheet : SheetIsUnique → (poll ballots : Text) (casting : Option Text) (answered : ℕ) (sheet other : Text) → IsSheetOfFiles poll ballots casting answered sheet
    → IsSheetOfFiles poll ballots casting answered other → sheet ≡ other
one_sheet unique poll ballots casting answered sheet other is is_other =
    let same = one_poll (poll_in poll) is_other.poll is.poll is_other.meant is.meant in
    let printed = is.is_sheet in
    let again = is_other.is_sheet in
    unique is.poll (lines_of ballots) (casting_option is.poll casting) sheet other (printed.0, printed.1, printed.2)
    (subst (λ p. IsSheet p (lines_of ballots) (casting_option p casting) other) same (again.0, again.1, again.2))

pub known_sheets : SheetIsUnique → KnownSheetsAreWritten
known_sheets unique file_bytes made words written errors answered poll ballots before sheet casting asked old few is writes =
    let told = writes poll ballots before casting asked old few in
    let same = one_sheet unique poll ballots casting answered told.0 sheet told.1 is in
    (told.2 ∙ ap (λ text. Some (before ++ text)) same, told.3, told.4, told.5)

-- ---- one status
one_end : (IsSo : Type 0) (with : ℕ) (Next : ℕ → Type 0) → ((a b : ℕ) → Next a → Next b → a ≡ b) → (a b : ℕ) → EndsWhere IsSo with Next a → EndsWhere IsSo with Next b → a ≡ b
one_end IsSo with Next once a b (inl due) (inl other) = due.1 ∙ sym other.1
one_end IsSo with Next once a b (inl due) (inr other) = absurd (other.0 due.0)
one_end IsSo with Next once a b (inr next) (inl other) = absurd (next.0 other.0)
one_end IsSo with Next once a b (inr next) (inr other) = once a b next.1 other.1

module _ (one_text : CountsHaveOneText) (poll_text ballots : Text) (casting : Option Text) where
  abbrev inputs : Inputs
  inputs = record { poll = poll_text; ballots = ballots; desks = 1; casting = casting }

  counted : (poll : PollContent) → poll_in poll_text ≡ Ok poll → (answered : ℕ) → EndsAsDecided poll (lines_of ballots) casting answered
      → (told : TextAndEnd) × IsCountFor purpose.Sheet inputs told × (answered ≡ status (Ok told.end))
  counted poll meant answered ends =
      (record { text = ends.0; end = ended_by_decision ends.1 }, (poll, meant, (ends.1, ends.2, refl)), ends.3)

  decided_once : (poll : PollContent) → poll_in poll_text ≡ Ok poll → (a b : ℕ) → EndsAsDecided poll (lines_of ballots) casting a → EndsAsDecided poll (lines_of ballots) casting b → a ≡ b
  decided_once poll meant a b ends other =
      let one = one_text purpose.Sheet inputs poll meant in
      let first = counted poll meant a ends in
      let second = counted poll meant b other in
      first.2 ∙ ap (λ (told : TextAndEnd). status (Ok told.end)) (one.2 first.0 first.1 ∙ sym (one.2 second.0 second.1)) ∙ sym second.2

  counted_once : (meaning : Result PollContent PollFault) → poll_in poll_text ≡ meaning → (a b : ℕ) → EndsAsCounted meaning ballots casting a → EndsAsCounted meaning ballots casting b → a ≡ b
  counted_once (Err fault) meant a b ends other = ends ∙ sym other
  counted_once (Ok poll) meant a b ends other = one_end _ 8 _ (one_end _ 4 _ (decided_once poll meant)) a b ends other

  due_once : (a b : ℕ) → IsDue poll_text ballots casting a → IsDue poll_text ballots casting b → a ≡ b
  due_once a b due other = one_end _ 3 _ (one_end _ 4 _ (counted_once (poll_in poll_text) refl)) a b due other

kept : CountsHaveOneText → (Takes : Taking) (poll ballots : Text) (casting : Option Text) (due answered : ℕ) → IsDue poll ballots casting due → IsDueOrStopped Takes poll ballots casting answered
    → (answered ≡ due) ⊎ IsStopped Takes poll ballots answered
kept one_text Takes poll ballots casting due answered is (inl ends) = inl (due_once one_text poll ballots casting answered due ends is)
kept one_text Takes poll ballots casting due answered is (inr stopped) = inr stopped

pub known_ends : CountsHaveOneText → (Takes : Taking) → KnownEndsAreKept Takes
known_ends one_text Takes file_bytes words poll ballots casting due answered asked is ends =
    kept one_text Takes poll ballots casting due answered is (ends poll ballots casting asked)

-- ---- a count that is stopped
of_votes : (fault : VoteFault) → (fault_status (run.Vote fault) ≡ 5) ⊎ (fault_status (run.Vote fault) ≡ 6)
of_votes vote.Memory = inl refl
of_votes vote.Thread = inl refl
of_votes (vote.Desk desk.Memory) = inl refl
of_votes fault = inr refl

by_votes : (fault : VoteFault) (answered : ℕ) → answered ≡ fault_status (run.Vote fault) → (fault_status (run.Vote fault) ≡ 5) ⊎ (fault_status (run.Vote fault) ≡ 6)
    → (answered ≡ 5) ⊎ (answered ≡ 6) ⊎ (answered ≡ 7)
by_votes fault answered is (inl five) = inl (is ∙ five)
by_votes fault answered is (inr six) = inr (inl (is ∙ six))

pub stopped_so : (Takes : Taking) → StoppedCountsEndSo Takes
stopped_so Takes poll ballots answered (inl five) = inl five
stopped_so Takes poll ballots answered (inr (inl seven)) = inr (inr seven)
stopped_so Takes poll ballots answered (inr (inr votes)) = by_votes votes.2 answered votes.5 (of_votes votes.2)
