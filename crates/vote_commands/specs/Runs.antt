-- What stops a run, and what it has written then. A run that did not come to its end was stopped by a fault.
use Rattle.std.specs.Prelude.{◌≡◌, ◌⊎◌, List, Option, Some, None, Result, Ok, Err, IfOk, string_bytes}
use Rattle.std.specs.declared.string.String.{String}
use Rattle.std.specs.Io.KnownBytes.{Appends, Keeps}
use Rattle.vote_poll.specs.PollContent.{PollContent}
use Rattle.vote_poll.specs.PollFile.{poll_in}
use Rattle.vote_poll.specs.declared.PollFault.{PollFault}
use Rattle.vote_poll_text.specs.Lines.{HasTooManyLines, lines_of}
use Rattle.vote_files.specs.Device.{AppendsPrefix}
use Rattle.vote_sheet.specs.Steps.{IsStepsText, check_text}
use Rattle.vote_sheet.specs.Standing.{standing_text}
use Rattle.vote_poll_text.specs.Texts.{Text}
use Rattle.vote_request.specs.declared.Listing.{Listing}
use Rattle.vote_request.specs.declared.Listing.TheVariants as listing
use Rattle.vote_commands.specs.TextAndEnd.{TextAndEnd}
use Rattle.vote_commands.specs.declared.fault.Ended.{Ended}
use Rattle.vote_commands.specs.declared.fault.RunFault.{RunFault}
use Rattle.vote_commands.specs.declared.fault.RunFault.TheVariants as run

-- ---- what may stop it, in the order of the tests; a fault is due if its test says so, but the faults of votes are allowed
-- nothing more stops it
abbrev pub GoesThrough : Option RunFault → Type 0
GoesThrough stop = stop ≡ None

-- if this is so, this fault stops it; if not, what comes next
abbrev pub StopsWhere : Type 0 → RunFault → (Option RunFault → Type 0) → Option RunFault → Type 0
StopsWhere IsSo fault Next stop = (IsSo × (stop ≡ Some fault)) ⊎ ((¬ IsSo) × Next stop)

-- the fault of a poll file stops it; without a fault, what comes next for the poll
abbrev pub StopsAtPoll : Result PollContent PollFault → (PollContent → Option RunFault → Type 0) → Option RunFault → Type 0
StopsAtPoll (Err fault) Next stop = stop ≡ Some (run.Poll fault)
StopsAtPoll (Ok poll) Next stop = Next poll stop

-- too many lines stop it; if there are not too many, what comes next
abbrev pub StopsAtLines : Text → (Option RunFault → Type 0) → Option RunFault → Type 0
StopsAtLines ballots = StopsWhere (HasTooManyLines ballots) run.TooManyLines

-- what may stop a run: running out of memory, always; its output, if the run may also come to its end; otherwise only what is due or allowed
abbrev pub Stops : (Option RunFault → Type 0) → Option RunFault → Type 0
Stops MayStop (Some run.Memory) = Unit {0}
Stops MayStop (Some run.Output) = MayStop None
Stops MayStop stop = MayStop stop

-- ---- what it writes
-- the text that is meant is written once, and nothing else; if the output fails, a prefix of it; after any other fault, nothing
abbrev pub Writes : (Text → Type 0) → Option Text → Option Text → Option RunFault → Type 0
Writes IsMeant old new None = (text : Text) × IsMeant text × Appends old new text
Writes IsMeant old new (Some run.Output) = (text : Text) × IsMeant text × AppendsPrefix old new text
Writes IsMeant old new (Some fault) = Keeps old new

-- the run is stopped only by what is due or allowed, and otherwise writes what is meant
pub record Runs (MayStop : Option RunFault → Type 0) (IsMeant : Text → Type 0) (old new : Option Text) (stop : Option RunFault) : Type 0 where
  pub stops : Stops MayStop stop
  pub writes : Writes IsMeant old new stop

-- a text and an end are meant together: this is the text, and if the run comes to its end, this is its end
abbrev pub Tells : (TextAndEnd → Type 0) → Result Ended RunFault → Text → Type 0
Tells IsMeant result text = (told : TextAndEnd) × IsMeant told × (text ≡ told.text) × IfOk result (λ end. end ≡ told.end)

-- the bytes of this string are a text that is meant
abbrev pub IsText : {Z : Type 0} → (Text → Type 0) → String Z → Type 0
IsText IsMeant text = IsMeant (string_bytes text)

-- the listing of a poll and its lines
abbrev pub IsListed : Listing → PollContent → List Text → Text → Type 0
IsListed listing.Steps poll lines text = IsStepsText poll lines text
IsListed listing.Standing poll lines text = text ≡ standing_text poll lines

-- the listing of a poll file and a ballot file
abbrev pub IsListing : Listing → Text → Text → Text → Type 0
IsListing listed poll_text ballots text = (poll : PollContent) × (poll_in poll_text ≡ Ok poll) × IsListed listed poll (lines_of ballots) text

-- the text of `check` for a poll file
abbrev pub IsCheck : Text → Text → Type 0
IsCheck poll_text text = (poll : PollContent) × (poll_in poll_text ≡ Ok poll) × (text ≡ check_text poll)
