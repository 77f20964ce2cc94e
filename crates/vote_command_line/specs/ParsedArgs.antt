-- The request of a command line, from what `clap` found in its words.
use Rattle.std.specs.Prelude.{◌≡◌, ◌≢◌, ◌≤◌, ◌⊎◌, ℕ, Bool, ◌||◌, if◌then◌else◌, List, Option, Some, None, codes, nat_eq, option_and_then, option_copied}
use Rattle.std.specs.List.{starts_with}
use Rattle.std.specs.Str.{bytes_eq}
use Rattle.std.proofs.Common.{Bor}
use Rattle.std.specs.Str.Parse.{IsNumeral, digits_value, without_leading_plus}
use Rattle.clap.specs.Words.{Row, Text, first_of, one_of}
use Rattle.clap.specs.Kinds.{IsAmong, Kinds}
use Rattle.clap.specs.declared.error.kind.ErrorKind.{ErrorKind}
use Rattle.clap.specs.declared.error.kind.ErrorKind.TheVariants as kind
use Rattle.vote_command_line.specs.declared.command_line.ArgsFault.{ArgsFault}
use Rattle.vote_command_line.specs.declared.command_line.ArgsFault.TheVariants.{Help, Refused, NotUtf8, Memory}
use Rattle.vote_request.specs.declared.TheConstants.{MAX_DESKS}
use Rattle.vote_request.specs.declared.Listing.{Listing}
use Rattle.vote_request.specs.declared.Listing.TheVariants as listing
use Rattle.vote_request.specs.declared.Purpose.{Purpose}
use Rattle.vote_request.specs.declared.Purpose.TheVariants as purpose
use Rattle.vote_request.specs.declared.Request.{Request}
use Rattle.vote_request.specs.declared.Request.TheVariants as request

-- a request on files by their names
abbrev pub NamedRequest : Type 0
NamedRequest = Request (Bor Text)

-- the subcommand's option with this name has this value
abbrev pub HasText : List Row → Text → Text → Type 0
HasText rows name text = first_of name rows ≡ Some text

-- the value is in decimal digits; a plus may come before them
abbrev pub HasNumber : List Row → Text → ℕ → Type 0
HasNumber rows name n = (text : Text) × (one_of name rows ≡ Some text) × IsNumeral 10 (without_leading_plus text) × (n ≡ digits_value 10 (without_leading_plus text))

abbrev pub HasDesks : List Row → ℕ → Type 0
HasDesks rows desks = (1 ≤ desks) × (desks ≤ MAX_DESKS) × HasNumber rows (codes "desks") desks

-- a later command might read other bytes under this name: it is a stream; or it is `-`, which is a file for debvote, but standard input for other programs
abbrev pub is_stream : Text → Bool
is_stream name = bytes_eq name (codes "-") || bytes_eq name (codes "/dev/stdin") || starts_with nat_eq name (codes "/dev/fd/")

-- the name; None if it is a stream
abbrev pub told_name : Text → Option Text
told_name name = if is_stream name then None else Some name

-- the name of the subcommand that makes the request
abbrev pub purpose_name : {T : Type 0} → Purpose T → Text
purpose_name purpose.Sheet = codes "count"
purpose_name purpose.Picture = codes "picture"
purpose_name (purpose.Verification sheet) = codes "verify"

abbrev pub listing_name : Listing → Text
listing_name listing.Steps = codes "steps"
listing_name listing.Standing = codes "standing"

abbrev pub subcommand_name : NamedRequest → Text
subcommand_name (request.Count poll ballots desks casting made_for) = purpose_name made_for
subcommand_name (request.List poll ballots listed) = listing_name listed
subcommand_name (request.Check poll) = codes "check"
subcommand_name (request.Explain poll ballots file poll_name) = codes "explain"

-- the purpose of a count that compares no sheet
abbrev pub IsPrinted : {T : Type 0} → Purpose T → Type 0
IsPrinted (purpose.Verification sheet) = ⊥
IsPrinted printed = Unit {0}

-- the values that a count has for its purpose: the option of the casting vote, or the sheet that is compared
abbrev pub HasPurpose : List Row → Option Text → Purpose (Bor Text) → Type 0
HasPurpose rows casting (purpose.Verification sheet) = (casting ≡ None) × HasText rows (codes "sheet") sheet.now
HasPurpose rows casting printed = casting ≡ first_of (codes "casting") rows

-- the request has the values of the subcommand's options
abbrev pub HasValues : List Row → NamedRequest → Type 0
HasValues rows (request.Count poll ballots desks casting made_for) =
    HasText rows (codes "poll") poll.now × HasText rows (codes "ballots") ballots.now × HasDesks rows desks × HasPurpose rows (option_copied casting) made_for
HasValues rows (request.List poll ballots listed) = HasText rows (codes "poll") poll.now × HasText rows (codes "ballots") ballots.now
HasValues rows (request.Check poll) = HasText rows (codes "poll") poll.now
HasValues rows (request.Explain poll ballots file poll_name) =
    let given = first_of (codes "ballots") rows in
    HasText rows (codes "poll") poll.now × (option_copied ballots ≡ given) × (option_copied file ≡ option_and_then told_name given)
    × (option_copied poll_name ≡ told_name poll.now)

-- this is the request of the subcommand with the values of its options; None if no request has them
abbrev pub IsRequestOf : Text → List Row → Option NamedRequest → Type 0
IsRequestOf name rows (Some request) = (subcommand_name request ≡ name) × HasValues rows request
IsRequestOf name rows None = (request : NamedRequest) → subcommand_name request ≡ name → HasValues rows request → ⊥

-- the subcommand that was given makes this request
abbrev pub IsSubcommandOf : Option (Text × List Row) → NamedRequest → Type 0
IsSubcommandOf subcommand request = (rows : List Row) × (subcommand ≡ Some (subcommand_name request, rows)) × HasValues rows request

-- the subcommand makes no request
abbrev pub IsSubcommandOfNone : Option (Text × List Row) → Type 0
IsSubcommandOfNone subcommand = (request : NamedRequest) → IsSubcommandOf subcommand request → ⊥

-- the kinds of `clap` that ask for help
abbrev pub AsksForHelp : ErrorKind → Type 0
AsksForHelp k = (k ≡ kind.DisplayHelp) ⊎ (k ≡ kind.DisplayVersion)

-- the kinds that refuse the words
abbrev pub IsRefusal : ErrorKind → Type 0
IsRefusal k = (k ≢ kind.DisplayHelp) × (k ≢ kind.DisplayVersion) × (k ≢ kind.OutOfMemory)

-- what is returned for an error of this kind
abbrev pub IsFaultOfKind : ErrorKind → ArgsFault → Type 0
IsFaultOfKind k (Help text) = AsksForHelp k
IsFaultOfKind k (Refused text) = IsRefusal k
IsFaultOfKind k NotUtf8 = ⊥
IsFaultOfKind k Memory = k ≡ kind.OutOfMemory

-- the words can have this fault: help only if they ask for it; a refusal only if `clap` finds a fault in them, or no request has
-- the values that it finds; `NotUtf8` never
abbrev pub IsArgsFault : Kinds → Option (Text × List Row) → ArgsFault → Type 0
IsArgsFault kinds subcommand (Help text) = (k : ErrorKind) × AsksForHelp k × IsAmong k kinds
IsArgsFault kinds subcommand (Refused text) = ((k : ErrorKind) × IsRefusal k × IsAmong k kinds) ⊎ IsSubcommandOfNone subcommand
IsArgsFault kinds subcommand NotUtf8 = ⊥
IsArgsFault kinds subcommand Memory = Unit {0}
