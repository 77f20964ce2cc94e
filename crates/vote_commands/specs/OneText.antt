-- Each command but `explain` has one text for the bytes of its files, if the poll file means a poll.
use Rattle.std.specs.Prelude.{◌≡◌, Ok}
use Rattle.std.proofs.Common.{Bor}
use Rattle.vote_poll.specs.PollContent.{PollContent}
use Rattle.vote_poll.specs.PollFile.{poll_in}
use Rattle.vote_poll_text.specs.Texts.{Text}
use Rattle.vote_request.specs.declared.Listing.{Listing}
use Rattle.vote_request.specs.declared.Purpose.{Purpose}
use Rattle.vote_commands.specs.Counting.{IsCountFor}
use Rattle.vote_commands.specs.Inputs.{Inputs}
use Rattle.vote_commands.specs.Runs.{IsCheck, IsListing}
use Rattle.vote_commands.specs.TextAndEnd.{TextAndEnd}

-- a law: a count of these inputs has a text and an end for each purpose, and no other
abbrev pub CountsHaveOneText : Type 0
CountsHaveOneText = (purpose : Purpose (Bor Text)) (inputs : Inputs) (poll : PollContent) → poll_in inputs.poll ≡ Ok poll
    → (told : TextAndEnd) × IsCountFor purpose inputs told × ((other : TextAndEnd) → IsCountFor purpose inputs other → other ≡ told)

-- a law: a poll file and a ballot file have a listing of each kind, and no other
abbrev pub ListingsHaveOneText : Type 0
ListingsHaveOneText = (listing : Listing) (poll_text ballots : Text) (poll : PollContent) → poll_in poll_text ≡ Ok poll
    → (text : Text) × IsListing listing poll_text ballots text × ((other : Text) → IsListing listing poll_text ballots other → other ≡ text)

-- a law: a poll file has a text of `check`, and no other
abbrev pub ChecksHaveOneText : Type 0
ChecksHaveOneText = (poll_text : Text) (poll : PollContent) → poll_in poll_text ≡ Ok poll
    → (text : Text) × IsCheck poll_text text × ((other : Text) → IsCheck poll_text other → other ≡ text)
