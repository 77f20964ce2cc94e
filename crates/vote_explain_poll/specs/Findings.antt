-- The text of all that is wrong with a poll file: a line for each fault, and then one for each key that is not read. What a line says
-- after the words of its fault is a hint; what after the path of its key, a remark.
use Rattle.std.specs.Prelude.{◌≡◌, ◌⊎◌, ℕ, ◌==◌, ◌||◌, Bool, true, false, nat_lt, List, [], ◌∷◌, ◌++◌, Result, Ok, Err, codes, decimal, length, option_map, unwrap_or}
use Rattle.std.specs.List.{concat}
use Rattle.toml.specs.Data.{Members}
use Rattle.vote_poll_text.specs.Lines.{line_feed}
use Rattle.vote_poll_text.specs.Shown.{shown}
use Rattle.vote_poll.specs.PollFaults.{faults_in}
use Rattle.vote_poll.specs.declared.TheConstants.{MAX_ELECTORS, MAX_QUORUM_MULTIPLE}
use Rattle.vote_poll.specs.Quorum.{AreTimesQ}
use Rattle.vote_poll_keys.specs.KeyFaults.{FoundKeys, found_in}
use Rattle.vote_poll_keys.specs.FaultWords.{fault_words}
use Rattle.vote_poll_keys.specs.declared.fault.PollFault.{PollFault}
use Rattle.vote_poll_keys.specs.declared.fault.PollFault.TheVariants as fault
use Rattle.vote_poll_keys.specs.declared.fault.PollKey.TheVariants as key
use Rattle.vote_hints.specs.Hints.{AreLinesFor, IsExcerpt, IsHintLine, hint_line}
use Rattle.vote_explain_poll.specs.UnreadKeys.{IsKeyRemark, KeyPlace, path_of, unread_in}
use Rattle.vote_hints.specs.declared.TheConstants.{MAX_SHOWN}
use Rattle.vote_explain_poll.specs.Syntax.{IsSyntaxFinding}

-- ---- what is said of a quorum
-- how many names stand on the roll that was found; 0 if none was found
abbrev pub size_of_roll : FoundKeys → ℕ
size_of_roll keys = unwrap_or (option_map (λ roll. length roll) keys.roll) 0

abbrev pub what_a_quorum_is : List ℕ
what_a_quorum_is = concat (
    codes "; a quorum is a whole number from 0 to " ∷ decimal MAX_QUORUM_MULTIPLE ∷ codes ": how many times Q is needed, half the square root of the number of electors" ∷ [])

abbrev pub votes_needed : ℕ → ℕ → ℕ → List ℕ
votes_needed electors least greatest = concat (
    codes "; with a roll of " ∷ decimal electors ∷ codes ", the votes needed are " ∷ decimal least ∷ codes " for 1 and " ∷ decimal greatest ∷ codes " for "
    ∷ decimal MAX_QUORUM_MULTIPLE ∷ [])

-- if no roll has this size, what a quorum is, and else the votes needed too: first those for 1, then those for the greatest quorum
abbrev pub IsSaidOfSize : Bool → ℕ → List ℕ → Type 0
IsSaidOfSize true electors text = text ≡ what_a_quorum_is
IsSaidOfSize false electors text =
    (least : ℕ) × (greatest : ℕ) × AreTimesQ 1 electors least × AreTimesQ MAX_QUORUM_MULTIPLE electors greatest × (text ≡ what_a_quorum_is ++ votes_needed electors least greatest)

abbrev pub IsSaidOfQuorum : ℕ → List ℕ → Type 0
IsSaidOfQuorum electors text = IsSaidOfSize (electors == 0 || nat_lt MAX_ELECTORS electors) electors text

-- some words, and then what is said of a quorum
abbrev pub EndsWithQuorum : ℕ → List ℕ → Type 0
EndsWithQuorum electors words = (found : List ℕ) × (quorum : List ℕ) × IsSaidOfQuorum electors quorum × (words ≡ found ++ quorum)

-- The words on a fault of a poll with a roll of this size. All but those on a quorum are open.
abbrev pub IsSaidOfFault : ℕ → PollFault → List ℕ → Type 0
IsSaidOfFault electors fault.Quorum words = EndsWithQuorum electors words
IsSaidOfFault electors (fault.Key key.Quorum) words = EndsWithQuorum electors words
IsSaidOfFault electors other words = Unit {0}

-- ---- lines
-- nothing, or an excerpt of a file
abbrev pub IsLineShown : List ℕ → Type 0
IsLineShown text = (text ≡ []) ⊎ IsExcerpt text

-- the line of a fault, whose words are a hint, and the line of the file, if its key is there
abbrev pub SaysFault : ℕ → PollFault → List ℕ → Type 0
SaysFault electors e text =
    (words : List ℕ) × (shown : List ℕ) × IsSaidOfFault electors e words × IsHintLine (hint_line words) × IsLineShown shown
    × (text ≡ codes "poll: " ++ fault_words e ++ codes ": " ++ hint_line words ++ shown)

abbrev pub key_head : List ℕ → List ℕ
key_head path = codes "poll: key " ++ shown MAX_SHOWN path ++ codes " is not read"

abbrev pub SaysKey : Members → KeyPlace → List ℕ → Type 0
SaysKey file place line = (remark : List ℕ) × IsKeyRemark file place.name remark × (line ≡ key_head (path_of place) ++ remark ++ line_feed)

-- the findings of a table with these faults
abbrev pub AreFindings : List PollFault → Members → List ℕ → Type 0
AreFindings faults table text =
    (lines : List ℕ) × (keys : List ℕ) × AreLinesFor (SaysFault (size_of_roll (found_in table))) faults lines × AreLinesFor (SaysKey table) (unread_in [] table) keys × (text ≡ lines ++ keys)

-- the findings of a poll file whose table, or whose only fault, is this
abbrev pub AreFindingsOf : List ℕ → Result Members PollFault → List ℕ → Type 0
AreFindingsOf poll (Ok table) text = AreFindings (faults_in (Ok table)) table text
AreFindingsOf poll (Err e) text = IsSyntaxFinding poll text
