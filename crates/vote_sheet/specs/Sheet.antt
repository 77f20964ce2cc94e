-- The text of a result sheet.
use Rattle.std.specs.Prelude.{ℕ, zero, suc, ◌+◌, ◌-◌, ◌==◌, Bool, true, false, if◌then◌else◌, nat_lt, List, [], ◌∷◌, ◌++◌, length, replicate, Option, Some, None, codes, decimal}
use Rattle.std.specs.List.{concat}
use Rattle.vote_poll.specs.Options.{at_option}
use Rattle.vote_poll.specs.PollContent.{PollContent, elector_count}
use Rattle.vote_poll.specs.declared.wording.Wording.{Wording}
use Rattle.vote_poll.specs.declared.wording.Wording.TheVariants.{AtLeast, MoreThan}
use Rattle.vote_count.specs.Votes.{Votes, votes}
use Rattle.vote_count.specs.Sets.{has, has_pair, size}
use Rattle.vote_count.specs.Rounds.{VerdictState, cause_of, final_set}
use Rattle.vote_count.specs.declared.Round.{Round}
use Rattle.vote_count.specs.declared.Cause.{Cause}
use Rattle.vote_count.specs.declared.Cause.TheVariants.{Quorum, Majority}
use Rattle.vote_count.specs.declared.Decision.{Decision}
use Rattle.vote_count.specs.declared.Decision.TheVariants.{Winner, Tie, CastingOutside}
pub use Rattle.vote_poll_text.specs.Texts.{Text, line}

-- What a sheet says that its poll does not. Options are numbered from 1, and the last is the default.
pub record Sheet : Type 0 where
  pub quorum_votes : ℕ
  pub valid : ℕ
  pub refused : ℕ
  pub voters : ℕ
  pub matrix : Votes
  pub outcome : VerdictState
  pub decision : Decision

-- ---- pieces

-- the text, with spaces before it up to this width
unfoldable pub right : ℕ → Text → Text
right places text = replicate (places - length text) 32 ++ text

-- the texts of 1 to n, in order
abbrev pub each : ℕ → (ℕ → Text) → Text
each zero text = []
each (suc n) text = each n text ++ text (suc n)

-- the text, if the test holds
abbrev pub when : Bool → Text → Text
when true text = text
when false text = []

-- the lines, or if there are none, a line that says so
abbrev pub or_none : Text → Text
or_none [] = line (codes "  none" ∷ [])
or_none (byte ∷ bytes) = byte ∷ bytes

-- the name of an option
abbrev pub name_of : List Text → ℕ → Text
name_of names o = at_option names o []

-- a space and the number, for each of the options 1 to n that is in the set
abbrev pub numbers : ℕ → List Bool → Text
numbers n set = each n (λ o. when (has set o) (codes " " ++ decimal o))

-- ---- the parts of a sheet, in order

-- the wording of the majority, if it is not the Constitution's
unfoldable pub wording_text : Wording → Text
wording_text AtLeast = []
wording_text MoreThan = line (codes "Majority: more than" ∷ [])

-- the title, the number of electors, the quorum in multiples of Q and in votes that are needed, and the wording
unfoldable pub head_text : Text → ℕ → ℕ → ℕ → Wording → Text
head_text title electors multiple needed wording = concat (
    line (codes "Poll: " ∷ title ∷ [])
    ∷ line (codes "Electors: " ∷ decimal electors ∷ [])
    ∷ line (codes "Quorum: " ∷ decimal multiple ∷ codes "Q, " ∷ decimal needed ∷ codes " votes" ∷ [])
    ∷ wording_text wording
    ∷ [])

-- the number above which a line is late, if the poll has one
unfoldable pub last_text : Option ℕ → Text
last_text None = []
last_text (Some last) = line (codes "Last envelope: " ∷ decimal last ∷ [])

unfoldable pub totals_text : ℕ → Option ℕ → ℕ → ℕ → ℕ → Text
totals_text lines last valid refused voters = concat (
    line (codes "Lines: " ∷ decimal lines ∷ [])
    ∷ last_text last
    ∷ line (codes "Valid: " ∷ decimal valid ∷ [])
    ∷ line (codes "Refused: " ∷ decimal refused ∷ [])
    ∷ line (codes "Voters: " ∷ decimal voters ∷ [])
    ∷ [])

unfoldable pub option_text : List Text → List ℕ → ℕ → Text
option_text names ratios o =
    line (right 3 (decimal o) ∷ codes " ratio " ∷ decimal (at_option ratios o 0) ∷ codes " " ∷ name_of names o ∷ [])

unfoldable pub default_text : List Text → Text
default_text names = line (right 3 (decimal (length names)) ∷ codes " default " ∷ name_of names (length names) ∷ [])

unfoldable pub options_text : List Text → List ℕ → Text
options_text names ratios = concat (
    line (codes "Options:" ∷ [])
    ∷ each (length names - 1) (option_text names ratios)
    ∷ default_text names
    ∷ [])

-- the votes for a over b, or a dash if b is a
unfoldable pub votes_text : Votes → ℕ → ℕ → Text
votes_text matrix a b = right 6 (if a == b then codes "-" else decimal (votes matrix a b))

unfoldable pub row_text : Votes → ℕ → Text
row_text matrix a = line (right 3 (decimal a) ∷ each matrix.options (votes_text matrix a) ∷ [])

unfoldable pub column_text : ℕ → Text
column_text b = right 6 (decimal b)

unfoldable pub table_head_text : ℕ → Text
table_head_text n = line (codes "Votes:" ∷ []) ++ line (codes "   " ∷ each n column_text ∷ [])

unfoldable pub table_text : Votes → Text
table_text matrix = table_head_text matrix.options ++ each matrix.options (row_text matrix)

abbrev pub cause_name : Cause → Text
cause_name Quorum = codes "quorum"
cause_name Majority = codes "majority"

-- the line of an option that is dropped from consideration, with the cause
unfoldable pub dropped_line : ℕ → Option Cause → Text
dropped_line o None = []
dropped_line o (Some cause) = line (right 3 (decimal o) ∷ codes " " ∷ cause_name cause ∷ [])

unfoldable pub causes_text : ℕ → VerdictState → Text
causes_text n outcome = each n (λ o. dropped_line o (cause_of outcome o))

-- the options that are dropped
unfoldable pub dropped_text : ℕ → VerdictState → Text
dropped_text n outcome = line (codes "Dropped:" ∷ []) ++ or_none (causes_text n outcome)

unfoldable pub defeat_line : Votes → ℕ → ℕ → Text
defeat_line matrix a b = line (
    right 3 (decimal a) ∷ codes " over " ∷ decimal b
    ∷ codes " by " ∷ decimal (votes matrix a b) ∷ codes " to " ∷ decimal (votes matrix b a) ∷ [])

-- the line of the defeat of b by a, if there is one
abbrev pub defeat_text : Votes → List (List Bool) → ℕ → ℕ → Text
defeat_text matrix defeats a b = when (has_pair defeats a b) (defeat_line matrix a b)

unfoldable pub defeats_by : Votes → List (List Bool) → ℕ → Text
defeats_by matrix defeats a = each matrix.options (defeat_text matrix defeats a)

unfoldable pub defeat_lines : Votes → List (List Bool) → Text
defeat_lines matrix defeats = each matrix.options (defeats_by matrix defeats)

unfoldable pub defeats_text : Votes → List (List Bool) → Text
defeats_text matrix defeats = line (codes "Defeats:" ∷ []) ++ or_none (defeat_lines matrix defeats)

-- the line for a defeat of b by a that a round drops from the list of defeats
unfoldable pub drop_line : ℕ → ℕ → Text
drop_line a b = line (codes "  drop " ∷ decimal a ∷ codes " over " ∷ decimal b ∷ [])

-- the defeats by a that a round drops
unfoldable pub drops_of : ℕ → List (List Bool) → ℕ → Text
drops_of n removed a = each n (λ b. when (has_pair removed a b) (drop_line a b))

-- the round with this number, for n options
unfoldable pub round_text : ℕ → ℕ → Round → Text
round_text n number round =
    line (codes "Round " ∷ decimal number ∷ codes ":" ∷ numbers n round.set ∷ []) ++ each n (drops_of n round.removed)

-- the rounds; the first has this number
abbrev pub rounds_from : ℕ → ℕ → List Round → Text
rounds_from n number [] = []
rounds_from n number (round ∷ rounds) = round_text n number round ++ rounds_from n (number + 1) rounds

-- the casting vote decides only among several options
unfoldable pub casting_note : List Bool → Text
casting_note set = when (nat_lt 1 (size set)) (codes " by casting vote")

unfoldable pub winner_text : List Text → List Bool → ℕ → Text
winner_text names set o = concat (codes "Winner: " ∷ decimal o ∷ codes " " ∷ name_of names o ∷ casting_note set ∷ [])

unfoldable pub tie_text : ℕ → List Bool → Text
tie_text n set = codes "Tie:" ++ numbers n set

-- what the last line says about the decision
abbrev pub ending : List Text → List Bool → Decision → Text
ending names set (Winner o) = winner_text names set o
ending names set Tie = tie_text (length names) set
ending names set (CastingOutside c) =
    concat (tie_text (length names) set ∷ codes ", casting option " ∷ decimal c ∷ codes " is not among them" ∷ [])

-- how the final set is decided
unfoldable pub decision_text : List Text → List Bool → Decision → Text
decision_text names set decision = line (ending names set decision ∷ [])

-- the result of the votes, before the decision
unfoldable pub counted_text : ℕ → Votes → VerdictState → Text
counted_text n matrix outcome = concat (
    table_text matrix
    ∷ dropped_text n outcome
    ∷ defeats_text matrix outcome.defeats
    ∷ rounds_from n 1 outcome.rounds
    ∷ [])

-- the same, with the decision
unfoldable pub count_text : List Text → Votes → VerdictState → Decision → Text
count_text names matrix outcome decision = counted_text (length names) matrix outcome ++ decision_text names (final_set outcome.rounds) decision

-- the whole sheet
abbrev pub sheet_text : PollContent → List Text → Sheet → Text
sheet_text poll lines s = concat (
    head_text poll.title (elector_count poll) poll.quorum_multiple s.quorum_votes poll.wording
    ∷ totals_text (length lines) poll.last_envelope s.valid s.refused s.voters
    ∷ options_text poll.options poll.ratios
    ∷ count_text poll.options s.matrix s.outcome s.decision
    ∷ [])
