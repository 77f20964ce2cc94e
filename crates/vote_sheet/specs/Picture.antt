-- The text of a picture: the outcome of a sheet as a graph, in the language of Graphviz.
use Rattle.std.specs.Prelude.{◌≡◌, ℕ, ◌+◌, Bool, ◌==◌, ◌||◌, if◌then◌else◌, List, [], ◌∷◌, ◌++◌, length, Ok, Option, Some, None, codes, decimal, string_bytes}
use Rattle.std.specs.List.{concat, flat_map}
use Rattle.std.specs.declared.string.String.{String}
use Rattle.vote_count.specs.Votes.{Votes, votes}
use Rattle.vote_count.specs.Sets.{has, has_pair}
use Rattle.vote_count.specs.Rounds.{VerdictState, cause_of, final_set}
use Rattle.vote_count.specs.declared.Round.{Round}
use Rattle.vote_count.specs.declared.Cause.{Cause}
use Rattle.vote_count.specs.declared.Decision.{Decision}
use Rattle.vote_count.specs.declared.Decision.TheVariants.{Winner}
use Rattle.vote_poll.specs.PollContent.{PollContent}
use Rattle.vote_poll.specs.PollFile.{poll_in}
use Rattle.vote_sheet.specs.Sheet.{Sheet, cause_name, each, name_of, when}
use Rattle.vote_sheet.specs.SheetOf.{IsSheetOf}
use Rattle.vote_poll_text.specs.Texts.{Text, line}

-- a byte within quotes: a quote and a backslash have a backslash before them
unfoldable pub quoted_byte : ℕ → Text
quoted_byte b = if (b == 34) || (b == 92) then 92 ∷ b ∷ [] else b ∷ []

-- a name within quotes
unfoldable pub quoted : Text → Text
quoted name = flat_map quoted_byte name

-- options are boxes, and defeats go from left to right
unfoldable pub graph_style : Text
graph_style = codes "  rankdir=LR;\n  node [shape=box];\n"

unfoldable pub graph_head : Text → Text
graph_head title = line (codes "digraph \"" ∷ quoted title ∷ codes "\" {" ∷ []) ++ graph_style

-- ---- options

-- why an option is dropped, as a second line of its label: in a label, a backslash and an n begin a new line
abbrev pub cause_label : Option Cause → Text
cause_label None = []
cause_label (Some cause) = codes "\\n" ++ cause_name cause

-- an option that is dropped has a dotted border
abbrev pub dropped_style : Option Cause → Text
dropped_style None = []
dropped_style (Some cause) = codes ", style=dotted"

-- the winner has a double border, and in a tie each option of the final set a bold one
abbrev pub decided_style : List Bool → Decision → ℕ → Text
decided_style set (Winner winner) o = when (o == winner) (codes ", peripheries=2")
decided_style set other o = when (has set o) (codes ", style=bold")

-- the number and the name, and why the option is dropped, if it is
unfoldable pub label_text : List Text → VerdictState → ℕ → Text
label_text names outcome o =
    concat (codes "\"" ∷ decimal o ∷ codes " " ∷ quoted (name_of names o) ∷ cause_label (cause_of outcome o) ∷ codes "\"" ∷ [])

unfoldable pub style_text : VerdictState → Decision → ℕ → Text
style_text outcome decision o = dropped_style (cause_of outcome o) ++ decided_style (final_set outcome.rounds) decision o

unfoldable pub node_of : List Text → VerdictState → Decision → ℕ → Text
node_of names outcome decision o =
    line (codes "  " ∷ decimal o ∷ codes " [label=" ∷ label_text names outcome o ∷ style_text outcome decision o ∷ codes "];" ∷ [])

unfoldable pub node_lines : List Text → VerdictState → Decision → Text
node_lines names outcome decision = each (length names) (node_of names outcome decision)

-- ---- defeats

-- the number of the round that removes the defeat of b by a, if there is one; the first of these rounds has this number
abbrev pub removing_round : ℕ → List Round → ℕ → ℕ → Option ℕ
removing_round number [] a b = None
removing_round number (round ∷ rounds) a b = if has_pair round.removed a b then Some number else removing_round (number + 1) rounds a b

-- a defeat that a round removes is dashed, and has the round in its label
abbrev pub removal_text : Option ℕ → Text
removal_text None = codes "\"];"
removal_text (Some round) = codes ", round " ++ decimal round ++ codes "\", style=dashed];"

unfoldable pub edge_line : Votes → List Round → ℕ → ℕ → Text
edge_line matrix rounds a b = line (
    codes "  " ∷ decimal a ∷ codes " -> " ∷ decimal b
    ∷ codes " [label=\"" ∷ decimal (votes matrix a b) ∷ codes " : " ∷ decimal (votes matrix b a) ∷ removal_text (removing_round 1 rounds a b) ∷ [])

unfoldable pub edges_by : Votes → VerdictState → ℕ → Text
edges_by matrix outcome a = each matrix.options (λ b. when (has_pair outcome.defeats a b) (edge_line matrix outcome.rounds a b))

unfoldable pub edge_lines : Votes → VerdictState → Text
edge_lines matrix outcome = each matrix.options (edges_by matrix outcome)

-- ---- the whole

-- the whole picture, as Graphviz reads it
abbrev pub picture_text : PollContent → Sheet → Text
picture_text poll s = concat (
    graph_head poll.title
    ∷ node_lines poll.options s.outcome s.decision
    ∷ edge_lines s.matrix s.outcome
    ∷ line (codes "}" ∷ [])
    ∷ [])

-- the text is the picture of a sheet of the poll, the lines and the casting vote, and this is the decision of the sheet
abbrev pub IsPictureAndDecision : PollContent → List Text → Option ℕ → Text → Decision → Type 0
IsPictureAndDecision poll lines casting text decision = (s : Sheet) × IsSheetOf poll lines casting s × (text ≡ picture_text poll s) × (decision ≡ s.decision)

-- a poll, its lines and the casting vote have at most one picture, with at most one decision
abbrev pub PictureIsUnique : Type 0
PictureIsUnique =
    (poll : PollContent) (lines : List Text) (casting : Option ℕ) (text other : Text) (decision second : Decision)
    → IsPictureAndDecision poll lines casting text decision → IsPictureAndDecision poll lines casting other second → (text ≡ other) × (decision ≡ second)

-- each poll that is read from a poll file has a picture, for any lines and any casting vote
abbrev pub PictureExists : Type 0
PictureExists =
    (file : Text) (poll : PollContent) (lines : List Text) (casting : Option ℕ) → poll_in file ≡ Ok poll
    → (text : Text) × (decision : Decision) × IsPictureAndDecision poll lines casting text decision

-- the picture of a sheet of the poll, the lines and the casting vote was printed, and this is the decision of the sheet
abbrev pub PrintsPicture : {Z : Type 0} → PollContent → List Text → Option ℕ → String Z × Decision → Type 0
PrintsPicture poll lines casting printed = IsPictureAndDecision poll lines casting (string_bytes printed.0) printed.1
