-- The words of the count ask for the sheet of the two files.
use Rattle.std.proofs.Common.{arith, rules, ap, refl, subst, sym, ◌∙◌, codes, List, Option, Some, None, [], ◌∷◌, ◌++◌, ◌≡◌, ◌⊎◌, ℕ, Bor}
use Rattle.std.specs.Prelude.{Bool, true, false, if◌then◌else◌, option_copied, unwrap_or}
use Rattle.std.specs.Str.Parse.{IsNumeral, without_leading_plus}
use Rattle.clap.specs.Words.{Row, first_of, one_of, subcommand_of}
use Rattle.clap.specs.Faults.{fault_of}
use Rattle.clap.proofs.OnLiterals.{clap_on_literals}
use Rattle.vote_request.specs.declared.Purpose.TheVariants as purpose
use Rattle.vote_request.specs.declared.Request.TheVariants as request
use Rattle.vote_command_line.specs.CommandLine.{debvote_command}
use Rattle.vote_command_line.specs.ParsedArgs.{HasText, NamedRequest}
use Rattle.vote_command_line.specs.Words.{AreArgsOf}
use Rattle.vote_files.specs.Sources.{FileReading, HasRead}
use Rattle.vote_poll_text.specs.Texts.{Text}
use Rattle.vote_program.specs.FileReadings.{read_whole}
use Rattle.vote_program.specs.Outputs.{OutputState, Written}
use Rattle.vote_program.specs.SheetOfFiles.{AskForSheet, IsSheetOfFiles, WritesTheSheet}
use Rattle.vote_memory.specs.Files.{FilesInMemory, bytes_named}
use Rattle.vote_memory.specs.CountWords.{count_words}

-- ---- what `clap` finds in these words, by computing it
abbrev rows : Bool → List Row
rows casting = (unwrap_or (subcommand_of debvote_command (count_words casting)) (codes "", [])).1

no_fault : (casting : Bool) → fault_of debvote_command (count_words casting) ≡ []
unfolding clap_on_literals
no_fault false = refl
no_fault true = refl

is_count : (casting : Bool) → subcommand_of debvote_command (count_words casting) ≡ Some (codes "count", rows casting)
unfolding clap_on_literals
is_count false = refl
is_count true = refl

has_poll : (casting : Bool) → HasText (rows casting) (codes "poll") (codes "poll")
unfolding clap_on_literals
has_poll false = refl
has_poll true = refl

has_ballots : (casting : Bool) → HasText (rows casting) (codes "ballots") (codes "ballots")
unfolding clap_on_literals
has_ballots false = refl
has_ballots true = refl

has_desks : (casting : Bool) → one_of (codes "desks") (rows casting) ≡ Some (codes "1")
unfolding clap_on_literals
has_desks false = refl
has_desks true = refl

has_casting : (casting : Bool) → (if casting then Some (codes "B") else None) ≡ first_of (codes "casting") (rows casting)
unfolding clap_on_literals
has_casting false = refl
has_casting true = refl

is_number : IsNumeral 10 (without_leading_plus (codes "1"))
is_number = search rules

-- ---- the request
abbrev named : Text → Bor Text
named text = record { ref_ptr = (0, 0); now = text }

abbrev vote : Bool → Option (Bor Text)
vote false = None
vote true = Some (named (codes "B"))

voted : (casting : Bool) → option_copied (vote casting) ≡ (if casting then Some (codes "B") else None)
voted false = refl
voted true = refl

abbrev asked : Bool → NamedRequest
asked casting = request.Count (named (codes "poll")) (named (codes "ballots")) 1 (vote casting) purpose.Sheet

makes_request : (casting : Bool) → AreArgsOf (count_words casting) (asked casting)
makes_request casting = (
  no_fault casting,
  (
    rows casting,
    is_count casting,
    (has_poll casting, has_ballots casting, (omega arith, omega arith, (codes "1", has_desks casting, is_number, refl)), voted casting ∙ has_casting casting),
  ),
)

abbrev ask_for_sheet : (files : FilesInMemory) (casting : Bool) → AskForSheet (bytes_named files) (count_words casting) files.poll files.ballots (if casting then Some (codes "B") else None)
ask_for_sheet files casting = record {
  poll_name = named (codes "poll");
  ballots_name = named (codes "ballots");
  option_name = vote casting;
  desks = 1;
  request = makes_request casting;
  poll_is = refl;
  ballots_are = refl;
  casting_is = voted casting;
}

pub asks_in_memory : (casting : Bool) (files : FilesInMemory) (words : List Text) → words ≡ count_words casting
    → AskForSheet (bytes_named files) words files.poll files.ballots (if casting then Some (codes "B") else None)
asks_in_memory casting files words asks =
    subst (λ all. AskForSheet (bytes_named files) all files.poll files.ballots (if casting then Some (codes "B") else None)) (sym asks) (ask_for_sheet files casting)

-- ---- the sheet of the two files
same_some : (bytes text : Text) → Some bytes ≡ Some text → bytes ≡ text
same_some bytes text same = ap (λ known. unwrap_or known bytes) same

same_readings : (made known : List FileReading) → Some made ≡ Some known → made ≡ known
same_readings made known same = ap (λ all. unwrap_or all made) same

pub sheet_of_memory : (casting : Bool) (files after : FilesInMemory) (words : List Text) (written errors : Written) (before output said : Text) (answered : ℕ)
    → words ≡ count_words casting → files.readings ≡ [] → written.old.bytes ≡ Some before → written.new.bytes ≡ Some output → errors.old.bytes ≡ Some [] → errors.new.bytes ≡ Some said
    → WritesTheSheet (bytes_named files) (HasRead (λ (f : FilesInMemory). Some f.readings) files after) words written errors answered
    → (answered ≡ 0) ⊎ (answered ≡ 1)
    → (sheet : Text) × IsSheetOfFiles files.poll files.ballots (if casting then Some (codes "B") else None) answered sheet × (output ≡ before ++ sheet) × (said ≡ [])
    × (after.readings ≡ read_whole (codes "poll") ∷ read_whole (codes "ballots") ∷ [])
sheet_of_memory casting files after words written errors before output said answered asks unread old new silent heard writes few =
    let told = subst (λ all. WritesTheSheet (bytes_named files) (HasRead (λ (f : FilesInMemory). Some f.readings) files after) all written errors answered) asks writes
    files.poll files.ballots before (if casting then Some (codes "B") else None) (ask_for_sheet files casting) old few in (
      told.0,
      told.1,
      same_some output _ (sym new ∙ told.2),
      same_some said [] (sym heard ∙ ap (λ (state : OutputState). state.bytes) told.4 ∙ silent),
      subst (λ read. after.readings ≡ read ++ read_whole (codes "poll") ∷ read_whole (codes "ballots") ∷ []) unread (same_readings after.readings _ told.5),
    )
