-- A count that ends with status 0 or 1 has written the sheet of its files.
use Rattle.std.proofs.Common.{◌≡◌, ◌≤◌, ◌⊎◌, ◌++◌, ◌∙◌, ℕ, ap, arith, Bor, Err, List, [], ◌∷◌, None, Ok, Option, Result, Some, inl, inr, refl, subst}
use Rattle.std.specs.Prelude.{OnOk, option_copied, true}
use Rattle.std.specs.Io.KnownBytes.{Appends}
use Rattle.std.specs.Result.{result_err}
use Rattle.vote_files.specs.Device.{IsWhole}
use Rattle.vote_files.specs.Sources.{FileReading}
use Rattle.vote_poll_text.specs.Lines.{lines_of}
use Rattle.vote_poll.specs.PollContent.{PollContent}
use Rattle.vote_poll.specs.PollFile.{poll_in}
use Rattle.vote_poll_keys.specs.declared.fault.PollFault.TheVariants as poll_fault
use Rattle.vote_desks_box.specs.declared.DeskFault.TheVariants as desk
use Rattle.vote_audit.specs.declared.VoteFault.TheVariants as vote
use Rattle.vote_poll_text.specs.Texts.{Text}
use Rattle.vote_request.specs.declared.Purpose.TheVariants as purpose
use Rattle.vote_request.specs.declared.Request.TheVariants as request
use Rattle.vote_command_line.specs.ParsedArgs.{NamedRequest}
use Rattle.vote_commands.specs.Counting.{IsCountFor, NamesNoOption, StopsAtVotes, StopsCount}
use Rattle.vote_commands.specs.Inputs.{Inputs, inputs_at}
use Rattle.vote_commands.specs.Performing.{Counts}
use Rattle.vote_commands.specs.Runs.{Runs, StopsAtLines, StopsWhere, Tells}
use Rattle.vote_commands.specs.Status.{fault_status, status}
use Rattle.vote_commands.specs.TakingVotes.{Taking}
use Rattle.vote_commands.specs.declared.Ended.{Ended}
use Rattle.vote_commands.specs.declared.InputFile.TheVariants as file
use Rattle.vote_commands.specs.declared.FinishedRun.{FinishedRun}
use Rattle.vote_commands.specs.declared.RunFault.{RunFault}
use Rattle.vote_commands.specs.declared.RunFault.TheVariants as run
use Rattle.vote_program.specs.ProgramAnswers.{AnswersWorded}
use Rattle.vote_program.specs.Outputs.{WritesNothing, Written}
use Rattle.vote_program.specs.FileReadings.{read_whole}
use Rattle.vote_program.specs.Errors.{SaysEnd}
use Rattle.vote_program.specs.RequestEnds.{EndsRequest}
use Rattle.vote_program.specs.SheetOfFiles.{AskForSheet, IsSheetOfFiles, WritesTheSheet}
use Rattle.vote_program.proofs.Asked.{IsCountOfNames, asks_without_fault, count_is_asked}

-- ---- which statuses are 0 or 1
not_few : (n : ℕ) → 2 ≤ n → (n ≡ 0) ⊎ (n ≡ 1) → ⊥
not_few n most (inl none) = absurd (omega arith)
not_few n most (inr one) = absurd (omega arith)

of_fault : (fault : RunFault) → 2 ≤ fault_status fault
of_fault (run.Input file.Poll fault) = omega arith
of_fault (run.Input file.Ballots fault) = omega arith
of_fault (run.Input file.Sheet fault) = omega arith
of_fault (run.Poll poll_fault.Memory) = omega arith
of_fault (run.Poll fault) = omega arith
of_fault run.NoSuchOption = omega arith
of_fault run.TooManyLines = omega arith
of_fault (run.Vote vote.Memory) = omega arith
of_fault (run.Vote vote.Thread) = omega arith
of_fault (run.Vote (vote.Desk desk.Memory)) = omega arith
of_fault (run.Vote fault) = omega arith
of_fault run.Memory = omega arith
of_fault run.Output = omega arith

-- a run with such a status came to its end
ended : (result : Result Ended RunFault) (answered : ℕ) → answered ≡ status result → (answered ≡ 0) ⊎ (answered ≡ 1) → (end : Ended) × (result ≡ Ok end)
ended (Ok end) answered is few = (end, refl)
ended (Err fault) answered is few = absurd (not_few (fault_status fault) (of_fault fault) (subst (λ n. (n ≡ 0) ⊎ (n ≡ 1)) is few))

-- ---- what a count that came to its end has written
grown : (old new : Option Text) (before text : Text) → old ≡ Some before → Appends old new text → new ≡ Some (before ++ text)
grown old None before text is appends = absurd (subst (λ o. Appends o None text) is appends)
grown old (Some after) before text is appends = ap Some (subst (λ o. Appends o (Some after) text) is appends)

past : (IsSo : Type 0) (fault : RunFault) (Next : Option RunFault → Type 0) → StopsWhere IsSo fault Next None → ¬ IsSo
past IsSo fault Next (inl due) = let wrong = due.1 in λ so. cc
past IsSo fault Next (inr on) = on.0

names_an_option : (Takes : Taking) (inputs : Inputs) (poll : PollContent) → poll_in inputs.poll ≡ Ok poll → StopsCount Takes inputs None → ¬ NamesNoOption poll inputs.casting
names_an_option Takes inputs poll meant stops =
    past (NamesNoOption poll inputs.casting) run.NoSuchOption (StopsAtLines inputs.ballots (StopsAtVotes Takes inputs.desks poll (lines_of inputs.ballots))) (rw meant at stops)

of_runs : (Takes : Taking) (inputs : Inputs) (old new : Option Text) (before : Text) (end : Ended) (answered : ℕ) → answered ≡ status (Ok end) → old ≡ Some before
    → Runs (StopsCount Takes inputs) (Tells (IsCountFor purpose.Sheet inputs) (Ok end)) old new None
    → (sheet : Text) × IsSheetOfFiles inputs.poll inputs.ballots inputs.casting answered sheet × (new ≡ Some (before ++ sheet))
of_runs Takes inputs old new before end answered by_end is runs =
    let text = runs.writes.0 in
    let tells = runs.writes.1 in
    let counted = tells.1 in
    let made = counted.2 in
    let printed = made.1 in (
      text,
      record {
        poll = counted.0;
        decision = made.0;
        meant = counted.1;
        named = names_an_option Takes inputs counted.0 counted.1 runs.stops;
        is_sheet = (printed.0, printed.1, tells.2 ∙ printed.2, printed.3);
        status_is = by_end ∙ ap (λ e. status (Ok e)) (tells.3 ∙ made.2);
      },
      grown old new before text is runs.writes.2,
    )

of_counts : (Takes : Taking) (inputs : Inputs) (written : Written) (finished : FinishedRun) (before : Text) (end : Ended) (answered : ℕ)
    → answered ≡ status (Ok end) → written.old.bytes ≡ Some before → finished.end ≡ Ok end → Counts Takes purpose.Sheet inputs written.old.bytes written.new.bytes finished
    → (sheet : Text) × IsSheetOfFiles inputs.poll inputs.ballots inputs.casting answered sheet × (written.new.bytes ≡ Some (before ++ sheet))
of_counts Takes inputs written finished before end answered by_end old is counts =
    of_runs Takes inputs written.old.bytes written.new.bytes before end answered by_end old
    (subst (λ r. Runs (StopsCount Takes inputs) (Tells (IsCountFor purpose.Sheet inputs) r) written.old.bytes written.new.bytes (result_err r)) is counts.runs)

-- ---- on the files of a request
whole : (known : Option Text) (bytes told : Text) → known ≡ Some told → IsWhole known bytes → bytes ≡ told
whole known bytes told is read = subst (λ k. IsWhole k bytes) is read

of_task : (file_bytes : Text → Option Text) (Reads : List FileReading → Type 0) (Takes : Taking) (poll_name ballots_name : Bor Text) (desks : ℕ) (option_name : Option (Bor Text)) (poll ballots before : Text) (written : Written)
    (finished : FinishedRun) (end : Ended) (answered : ℕ)
    → answered ≡ status (Ok end) → file_bytes poll_name.now ≡ Some poll → file_bytes ballots_name.now ≡ Some ballots → written.old.bytes ≡ Some before → finished.end ≡ Ok end
    → EndsRequest file_bytes Reads Takes (request.Count poll_name ballots_name desks option_name purpose.Sheet) written finished
    → (sheet : Text) × IsSheetOfFiles poll ballots (option_copied option_name) answered sheet × (written.new.bytes ≡ Some (before ++ sheet)) × (written.new.flushed ≡ true)
    × Reads (read_whole poll_name.now ∷ read_whole ballots_name.now ∷ [])
of_task file_bytes Reads Takes poll_name ballots_name desks option_name poll ballots before written finished end answered by_end poll_is ballots_are old is (inl unread) =
    let wrong = unread.1 in cc
of_task file_bytes Reads Takes poll_name ballots_name desks option_name poll ballots before written finished end answered by_end poll_is ballots_are old is (inr done) =
    let files = done.4 in
    let counted = of_counts _ (inputs_at done.0 done.1 desks option_name) written finished before end answered by_end old is done.5.0 in
    let same_poll : done.0.now ≡ poll = whole _ _ _ poll_is files.poll_is.0 in
    let same_ballots : done.1.now ≡ ballots = whole _ _ _ ballots_are files.ballots_are.0 in (
      counted.0,
      subst (λ text. IsSheetOfFiles text ballots (option_copied option_name) answered counted.0) same_poll
          (subst (λ text. IsSheetOfFiles done.0.now text (option_copied option_name) answered counted.0) same_ballots counted.1),
      counted.2,
      subst (λ r. OnOk r (written.new.flushed ≡ true)) is done.5.1,
      done.3,
    )

-- ---- on the words
of_asked : (file_bytes : Text → Option Text) (Reads : List FileReading → Type 0) (Takes : Taking) (words : List Text) (written : Written) (finished : FinishedRun) (end : Ended) (answered : ℕ) (poll ballots before : Text) (casting : Option Text) (made : NamedRequest)
    → answered ≡ status (Ok end) → (asked : AskForSheet file_bytes words poll ballots casting) → IsCountOfNames asked.poll_name.now asked.ballots_name.now (option_copied asked.option_name) made
    → written.old.bytes ≡ Some before → finished.end ≡ Ok end → EndsRequest file_bytes Reads Takes made written finished
    → (sheet : Text) × IsSheetOfFiles poll ballots casting answered sheet × (written.new.bytes ≡ Some (before ++ sheet)) × (written.new.flushed ≡ true)
    × Reads (read_whole asked.poll_name.now ∷ read_whole asked.ballots_name.now ∷ [])
of_asked file_bytes Reads Takes words written finished end answered poll ballots before casting (request.Count poll_name ballots_name desks option_name purpose.Sheet) by_end asked same old is ends =
    let told = of_task file_bytes Reads Takes poll_name ballots_name desks option_name poll ballots before written finished end answered by_end
    (ap file_bytes same.0 ∙ asked.poll_is) (ap file_bytes same.1 ∙ asked.ballots_are) old is ends in
    let read = subst (λ name. Reads (read_whole name ∷ read_whole ballots_name.now ∷ [])) same.0 told.4 in (
      told.0,
      subst (λ named. IsSheetOfFiles poll ballots named answered told.0) (same.2 ∙ asked.casting_is) told.1,
      told.2,
      told.3,
      subst (λ name. Reads (read_whole asked.poll_name.now ∷ read_whole name ∷ [])) same.1 read,
    )
of_asked file_bytes Reads Takes words written finished end answered poll ballots before casting other by_end asked same old is ends = absurd same

says_nothing : (result : Result Ended RunFault) (end : Ended) (errors : Written) → result ≡ Ok end → SaysEnd result errors → WritesNothing errors
says_nothing result end errors is says = subst (λ r. SaysEnd r errors) is says

pub of_words : (file_bytes : Text → Option Text) (Reads : List FileReading → Type 0) (Takes : Taking) (words : List Text) (written errors : Written) (answered : ℕ)
    → AnswersWorded file_bytes Reads Takes words written errors answered → WritesTheSheet file_bytes Reads words written errors answered
of_words file_bytes Reads Takes words written errors answered (inl done) poll ballots before casting sheet old few =
    let came = ended done.1.end answered done.4 few in
    let same = count_is_asked words sheet.poll_name sheet.ballots_name sheet.desks sheet.option_name sheet.request done.0 done.2 in
    let told = of_asked file_bytes Reads Takes words written done.1 came.0 answered poll ballots before casting done.0 (done.4 ∙ ap status came.1) sheet same old came.1 done.3 in
    (told.0, told.1, told.2, told.3, says_nothing done.1.end came.0 errors came.1 done.5, told.4)
of_words file_bytes Reads Takes words written errors answered (inr none) poll ballots before casting sheet old few =
    let made = request.Count sheet.poll_name sheet.ballots_name sheet.desks sheet.option_name purpose.Sheet in
    let five = asks_without_fault words made none.0 written errors answered sheet.request none.1 none.3 in
    absurd (not_few answered (omega (arith, five)) few)
