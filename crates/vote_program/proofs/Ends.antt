-- How a count ends whose files tell their bytes.
use Rattle.std.proofs.Common.{◌≡◌, ◌≤◌, ◌<◌, ◌⊎◌, ◌++◌, ◌∙◌, ℕ, ap, arith, Bor, Err, List, [], ◌∷◌, None, Ok, Option, Result, Some, inl, inr, length, refl, subst, sym}
use Rattle.std.specs.Prelude.{All, IfSome, is_some, option_copied}
use Rattle.std.specs.Result.{result_err}
use Rattle.vote_files.specs.Device.{IsTooLong, IsWhole}
use Rattle.vote_files.specs.Sources.{FileReading}
use Rattle.vote_files.specs.declared.ReadFault.{ReadFault}
use Rattle.vote_files.specs.declared.ReadFault.TheVariants as read
use Rattle.vote_poll_text.specs.Lines.{HasTooManyLines, lines_of}
use Rattle.vote_poll.specs.PollContent.{PollContent}
use Rattle.vote_poll.specs.PollFile.{poll_in}
use Rattle.vote_poll_keys.specs.declared.fault.PollFault.{PollFault}
use Rattle.vote_poll_keys.specs.declared.fault.PollFault.TheVariants as poll_fault
use Rattle.vote_audit.specs.declared.VoteFault.{VoteFault}
use Rattle.vote_poll_text.specs.Texts.{Text}
use Rattle.vote_request.specs.declared.Purpose.TheVariants as purpose
use Rattle.vote_request.specs.declared.Request.TheVariants as request
use Rattle.vote_command_line.specs.ParsedArgs.{NamedRequest}
use Rattle.vote_commands.specs.Counting.{IsCountFor, NamesNoOption, StopsAtVotes, StopsCount}
use Rattle.vote_commands.specs.Inputs.{Inputs, inputs_at}
use Rattle.vote_commands.specs.Performing.{Counts}
use Rattle.vote_commands.specs.Runs.{Runs, Stops, StopsAtLines, StopsAtPoll, StopsWhere, Tells}
use Rattle.vote_commands.specs.Status.{fault_status, status, unread}
use Rattle.vote_commands.specs.TakingVotes.{StopsVotes, Taking}
use Rattle.vote_commands.specs.declared.Ended.{Ended}
use Rattle.vote_commands.specs.declared.InputFile.{InputFile}
use Rattle.vote_commands.specs.declared.InputFile.TheVariants as file
use Rattle.vote_commands.specs.declared.FinishedRun.{FinishedRun}
use Rattle.vote_commands.specs.declared.RunFault.{RunFault}
use Rattle.vote_commands.specs.declared.RunFault.TheVariants as run
use Rattle.vote_program.specs.CountEnds.{EndsAsCounted, EndsAsDue, IsDueOrStopped, IsStopped}
use Rattle.vote_program.specs.FileReadings.{IsUnread, IsWithin, limit_of}
use Rattle.vote_program.specs.Outputs.{Written}
use Rattle.vote_program.specs.ProgramAnswers.{AnswersWorded}
use Rattle.vote_program.specs.RequestEnds.{EndsRequest}
use Rattle.vote_program.specs.SheetOfFiles.{AskForSheet}
use Rattle.vote_program.specs.declared.inputs.TheConstants.{BALLOTS_LIMIT, POLL_LIMIT}
use Rattle.vote_program.proofs.Asked.{IsCountOfNames, asks_without_fault, count_is_asked}

-- ---- a count that is stopped
same_status : (fault other : RunFault) → Some fault ≡ Some other → fault_status fault ≡ fault_status other
same_status fault other same = ap fault_status (let known = same in cc)

no_more : (fault : RunFault) → Some fault ≡ None → ⊥
no_more fault wrong = cc

refused : (fault : PollFault) → (fault_status (run.Poll fault) ≡ 3) ⊎ (fault_status (run.Poll fault) ≡ 5)
refused poll_fault.Memory = inr refl
refused fault = inl refl

module _ (Takes : Taking) (inputs : Inputs) where
  -- the status that poll, casting vote and lines call for, or a stop
  abbrev pub Ends : Result PollContent PollFault → ℕ → Type 0
  Ends meaning answered = EndsAsCounted meaning inputs.ballots inputs.casting answered ⊎ IsStopped Takes inputs.poll inputs.ballots answered

  of_votes : (poll : PollContent) (fault : VoteFault) → poll_in inputs.poll ≡ Ok poll → StopsVotes Takes poll (lines_of inputs.ballots) inputs.desks fault
      → IsStopped Takes inputs.poll inputs.ballots (fault_status (run.Vote fault))
  of_votes poll fault meant stops = inr (inr (poll, inputs.desks, fault, meant, stops, refl))

  at_votes : (poll : PollContent) (fault : RunFault) → poll_in inputs.poll ≡ Ok poll → StopsAtVotes Takes inputs.desks poll (lines_of inputs.ballots) (Some fault)
      → IsStopped Takes inputs.poll inputs.ballots (fault_status fault)
  at_votes poll (run.Vote fault) meant stops = of_votes poll fault meant stops.1
  at_votes poll (run.Input file fault) meant stops = absurd (no_more (run.Input file fault) stops)
  at_votes poll (run.Poll fault) meant stops = absurd (no_more (run.Poll fault) stops)
  at_votes poll run.NoSuchOption meant stops = absurd (no_more run.NoSuchOption stops)
  at_votes poll run.TooManyLines meant stops = absurd (no_more run.TooManyLines stops)
  at_votes poll run.Memory meant stops = absurd (no_more run.Memory stops)
  at_votes poll run.Output meant stops = absurd (no_more run.Output stops)

  at_lines : (poll : PollContent) (fault : RunFault) → poll_in inputs.poll ≡ Ok poll → ¬ NamesNoOption poll inputs.casting
      → StopsAtLines inputs.ballots (StopsAtVotes Takes inputs.desks poll (lines_of inputs.ballots)) (Some fault) → Ends (Ok poll) (fault_status fault)
  at_lines poll fault meant named (inl due) = inl (inr (named, inl (due.0, same_status fault run.TooManyLines due.1)))
  at_lines poll fault meant named (inr on) = inr (at_votes poll fault meant on.1)

  at_option : (poll : PollContent) (fault : RunFault) → poll_in inputs.poll ≡ Ok poll
      → StopsWhere (NamesNoOption poll inputs.casting) run.NoSuchOption (StopsAtLines inputs.ballots (StopsAtVotes Takes inputs.desks poll (lines_of inputs.ballots))) (Some fault)
      → Ends (Ok poll) (fault_status fault)
  at_option poll fault meant (inl due) = inl (inl (due.0, same_status fault run.NoSuchOption due.1))
  at_option poll fault meant (inr on) = at_lines poll fault meant on.0 on.1

  of_refused : (fault : PollFault) (answered : ℕ) → answered ≡ fault_status (run.Poll fault) → (fault_status (run.Poll fault) ≡ 3) ⊎ (fault_status (run.Poll fault) ≡ 5) → Ends (Err fault) answered
  of_refused fault answered is (inl three) = inl (is ∙ three)
  of_refused fault answered is (inr five) = inr (inl (is ∙ five))

  at_poll : (meaning : Result PollContent PollFault) (fault : RunFault) → poll_in inputs.poll ≡ meaning
      → StopsAtPoll meaning (λ poll. StopsWhere (NamesNoOption poll inputs.casting) run.NoSuchOption (StopsAtLines inputs.ballots (StopsAtVotes Takes inputs.desks poll (lines_of inputs.ballots)))) (Some fault)
      → Ends meaning (fault_status fault)
  at_poll (Err e) fault meant stops = of_refused e (fault_status fault) (same_status fault (run.Poll e) stops) (refused e)
  at_poll (Ok poll) fault meant stops = at_option poll fault meant stops

  of_fault : (fault : RunFault) → Stops (StopsCount Takes inputs) (Some fault) → Ends (poll_in inputs.poll) (fault_status fault)
  of_fault run.Memory stops = inr (inl refl)
  of_fault run.Output stops = inr (inr (inl refl))
  of_fault (run.Input file fault) stops = at_poll (poll_in inputs.poll) (run.Input file fault) refl stops
  of_fault (run.Poll fault) stops = at_poll (poll_in inputs.poll) (run.Poll fault) refl stops
  of_fault run.NoSuchOption stops = at_poll (poll_in inputs.poll) run.NoSuchOption refl stops
  of_fault run.TooManyLines stops = at_poll (poll_in inputs.poll) run.TooManyLines refl stops
  of_fault (run.Vote fault) stops = at_poll (poll_in inputs.poll) (run.Vote fault) refl stops

  -- ---- a count that comes to its end
  past : (IsSo : Type 0) (fault : RunFault) (Next : Option RunFault → Type 0) → StopsWhere IsSo fault Next None → (¬ IsSo) × Next None
  past IsSo fault Next (inl due) = let wrong = due.1 in cc
  past IsSo fault Next (inr on) = on

  of_end : (end : Ended) (text : Text) → StopsCount Takes inputs None → Tells (IsCountFor purpose.Sheet inputs) (Ok end) text
      → EndsAsCounted (poll_in inputs.poll) inputs.ballots inputs.casting (status (Ok end))
  of_end end text stops tells =
      let counted = tells.1 in
      let poll = counted.0 in
      let made = counted.2 in
      let chain : StopsWhere (NamesNoOption poll inputs.casting) run.NoSuchOption (StopsAtLines inputs.ballots (StopsAtVotes Takes inputs.desks poll (lines_of inputs.ballots))) None =
      subst (λ meaning. StopsAtPoll meaning (λ poll. StopsWhere (NamesNoOption poll inputs.casting) run.NoSuchOption (StopsAtLines inputs.ballots (StopsAtVotes Takes inputs.desks poll (lines_of inputs.ballots)))) None) counted.1 stops in
      let named = past (NamesNoOption poll inputs.casting) run.NoSuchOption (StopsAtLines inputs.ballots (StopsAtVotes Takes inputs.desks poll (lines_of inputs.ballots))) chain in
      let few = past (HasTooManyLines inputs.ballots) run.TooManyLines (StopsAtVotes Takes inputs.desks poll (lines_of inputs.ballots)) named.1 in
      subst (λ meaning. EndsAsCounted meaning inputs.ballots inputs.casting (status (Ok end))) (sym counted.1)
      (inr (named.0, inr (few.0, (tells.0.text, made.0, made.1, ap (λ e. status (Ok e)) (tells.3 ∙ made.2)))))

  -- ---- a count of inputs
  of_result : (old new : Option Text) (result : Result Ended RunFault) → Runs (StopsCount Takes inputs) (Tells (IsCountFor purpose.Sheet inputs) result) old new (result_err result)
      → Ends (poll_in inputs.poll) (status result)
  of_result old new (Ok end) runs = inl (of_end end runs.writes.0 runs.stops runs.writes.1)
  of_result old new (Err fault) runs = of_fault fault runs.stops

-- ---- on the files of a request
-- files within their limits are judged
judged : (Takes : Taking) (poll ballots : Text) (casting : Option Text) (answered : ℕ) → length poll ≤ POLL_LIMIT → length ballots ≤ BALLOTS_LIMIT
    → EndsAsCounted (poll_in poll) ballots casting answered ⊎ IsStopped Takes poll ballots answered → IsDueOrStopped Takes poll ballots casting answered
judged Takes poll ballots casting answered short few (inl due) = inl (inr ((λ more. omega (arith, short, more)), inr ((λ more. omega (arith, few, more)), due)))
judged Takes poll ballots casting answered short few (inr stopped) = inr stopped

whole : (known : Option Text) (bytes told : Text) → known ≡ Some told → IsWhole known bytes → bytes ≡ told
whole known bytes told is read = subst (λ k. IsWhole k bytes) is read

-- a file whose bytes are known is not read only if it is too long, or for want of memory
not_read : (kind : InputFile) (known : Option Text) (bytes : Text) (limit : ℕ) (Reads : ReadFault → Type 0) (told : RunFault) → known ≡ Some bytes
    → IsUnread kind known limit Reads told → ((limit < length bytes) × (fault_status told ≡ fault_status (unread kind read.TooLong))) ⊎ (fault_status told ≡ 5)
not_read kind known bytes limit Reads told is (read.Device, reads, long, device, same) = absurd (device refl (ap is_some is))
not_read kind known bytes limit Reads told is (read.TooLong, reads, long, device, same) = inl (subst (λ k. IsTooLong k limit) is (long refl), ap fault_status same)
not_read kind known bytes limit Reads told is (read.Memory, reads, long, device, same) = inr (ap fault_status same)

first_or_second : {A : Type 0} (x y z : A) (before after : List A) → x ∷ y ∷ [] ≡ before ++ z ∷ after → ((before ≡ []) × (z ≡ x)) ⊎ ((before ≡ x ∷ []) × (z ≡ y))
first_or_second x y z [] after same = inl (refl, cc)
first_or_second x y z (b ∷ []) after same = inr (cc, cc)
first_or_second x y z (b ∷ c ∷ []) after same = cc
first_or_second x y z (b ∷ c ∷ d ∷ more) after same = cc

poll_unread : (Takes : Taking) (poll ballots : Text) (casting : Option Text) (answered : ℕ) → ((POLL_LIMIT < length poll) × (answered ≡ 3)) ⊎ (answered ≡ 5) → IsDueOrStopped Takes poll ballots casting answered
poll_unread Takes poll ballots casting answered (inl long) = inl (inl long)
poll_unread Takes poll ballots casting answered (inr five) = inr (inl five)

ballots_unread : (Takes : Taking) (poll ballots : Text) (casting : Option Text) (answered : ℕ) → length poll ≤ POLL_LIMIT → ((BALLOTS_LIMIT < length ballots) × (answered ≡ 4)) ⊎ (answered ≡ 5)
    → IsDueOrStopped Takes poll ballots casting answered
ballots_unread Takes poll ballots casting answered short (inl long) = inl (inr ((λ more. omega (arith, short, more)), inl long))
ballots_unread Takes poll ballots casting answered short (inr five) = inr (inl five)

module _ (file_bytes : Text → Option Text) (Takes : Taking) (poll_name ballots_name poll ballots : Text) (casting : Option Text) (poll_is : file_bytes poll_name ≡ Some poll)
    (ballots_are : file_bytes ballots_name ≡ Some ballots) where
  at_file : (Reads : ReadFault → Type 0) (told : RunFault) (before : List (InputFile × Text)) (named : InputFile × Text)
      → ((before ≡ []) × (named ≡ (file.Poll, poll_name))) ⊎ ((before ≡ (file.Poll, poll_name) ∷ []) × (named ≡ (file.Ballots, ballots_name)))
      → All (IsWithin file_bytes) before → IsUnread named.0 (file_bytes named.1) (limit_of named.0) Reads told → IsDueOrStopped Takes poll ballots casting (fault_status told)
  at_file Reads told before named (inl first) within is =
      poll_unread Takes poll ballots casting (fault_status told)
      (not_read file.Poll (file_bytes poll_name) poll POLL_LIMIT Reads told poll_is (subst (λ n. IsUnread n.0 (file_bytes n.1) (limit_of n.0) Reads told) first.1 is))
  at_file Reads told before named (inr second) within is =
      let short = subst (λ all. All (IsWithin file_bytes) all) second.0 within 0 (file.Poll, poll_name) (omega arith) in
      ballots_unread Takes poll ballots casting (fault_status told) (subst (λ known. IfSome known (λ bytes. length bytes ≤ POLL_LIMIT)) poll_is short)
      (not_read file.Ballots (file_bytes ballots_name) ballots BALLOTS_LIMIT Reads told ballots_are (subst (λ n. IsUnread n.0 (file_bytes n.1) (limit_of n.0) Reads told) second.1 is))

of_task : (file_bytes : Text → Option Text) (Reads : List FileReading → Type 0) (Takes : Taking) (poll_name ballots_name : Bor Text) (desks : ℕ) (option_name : Option (Bor Text)) (poll ballots : Text)
    (written : Written) (finished : FinishedRun) (answered : ℕ) → answered ≡ status finished.end → file_bytes poll_name.now ≡ Some poll → file_bytes ballots_name.now ≡ Some ballots
    → EndsRequest file_bytes Reads Takes (request.Count poll_name ballots_name desks option_name purpose.Sheet) written finished
    → IsDueOrStopped Takes poll ballots (option_copied option_name) answered
of_task file_bytes Reads Takes poll_name ballots_name desks option_name poll ballots written finished answered by_end poll_is ballots_are (inl stopped) =
    let one = stopped.2 in
    subst (λ n. IsDueOrStopped Takes poll ballots (option_copied option_name) n) (sym (by_end ∙ ap status stopped.1))
    (at_file file_bytes Takes poll_name.now ballots_name.now poll ballots (option_copied option_name) poll_is ballots_are _ stopped.0 one.0 (one.2, one.3)
    (first_or_second (file.Poll, poll_name.now) (file.Ballots, ballots_name.now) (one.2, one.3) one.0 one.1 one.4) one.5 one.6)
of_task file_bytes Reads Takes poll_name ballots_name desks option_name poll ballots written finished answered by_end poll_is ballots_are (inr done) =
    let files = done.4 in
    let inputs = inputs_at done.0 done.1 desks option_name in
    let counts : Counts Takes purpose.Sheet inputs written.old.bytes written.new.bytes finished = done.5.0 in
    let counted = judged Takes done.0.now done.1.now (option_copied option_name) (status finished.end) files.poll_is.1 files.ballots_are.1
    (of_result Takes inputs written.old.bytes written.new.bytes finished.end counts.runs) in
    let same_poll : done.0.now ≡ poll = whole _ _ _ poll_is files.poll_is.0 in
    let same_ballots : done.1.now ≡ ballots = whole _ _ _ ballots_are files.ballots_are.0 in
    subst (λ n. IsDueOrStopped Takes poll ballots (option_copied option_name) n) (sym by_end)
    (subst (λ text. IsDueOrStopped Takes text ballots (option_copied option_name) (status finished.end)) same_poll
    (subst (λ text. IsDueOrStopped Takes done.0.now text (option_copied option_name) (status finished.end)) same_ballots counted))

-- ---- on the words
of_asked : (file_bytes : Text → Option Text) (Reads : List FileReading → Type 0) (Takes : Taking) (words : List Text) (written : Written) (finished : FinishedRun) (answered : ℕ) (poll ballots : Text) (casting : Option Text)
    (made : NamedRequest) → answered ≡ status finished.end → (asked : AskForSheet file_bytes words poll ballots casting)
    → IsCountOfNames asked.poll_name.now asked.ballots_name.now (option_copied asked.option_name) made → EndsRequest file_bytes Reads Takes made written finished
    → IsDueOrStopped Takes poll ballots casting answered
of_asked file_bytes Reads Takes words written finished answered poll ballots casting (request.Count poll_name ballots_name desks option_name purpose.Sheet) by_end asked same ends =
    subst (λ named. IsDueOrStopped Takes poll ballots named answered) (same.2 ∙ asked.casting_is)
    (of_task file_bytes Reads Takes poll_name ballots_name desks option_name poll ballots written finished answered by_end
    (ap file_bytes same.0 ∙ asked.poll_is) (ap file_bytes same.1 ∙ asked.ballots_are) ends)
of_asked file_bytes Reads Takes words written finished answered poll ballots casting other by_end asked same ends = absurd same

pub due_of_words : (file_bytes : Text → Option Text) (Reads : List FileReading → Type 0) (Takes : Taking) (words : List Text) (written errors : Written) (answered : ℕ)
    → AnswersWorded file_bytes Reads Takes words written errors answered → EndsAsDue file_bytes Takes words answered
due_of_words file_bytes Reads Takes words written errors answered (inl done) poll ballots casting sheet =
    let same = count_is_asked words sheet.poll_name sheet.ballots_name sheet.desks sheet.option_name sheet.request done.0 done.2 in
    of_asked file_bytes Reads Takes words written done.1 answered poll ballots casting done.0 done.4 sheet same done.3
due_of_words file_bytes Reads Takes words written errors answered (inr none) poll ballots casting sheet =
    let made = request.Count sheet.poll_name sheet.ballots_name sheet.desks sheet.option_name purpose.Sheet in
    inr (inl (asks_without_fault words made none.0 written errors answered sheet.request none.1 none.3))
