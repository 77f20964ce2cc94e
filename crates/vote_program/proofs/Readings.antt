-- The readings of a request, one after the other.
use Rattle.std.proofs.Common.{◌≡◌, ◌≤◌, ◌∙◌, ℕ, ap, append_assoc, Bor, IfSome, List, [], ◌∷◌, ◌++◌, None, Option, Some, length, refl, subst}
use Rattle.std.specs.Prelude.{All, IsSome, IsSomeAnd, option_map, option_to_list}
use Rattle.std.proofs.lemmas.List.Elements.{All-cons, All-nil}
use Rattle.vote_files.specs.Device.{IsTooLong}
use Rattle.vote_files.specs.Sources.{FileReading, HasRead}
use Rattle.vote_files.specs.declared.ReadFault.{ReadFault}
use Rattle.vote_files.specs.declared.ReadFault.TheVariants as read
use Rattle.vote_commands.specs.declared.InputFile.{InputFile}
use Rattle.vote_commands.specs.declared.InputFile.TheVariants as file
use Rattle.vote_commands.specs.declared.RunFault.{RunFault}
use Rattle.vote_program.specs.LoadedRequests.{IsReadWithin}
use Rattle.vote_program.specs.FileReadings.{IsUnread, IsWithin, all_read, limit_of, read_whole}

-- ---- what is told of readings
told_more : {A : Type 0} (old mid new : Option (List A)) (first second : List A)
    → IfSome old (λ before. mid ≡ Some (before ++ first)) → IfSome mid (λ before. new ≡ Some (before ++ second)) → IfSome old (λ before. new ≡ Some (before ++ (first ++ second)))
told_more None mid new first second begun more = tt
told_more (Some before) mid new first second begun more =
    subst (λ known. IfSome known (λ read. new ≡ Some (read ++ second))) begun more ∙ ap Some (append_assoc before first second)

module _ {S A : Type 0} (readings : S → Option (List A)) (old mid new : S) (first second : List A) where
  -- the second ones are made after the first ones
  pub more_read : HasRead readings old mid first → HasRead readings mid new second → HasRead readings old new (first ++ second)
  more_read begun more = told_more (readings old) (readings mid) (readings new) first second begun more

-- ---- the files of a request
-- the reading of a file that is named, if one is
abbrev pub read_of : Option (Bor (List ℕ)) → List FileReading
read_of named = option_to_list (option_map (λ name. read_whole name.now) named)

-- this reading ends with the fault
abbrev pub failed_at : List ℕ → ReadFault → FileReading
failed_at name fault = record { name = name; fault = Some fault }

-- all that a request names
abbrev pub files_named : List ℕ → Option (Bor (List ℕ)) → Option (Bor (List ℕ)) → List (InputFile × List ℕ)
files_named poll ballots sheet =
    (file.Poll, poll) ∷ option_to_list (option_map (λ name. (file.Ballots, name.now)) ballots) ++ option_to_list (option_map (λ name. (file.Sheet, name.now)) sheet)

-- one of these files was not read
abbrev pub IsAmongUnread : (List ℕ → Option (List ℕ)) → (List FileReading → Type 0) → RunFault → List (InputFile × List ℕ) → Type 0
IsAmongUnread file_bytes Reads told files =
    (before after : List (InputFile × List ℕ)) × (file : InputFile) × (name : List ℕ) × (files ≡ before ++ (file, name) ∷ after)
    × All (IsWithin file_bytes) before × IsUnread file (file_bytes name) (limit_of file) (λ fault. Reads (all_read before ++ failed_at name fault ∷ [])) told

-- ---- the ones that were read
within : (limit : ℕ) (known : Option (List ℕ)) (bytes : List ℕ) → IsReadWithin limit known bytes → IfSome known (λ input. length input ≤ limit)
within limit None bytes read = tt
within limit (Some input) bytes read = subst (λ all. length all ≤ limit) read.0 read.1

module _ (file_bytes : List ℕ → Option (List ℕ)) (bytes : List ℕ → Option (List ℕ)) (same : bytes ≡ file_bytes) where
  within_of : (kind : InputFile) (name read : List ℕ) → IsReadWithin (limit_of kind) (bytes name) read → IsWithin file_bytes (kind, name)
  within_of kind name read is = subst (λ known. IsWithin known (kind, name)) same (within (limit_of kind) (bytes name) read is)

one_within : (file_bytes : List ℕ → Option (List ℕ)) (named : InputFile × List ℕ) → IsWithin file_bytes named → All (IsWithin file_bytes) (named ∷ [])
one_within file_bytes named is = All-cons (IsWithin file_bytes) named [] is (All-nil (IsWithin file_bytes))

-- ---- the one that was not read
module _ (file_bytes : List ℕ → Option (List ℕ)) (told : RunFault) where
  -- a reading after others
  unread_after : {Before After : ReadFault → Type 0} (kind : InputFile) (name : List ℕ) (bytes : List ℕ → Option (List ℕ)) → bytes ≡ file_bytes
      → ((fault : ReadFault) → Before fault → After fault) → IsUnread kind (bytes name) (limit_of kind) Before told → IsUnread kind (file_bytes name) (limit_of kind) After told
  unread_after kind name bytes same on unread = (
    unread.0,
    on unread.0 unread.1,
    subst (λ known. unread.0 ≡ read.TooLong → IsTooLong (known name) (limit_of kind)) same unread.2,
    subst (λ known. unread.0 ≡ read.Device → ¬ IsSome (known name)) same unread.3,
    unread.4,
  )

module _ {S : Type 0} (readings : S → Option (List FileReading)) (file_bytes : List ℕ → Option (List ℕ)) (told : RunFault) where
  -- the poll was not read
  pub poll_unread : (start end : S) (poll : List ℕ) (ballots sheet : Option (Bor (List ℕ)))
      → IsUnread file.Poll (file_bytes poll) (limit_of file.Poll) (λ fault. HasRead readings start end (failed_at poll fault ∷ [])) told
      → IsAmongUnread file_bytes (HasRead readings start end) told (files_named poll ballots sheet)
  poll_unread start end poll ballots sheet unread = ([], _, file.Poll, poll, refl, All-nil (IsWithin file_bytes), unread)

  -- the ballots were not read, after the poll
  pub ballots_unread : (start polled end : S) (poll first : List ℕ) (ballots sheet : Option (Bor (List ℕ))) (bytes : List ℕ → Option (List ℕ)) → bytes ≡ file_bytes
      → IsReadWithin (limit_of file.Poll) (file_bytes poll) first → HasRead readings start polled (read_whole poll ∷ [])
      → IsSomeAnd ballots (λ name. IsUnread file.Ballots (bytes name.now) (limit_of file.Ballots) (λ fault. HasRead readings polled end (failed_at name.now fault ∷ [])) told)
      → IsAmongUnread file_bytes (HasRead readings start end) told (files_named poll ballots sheet)
  ballots_unread start polled end poll first None sheet bytes same is read unread = absurd unread
  ballots_unread start polled end poll first (Some name) sheet bytes same is read unread = (
    (file.Poll, poll) ∷ [],
    _,
    file.Ballots,
    name.now,
    refl,
    one_within file_bytes (file.Poll, poll) (within_of file_bytes file_bytes refl file.Poll poll first is),
    unread_after file_bytes told file.Ballots name.now bytes same (λ fault. more_read readings start polled end _ _ read) unread,
  )

  -- the sheet was not read, after the poll and the ballots
  pub sheet_unread : (start polled balloted end : S) (poll first second : List ℕ) (ballots sheet : Option (Bor (List ℕ))) (bytes later : List ℕ → Option (List ℕ)) → bytes ≡ file_bytes → later ≡ file_bytes
      → IsReadWithin (limit_of file.Poll) (file_bytes poll) first → IfSome ballots (λ name. IsReadWithin (limit_of file.Ballots) (bytes name.now) second)
      → HasRead readings start polled (read_whole poll ∷ []) → HasRead readings polled balloted (read_of ballots)
      → IsSomeAnd sheet (λ name. IsUnread file.Sheet (later name.now) (limit_of file.Sheet) (λ fault. HasRead readings balloted end (failed_at name.now fault ∷ [])) told)
      → IsAmongUnread file_bytes (HasRead readings start end) told (files_named poll ballots sheet)
  sheet_unread start polled balloted end poll first second ballots None bytes later same still is also read more unread = absurd unread
  sheet_unread start polled balloted end poll first second None (Some name) bytes later same still is also read more unread = (
    (file.Poll, poll) ∷ [],
    [],
    file.Sheet,
    name.now,
    refl,
    one_within file_bytes (file.Poll, poll) (within_of file_bytes file_bytes refl file.Poll poll first is),
    unread_after file_bytes told file.Sheet name.now later still
        (λ fault last. more_read readings start polled end _ _ read (more_read readings polled balloted end [] _ more last)) unread,
  )
  sheet_unread start polled balloted end poll first second (Some one) (Some name) bytes later same still is also read more unread = (
    (file.Poll, poll) ∷ (file.Ballots, one.now) ∷ [],
    [],
    file.Sheet,
    name.now,
    refl,
    All-cons (IsWithin file_bytes) (file.Poll, poll) ((file.Ballots, one.now) ∷ []) (within_of file_bytes file_bytes refl file.Poll poll first is)
        (one_within file_bytes (file.Ballots, one.now) (within_of file_bytes bytes same file.Ballots one.now second also)),
    unread_after file_bytes told file.Sheet name.now later still
        (λ fault last. more_read readings start polled end _ _ read (more_read readings polled balloted end (read_whole one.now ∷ []) _ more last)) unread,
  )
