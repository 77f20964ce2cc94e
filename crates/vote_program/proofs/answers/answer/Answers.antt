use Rattle.std.proofs.Common.{rules, ◌≡◌, ◌∙◌, ap, map, string_bytes, sym}
use Rattle.std.proofs.lemmas.List.{drop-map}
use Rattle.vote_files.specs.Sources.{HasRead}
use Rattle.vote_command_line.specs.Words.{texts_of}
use Rattle.vote_program.specs.ProgramAnswers.{words_in}
use Rattle.vote_program.proofs.Ends.{due_of_words}
use Rattle.vote_program.proofs.Sheets.{of_words}
use Rattle.vote_program.proofs.answers.answer.Goals as goal

pub returns-in-Ok-clause-worded : goal.returns-in-Ok-clause-worded
returns-in-Ok-clause-worded g c some =
    let same : c.as_slice.result.now ≡ c.in-Ok.words.items = search rules in
    let texts : texts_of c.as_slice.result.now ≡ words_in c.args.given.now =
    ap texts_of same ∙ c.in-Ok.ensures ∙ ap (map string_bytes) c.after_name-words.ensures ∙ sym (drop-map string_bytes 1 c.args.given.now) in
    rw texts at c.answer_words.ensures.answers

pub returns-in-Ok-clause-sheet : goal.returns-in-Ok-clause-sheet
returns-in-Ok-clause-sheet g c some =
    of_words _ (HasRead g.S.Sources.file_readings c.args.files.now c.answer_words.new.files) _ _ _ _ _ (returns-in-Ok-clause-worded g c some)

pub returns-in-Ok-clause-due : goal.returns-in-Ok-clause-due
returns-in-Ok-clause-due g c some =
    due_of_words _ (HasRead g.S.Sources.file_readings c.args.files.now c.answer_words.new.files) _ _ _ _ _ (returns-in-Ok-clause-worded g c some)
