-- By the clauses `sheet`, `due`, `no_input` and `output` of `answer`: the words ask for the sheet of the two files, which tell their bytes and their readings.
use Rattle.std.proofs.Common.{arith, ap, refl, ◌∙◌, ◌≡◌, ◌<◌, ◌∷◌, [], codes, drop, length, List, map, None, ℕ, Some, string_bytes, Vec}
use Rattle.std.specs.Prelude.{Bool, if◌then◌else◌}
use Rattle.std.specs.Global.{Global}
use Rattle.std.specs.declared.string.String.{String}
use Rattle.vote_program.specs.Outputs.{Written}
use Rattle.vote_memory.specs.CountWords.{count_words}
use Rattle.vote_memory.proofs.Asked.{asks_in_memory, sheet_of_memory}
use Rattle.vote_memory.proofs.count.count_by_words.Goals as goal

many_words : {Z : Type 0} (casting : Bool) (words : List (String Z)) → map string_bytes words ≡ codes "debvote" ∷ count_words casting → 1 < length words
many_words casting [] is = omega (arith, ap length is)
many_words casting (word ∷ []) is = omega (arith, ap length is)
many_words casting (word ∷ next ∷ rest) is = omega arith

pub returns-clause-sheet : goal.returns-clause-sheet
returns-clause-sheet g c few =
    let before = c.new-sink.result in
    let after = c.answer-status.new.sink in
    let said = c.answer-status.new.errors in
    let written : Written = record {
      old = record { bytes = Some before.writer.items; faults = before.meter.faults; flushed = before.flushed.value };
      new = record { bytes = Some after.writer.items; faults = after.meter.faults; flushed = after.flushed.value };
    } in
    let many = many_words c.args._casting c.args.words.now c.requires.words in
    let told = sheet_of_memory c.args._casting c.args.files c.answer-status.new.files _ written _ c.args.output.items after.writer.items said.writer.items c.answer-status.result
    (ap (drop 1) c.requires.words)
    c.requires.unread
    (ap (λ (v : Vec ℕ Global). Some v.items) c.new-sink.ensures.writer)
    refl
    (ap (λ (v : Vec ℕ Global). Some v.items) c.new-errors.ensures.writer ∙ ap Some c.new.ensures.items)
    refl
    (c.answer-status.ensures.sheet many)
    few in
    (told.0, told.1, told.2, told.3, told.4, c.answer-status.ensures.no_input many ∙ c.new-input.ensures)

pub returns-clause-due : goal.returns-clause-due
returns-clause-due g c =
    c.answer-status.ensures.due (many_words c.args._casting c.args.words.now c.requires.words)
    c.args.files.poll c.args.files.ballots (if c.args._casting then Some (codes "B") else None)
    (asks_in_memory c.args._casting c.args.files _ (ap (drop 1) c.requires.words))
