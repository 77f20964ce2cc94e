use Rattle.std.proofs.Common.{◌<◌, ℕ, List, Some, length, arith, ap, sym, ◌∙◌, Bor}
use Rattle.std.specs.List.{slice_get}
use Rattle.std.specs.Option.{option_map}
use Rattle.std.proofs.lemmas.Grind.{common_steps, elements, moves, pieces}
use Rattle.std.proofs.lemmas.List.{length-map}
use Rattle.std.proofs.lemmas.Option.{slice_get-get_or, slice_get-map}
use Rattle.vote_poll_text.proofs.lines.Lines.line.Goals as goal

abbrev now : Bor (List ℕ) → List ℕ
now line = line.now

pub index-requires : goal.index-requires
index-requires c = grind (arith, common_steps, elements, moves, pieces)

pub returns : goal.returns
returns c =
    let items = c.self.inside.lines.items in
    let within : c.args.place < length c.self.inside.lines.items = omega (arith, c.requires, ap length c.self.view_is, length-map items now) in
    ap (λ lines. slice_get lines c.args.place) (sym c.self.view_is) ∙ slice_get-map now items c.args.place
    ∙ ap (option_map now) (slice_get-get_or items c.args.place _ within ∙ ap Some (sym c.index.ensures))
