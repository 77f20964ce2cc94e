use Rattle.std.proofs.Common.{◌-◌, ◌<◌, Some, length, sym, ap, refl, ◌∙◌, arith, Global, string_bytes}
use Rattle.std.specs.Option.{option_map}
use Rattle.std.proofs.lemmas.List.{length-map}
use Rattle.std.proofs.lemmas.Option.{slice_get-map, slice_get_read}
use Rattle.std.proofs.lemmas.Grind.{common_steps, elements, moves, pieces}
use Rattle.vote_poll.specs.PollContent.{option_count}
use Rattle.vote_poll.proofs.poll.Poll.option_name.Goals as goal

pub returns : goal.returns
returns c =
    let options = c.self.inside.options.items in
    let fits : c.args.option - 1 < length options = omega (arith, c.requires, length-map options (string_bytes {Z = Global}), ap option_count c.self.view_is) in
    rw (← c.self.view_is) (
    slice_get-map string_bytes options (c.args.option - 1)
    ∙ ap (option_map string_bytes) (slice_get_read options (length options) (c.args.option - 1) c.index.result.now refl fits c.index.ensures)
    ∙ ap Some (sym c.as_str.ensures.value))

pub index-requires : goal.index-requires
index-requires c = grind (arith, common_steps, elements, moves, pieces)
