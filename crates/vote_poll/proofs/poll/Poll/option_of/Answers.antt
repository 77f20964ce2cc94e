use Rattle.std.proofs.Common.{◌+◌, map, sym, ap, ◌∙◌, string_bytes, arith}
use Rattle.std.specs.Option.{option_map}
use Rattle.std.specs.Str.{bytes_eq}
use Rattle.std.proofs.lemmas.Grind.{common_steps, elements, moves, pieces}
use Rattle.vote_poll.specs.Names.{place_of}
use Rattle.vote_poll.proofs.NamesLaws.{position-map}
use Rattle.vote_poll.proofs.poll.Poll.option_of.Goals as goal

pub returns : goal.returns
returns c = rw (← c.self.view_is) (ap (option_map (λ place. place + 1)) (
    c.in_ok-place.ensures ∙ sym (position-map (bytes_eq c.args.name.now) string_bytes c.deref.result.now)
    ∙ ap (λ options. place_of c.args.name.now (map string_bytes options)) c.deref.ensures.value))

pub overflow_cast-result : goal.overflow_cast-result
overflow_cast-result c = grind (arith, common_steps, elements, moves, pieces)

pub returns-in_err-place : goal.returns-in_err-place
returns-in_err-place c =
    c.from_residual.ensures ∙ rw (← c.self.view_is) (ap (option_map (λ place. place + 1)) (
    c.in_err-place.ensures ∙ sym (position-map (bytes_eq c.args.name.now) string_bytes c.deref.result.now)
    ∙ ap (λ options. place_of c.args.name.now (map string_bytes options)) c.deref.ensures.value))

pub overflow_add-result : goal.overflow_add-result
overflow_add-result c = grind (arith, common_steps, elements, moves, pieces)
