use Rattle.std.proofs.Common.{◌≡◌, ◌<◌, List, String, Global, sym, ap, ◌∙◌, arith, length, map, get_or, [], string_bytes}
use Rattle.std.proofs.lemmas.List.{length-map, get_or-map}
use Rattle.std.proofs.lemmas.Option.{slice_get_within, get_or_from_slice_get}
use Rattle.std.proofs.lemmas.Grind.{common_steps, elements, moves, pieces}
use Rattle.vote_poll.proofs.NamesLaws.{name-at}
use Rattle.vote_poll.proofs.poll.Poll.voter_name.Goals as goal

pub returns-clause-name : goal.returns-clause-name
returns-clause-name c =
    let keys : List (String Global) = c.self.inside.roll.keys in
    let within : c.args.voter < length c.self.inside.roll.keys = slice_get_within c.self.inside.roll.keys c.args.voter c.in_ok-name.name.now (sym c.in_ok-name.ensures.key) in
    let there : get_or c.self.inside.roll.keys c.args.voter c.in_ok-name.name.now ≡ c.in_ok-name.name.now =
    get_or_from_slice_get c.self.inside.roll.keys c.args.voter c.in_ok-name.name.now c.in_ok-name.name.now (sym c.in_ok-name.ensures.key) in
    let same : c.as_bytes.result.now ≡ get_or (map string_bytes c.self.inside.roll.keys) c.args.voter [] =
    c.as_bytes.ensures.value ∙ c.as_str.ensures.value ∙ ap string_bytes (sym there) ∙ sym (get_or-map string_bytes c.self.inside.roll.keys c.args.voter c.in_ok-name.name.now [] within) in
    let inside : c.args.voter < length (map string_bytes c.self.inside.roll.keys) = omega (arith, length-map c.self.inside.roll.keys (string_bytes {Z = Global})) in
    let found = name-at c.as_bytes.result.now (map string_bytes c.self.inside.roll.keys) c.args.voter c.self.invariant.voter_names inside same in
    (rw (← c.self.view_is) found.0, found.1)

pub returns-clause-found : goal.returns-clause-found
returns-clause-found c = grind (arith, common_steps, elements, moves, pieces)

pub returns-in_err-name-clause-found : goal.returns-in_err-name-clause-found
returns-in_err-name-clause-found c = grind (arith, common_steps, elements, moves, pieces)
