-- The passes of the tray go to the workers, one each, and come back joined with all parts. So the places that were handed out are all lines, each once.
use Rattle.std.proofs.Common.{◌≡◌, map, sym, ap, ◌∙◌, vec_len, arith}
use Rattle.std.specs.List.{range_with_len}
use Rattle.vote_tray.specs.Passes.{HasAllParts, new_pass}
use Rattle.vote_desks.proofs.BackLemmas.{Contains-range}
use Rattle.vote_desks.proofs.votes.run_desks.Goals as goal

pub returns-clause-cast : goal.returns-clause-cast
returns-clause-cast g c =
    let handed = c.in_ok-back.ensures.handed in
    let same_passes : c.in_ok-back.joined.tray.passes ≡ c.in-Ok.made.0.passes = ap (λ t. t.passes) handed.its_tray in
    let parts : HasAllParts c.in_ok-back.joined = λ part low. rw handed.parts (Contains-range _ part (omega arith)) in
    let word = c.finish.ensures.word in
    let count = c.finish.ensures.count parts in
    let emptied = handed.emptied in
    let size = c.in-Ok.ensures.tray.0 in
    let cast = handed.cast in
    let len = c.len.ensures.number in omega arith
