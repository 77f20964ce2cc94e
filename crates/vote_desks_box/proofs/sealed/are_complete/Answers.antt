use Rattle.std.proofs.Common.{◌≡◌, ◌≤◌, false, true, length, ap, refl, rules, arith}
use Rattle.vote_desks_box.specs.Desks.{DeskState}
use Rattle.vote_desks_box.proofs.Ranges.{counts_up, at_range, length_range}
use Rattle.vote_desks_box.proofs.sealed.are_complete.Goals as goal

pub returns-then-desks-from-clause-complete : goal.returns-then-desks-from-clause-complete
returns-then-desks-from-clause-complete g c =
    (λ t. absurd (let f : false ≡ true = t in cc), λ e. absurd (let len = length_range (λ desk. desk.number) 1 c.args.opened c.args.desks.now e in let other = c.if-desks-from.true in let from = c.from.ensures in omega arith))

pub returns-then-from-place-clause-complete : goal.returns-then-from-place-clause-complete
returns-then-from-place-clause-complete g c =
    (λ t. absurd (let f : false ≡ true = t in cc), λ e. absurd (let here = at_range (λ desk. desk.number) 1 c.args.opened c.args.desks.now c.loop-place.place c.index-desks-place.result e (omega arith) in let at = ap (λ (d : DeskState). d.number) c.index-desks-place.is in omega arith))

pub returns-clause-complete : goal.returns-clause-complete
returns-clause-complete g c = (
  λ t. (
      let same : length c.args.desks.now ≡ c.args.opened = search rules in
      let all : length c.args.desks.now ≤ c.loop-place.place = search rules in
      counts_up (λ desk. desk.number) 1 c.args.opened c.args.desks.now same (λ k d lt. omega (arith, c.loop-place.invariant k d (omega (arith, lt, all))))
      ),
  λ e. refl,
)
