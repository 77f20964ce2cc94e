use Rattle.std.proofs.Common.{◌+◌, ℕ, Option, arith, subst}
use Rattle.vote_sheet.specs.Counted.{IsLastLine}
use Rattle.vote_sheet.specs.Verify.{IsComparison}
use Rattle.vote_sheet.proofs.Verifying.{closest_found, last_is_unique, next_searched}
use Rattle.vote_sheet.proofs.verify.find_last.Goals as goal

pub loop-before-preserved : goal.loop-before-preserved
loop-before-preserved c =
    let poll = c.args.poll.now in
    let count = c.args.count.now in
    let compared = c.in_ok-lines-2.ensures in
    let P : Option ℕ → Type 0 = λ o. IsComparison c.args.text.now compared.0 o in
    let other = subst P c.in-Some-2.is compared.2 in
    next_searched poll (IsLastLine poll count) (last_is_unique c.decisions_are_determined.ensures poll count) c.args.text.now (c.loop-before.before + 1) c.loop-before.closest c.loop-before.invariant
    compared.0 compared.1 other.0 (omega arith, omega arith) c.in-Some-2.lines other.1 c.closer-closest.result c.closer-closest.ensures.longer c.closer-closest.ensures.no_longer

pub returns : goal.returns
returns c =
    closest_found c.args.poll.now (IsLastLine c.args.poll.now c.args.count.now) c.args.text.now (c.loop-before.before + 1) c.loop-before.closest.casting c.loop-before.closest.lines c.loop-before.invariant (omega arith)
