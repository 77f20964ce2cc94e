use Rattle.std.proofs.Common.{◌+◌, ◌∙◌, take, drop, sym, ap}
use Rattle.std.proofs.lemmas.Bool.{eq-eqb, ne_eqb}
use Rattle.std.proofs.lemmas.List.{take_rest}
use Rattle.vote_poll.specs.Readings.{is_space}
use Rattle.vote_poll.proofs.FirstFound.{found-at, found-nowhere, none-more}
use Rattle.vote_poll.proofs.ReadingLaws.{position-found, position-none}
use Rattle.vote_poll.proofs.reading.split_at_space.Goals as goal

pub returns-then-line-end-eq32-clause-before : goal.returns-then-line-end-eq32-clause-before
returns-then-line-end-eq32-clause-before c =
    let line = c.args.line.now in
    let end = c.loop-end.end in
    let at = position-found is_space line end (found-at is_space line end 0 c.loop-end-test.true c.loop-end.invariant (eq-eqb _ 32 c.if-line-end-eq32.true)) in
    ap (λ n. take n line) (sym at.0)

pub returns-then-line-end-eq32-clause-after : goal.returns-then-line-end-eq32-clause-after
returns-then-line-end-eq32-clause-after c =
    let line = c.args.line.now in
    let end = c.loop-end.end in
    let at = position-found is_space line end (found-at is_space line end 0 c.loop-end-test.true c.loop-end.invariant (eq-eqb _ 32 c.if-line-end-eq32.true)) in
    take_rest line (end + 1) ∙ ap (λ n. drop (n + 1) line) (sym at.0)

pub loop-end-preserved : goal.loop-end-preserved
loop-end-preserved c = none-more is_space c.args.line.now c.loop-end.end 0 c.loop-end-test.true c.loop-end.invariant (ne_eqb _ 32 c.if-line-end-eq32.false)

pub returns-clause-none : goal.returns-clause-none
returns-clause-none c = position-none is_space c.args.line.now (found-nowhere is_space c.args.line.now c.loop-end.end c.loop-end-test.false c.loop-end.invariant)
