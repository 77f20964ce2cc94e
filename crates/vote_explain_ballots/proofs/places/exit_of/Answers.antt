use Rattle.vote_explain_ballots.proofs.Words.{◌≡◌, ◌∙◌, length, sym, take, arith, take_more}
use Rattle.vote_explain_ballots.proofs.Scanning.{after_byte, exit_after}
use Rattle.vote_explain_ballots.proofs.places.exit_of.Goals as goal

pub returns-then-not-has_byte : goal.returns-then-not-has_byte
returns-then-not-has_byte c =
    let l = c.loop-before in
    exit_after c.each_line_is_read.ensures c.args.line.now l.before l.part (omega arith) l.invariant (λ less. sym c.has_byte.ensures ∙ c.if-not-has_byte.true)

pub loop-before-preserved : goal.loop-before-preserved
loop-before-preserved c =
    let l = c.loop-before in
    rw (c.next_part-part.ensures, take_more c.args.line.now l.before 0 (omega arith)) (after_byte (take l.before c.args.line.now) l.part l.before _ l.invariant (sym c.has_byte.ensures ∙ c.if-not-has_byte.false))

pub returns : goal.returns
returns c =
    let l = c.loop-before in
    let all : l.before ≡ length c.args.line.now = omega arith in
    rw (← all) (exit_after c.each_line_is_read.ensures c.args.line.now l.before l.part (omega arith) l.invariant (λ less. absurd (omega (arith, less))))
