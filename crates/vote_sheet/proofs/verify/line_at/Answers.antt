-- After each turn the rest of the text begins with the line of that index. A text without a further line feed has no further line.
use Rattle.std.proofs.Common.{◌≡◌, ◌==◌, ◌∙◌, arith, ap, drop, sym}
use Rattle.std.specs.List.{slice_split}
use Rattle.vote_poll_text.specs.Lines.{without_last_feed}
use Rattle.vote_sheet.proofs.FileLines.{after_part, lines_there, no_part, part_at}
use Rattle.vote_sheet.proofs.verify.line_at.Goals as goal

pub returns-in_err-after : goal.returns-in_err-after
returns-in_err-after c =
    let parts = slice_split (λ byte. byte == 10) (without_last_feed c.args.text.now) in
    let some = sym c.is_empty.ensures ∙ c.if-is_empty.false in
    rw (c.from_residual.ensures, lines_there c.args.text.now some) (sym (no_part parts c.loop.counter c.args.place c.loop.rest.now (c.loop.invariant ∙ c.in_err-after.ensures.none) c.loop-test.true))

pub loop-preserved : goal.loop-preserved
loop-preserved c =
    after_part (slice_split (λ byte. byte == 10) (without_last_feed c.args.text.now)) c.loop.counter c.loop.rest.now c.in_ok-after.after.now c.in_ok-after.field-0-0.now
    c.loop.invariant c.in_ok-after.ensures.found

pub returns-in-Some : goal.returns-in-Some
returns-in-Some c =
    let parts = slice_split (λ byte. byte == 10) (without_last_feed c.args.text.now) in
    let some = sym c.is_empty.ensures ∙ c.if-is_empty.false in
    let here : c.loop.counter ≡ c.args.place = omega arith in
    rw (lines_there c.args.text.now some) (sym (part_at parts c.args.place c.in-Some.line.now _ (ap (λ n. drop n parts) (sym here) ∙ c.loop.invariant ∙ c.in-Some.ensures.found)))

pub returns-in-None : goal.returns-in-None
returns-in-None c =
    let parts = slice_split (λ byte. byte == 10) (without_last_feed c.args.text.now) in
    let some = sym c.is_empty.ensures ∙ c.if-is_empty.false in
    let here : c.loop.counter ≡ c.args.place = omega arith in
    rw (lines_there c.args.text.now some) (sym (part_at parts c.args.place c.loop.rest.now _ (ap (λ n. drop n parts) (sym here) ∙ c.loop.invariant ∙ c.in-None.ensures.none)))
