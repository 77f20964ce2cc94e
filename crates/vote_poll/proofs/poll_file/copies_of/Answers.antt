use Rattle.std.proofs.Common.{◌∙◌, map, arith, string_bytes}
use Rattle.std.proofs.lemmas.List.{length-map, map-append, take_all}
use Rattle.vote_poll.proofs.FirstBad.{copied_more, now}
use Rattle.vote_poll.proofs.poll_file.copies_of.Goals as goal

pub loop-name-preserved : goal.loop-name-preserved
loop-name-preserved c =
    rw (c.in_ok-push.ensures.items, map-append, c.in_ok-from_str.ensures.ok) (
    copied_more c.args.names.now c.loop-name.name-index (map string_bytes c.loop-name.copies.items) c.loop-name-test.true c.loop-name.invariant)

pub returns : goal.returns
returns c = c.loop-name.invariant ∙ take_all c.loop-name.name-index (map now c.args.names.now) (omega (arith, length-map c.args.names.now now, c.loop-name-test.false))
