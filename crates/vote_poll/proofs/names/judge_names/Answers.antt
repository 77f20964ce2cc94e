use Rattle.std.proofs.Common.{◌≡◌, ◌++◌, ◌<◌, [], map, length, refl, ap, sym, ◌∙◌, append-nil, arith}
use Rattle.std.proofs.lemmas.List.{length-map, get_or-map}
use Rattle.vote_poll.proofs.FirstBad.{now, no_text}
use Rattle.vote_poll.proofs.SeenLaws.{bad_before, judged_more, seen_more}
use Rattle.vote_poll.proofs.names.judge_names.Goals as goal

pub loop-place-preserved : goal.loop-place-preserved
loop-place-preserved c =
    let within : c.loop-place.place < length (map now c.args.names.now) = omega (arith, length-map c.args.names.now now, c.loop-place-test.true) in
    let name = sym (get_or-map now c.args.names.now c.loop-place.place no_text [] c.loop-place-test.true) in (
      (λ other. seen_more (map now c.args.names.now) c.loop-place.place _ other _ _ within name (c.loop-place.invariant.0 other) (c.in_ok-judge_name.ensures.noted other)),
      judged_more c.args.list (map now c.args.names.now) c.loop-place.place _ _ _ _ _ name (c.loop-place.invariant.0 _) c.loop-place.invariant.1 c.in_ok-judge_name.ensures.fault,
    )

pub loop-place-init : goal.loop-place-init
loop-place-init c = ((λ other. rw c.requires refl), sym (append-nil c.args.faults.now.items))

pub returns : goal.returns
returns c =
    let all : c.loop-place.place ≡ length (map now c.args.names.now) = omega (arith, length-map c.args.names.now now, c.loop-place-test.false) in
    c.loop-place.invariant.1 ∙ ap (λ n. c.args.faults.now.items ++ bad_before c.args.list (map now c.args.names.now) n) all
