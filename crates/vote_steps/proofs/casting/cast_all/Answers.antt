-- Each pass of the loop casts the next line. So at the end the box holds all lines, in their order, and is closed.
use Rattle.std.proofs.Common.{◌≡◌, ℕ, ◌+◌, ◌∷◌, ◌++◌, [], List, Some, length, refl, sym, ap, ◌∙◌, arith}
use Rattle.std.proofs.lemmas.Bool.{true≢false}
use Rattle.vote_poll.specs.PollContent.{last_in_time}
use Rattle.vote_poll.specs.Readings.{readings}
use Rattle.vote_steps.specs.declared.step.Step.{Step}
use Rattle.vote_steps.specs.declared.step.Step.TheVariants.{Cast, Close}
use Rattle.vote_steps.specs.History.{is_closed, is_used, reply_to}
use Rattle.vote_steps.specs.Boxes.{BoxState, box_of}
use Rattle.vote_steps.proofs.StandingLemmas.{as_long}
use Rattle.vote_steps.proofs.CastLemmas.{casts_of, casts_of_next, casts_of_open, casts_of_unused, holds_lines, in_order, none_cast, read_at}
use Rattle.vote_steps.proofs.casting.cast_all.Goals as goal

pub loop-place-init : goal.loop-place-init
loop-place-init c =
    c.in_ok-ballot_box.ensures ∙ ap (λ n. box_of c.args.poll.now n []) c.len.ensures.number
    ∙ ap (box_of c.args.poll.now (length c.args.lines.now)) (sym (none_cast (last_in_time c.args.poll.now) (readings c.args.poll.now c.args.lines.now)))

pub cast_at_desk_1-requires-clause-unused : goal.cast_at_desk_1-requires-clause-unused
cast_at_desk_1-requires-clause-unused c =
    ap (λ (b : BoxState). is_used b.steps (c.loop-place.place + 1)) c.loop-place.invariant
    ∙ casts_of_unused (last_in_time c.args.poll.now) (readings c.args.poll.now c.args.lines.now) c.loop-place.place (c.loop-place.place + 1) (omega arith)

pub loop-place-preserved : goal.loop-place-preserved
loop-place-preserved c =
    let n = c.loop-place.place + 1 in
    let r = c.read_line-reading.result in
    let f : BoxState → BoxState = λ b. record b { steps = b.steps ++ Cast 1 n r (reply_to b.last_in_time b.steps n r) ∷ [] } in
    let with_steps : List Step → BoxState = box_of c.args.poll.now (length c.args.lines.now) in
    let all = readings c.args.poll.now c.args.lines.now in
    c.cast_at_desk_1.ensures
    ∙ (ap f c.loop-place.invariant
    ∙ ap with_steps (casts_of_next (last_in_time c.args.poll.now) all c.loop-place.place n r
    (read_at c.args.poll.now c.args.lines.now c.loop-place.place c.line.result.now c.line.ensures ∙ ap Some (sym c.read_line-reading.ensures.same)) refl))

pub unreachable-requires : goal.unreachable-requires
unreachable-requires c =
    let closed = c.close.ensures.already.0 c.in_default.is in
    let is_open = ap (λ (b : BoxState). is_closed b.steps) c.loop-place.invariant ∙ casts_of_open (last_in_time c.args.poll.now) (readings c.args.poll.now c.args.lines.now) c.loop-place.place in
    true≢false (sym closed ∙ is_open)

-- all lines are cast, and the box is closed
closed_steps : (c : goal.In-Ok)
    → c.close.new.self ≡ box_of c.args.poll.now (length c.args.lines.now) (casts_of (last_in_time c.args.poll.now) (readings c.args.poll.now c.args.lines.now) (length c.args.lines.now) ++ Close ∷ [])
closed_steps c =
    let close : BoxState → BoxState = λ b. record b { steps = b.steps ++ Close ∷ [] } in
    let all : c.loop-place.place ≡ length c.args.lines.now = omega arith in
    let with_casts : ℕ → BoxState =
    λ n. box_of c.args.poll.now (length c.args.lines.now) (casts_of (last_in_time c.args.poll.now) (readings c.args.poll.now c.args.lines.now) n ++ Close ∷ []) in
    c.in-Ok.ensures.ok ∙ (ap close c.loop-place.invariant ∙ ap with_casts all)

pub returns-clause-held : goal.returns-clause-held
returns-clause-held c =
    let is = closed_steps c in
    holds_lines c.args.poll.now c.args.lines.now c.close.new.self
    (ap (λ (b : BoxState). b.options) is, ap (λ (b : BoxState). b.electors) is, ap (λ (b : BoxState). b.limit) is, ap (λ (b : BoxState). b.last_in_time) is)
    (ap (λ (b : BoxState). b.steps) is)
    c.in-Ok.ensures.legal

pub returns-clause-in_order : goal.returns-clause-in_order
returns-clause-in_order c =
    let all = readings c.args.poll.now c.args.lines.now in
    in_order (last_in_time c.args.poll.now) all c.close.new.self.steps
    (ap (λ (b : BoxState). b.steps) (closed_steps c) ∙ ap (λ n. casts_of (last_in_time c.args.poll.now) all n ++ Close ∷ []) (sym (as_long c.args.poll.now c.args.lines.now)))
