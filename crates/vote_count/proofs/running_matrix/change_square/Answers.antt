-- In the turn of a square the row that it moves is settled by the two votes of each lane, one gone and one come; all other rows stay as they were, by their place.
use Rattle.std.proofs.Common.{◌≡◌, ℕ, ◌+◌, ◌*◌, ◌/◌, ◌<◌, [], get_or, set, subst, sym, ap₂, ◌∙◌, inl, inr, arith}
use Rattle.std.proofs.lemmas.Bool.{cases_eq}
use Rattle.std.proofs.lemmas.List.{get_or-set_other}
use Rattle.std.proofs.lemmas.Simd.{get_or-chunk}
use Rattle.vote_count.specs.Changes.{IsMoved, lane_vote}
use Rattle.vote_count.specs.Rows.{vote_by}
use Rattle.vote_count.proofs.TurnLanes.{moves_by}
use Rattle.vote_count.proofs.Turns.{moved-here, moved-there, turns-with}
use Rattle.vote_count.proofs.running_matrix.change_square.Goals as goal

pub loop-turn-preserved : goal.loop-turn-preserved
loop-turn-preserved c =
    let turns = c.loop-turn.changes in
    let square = c.args.square in
    let turn = c.loop-turn.turn in
    let at : ℕ = 16 * square + turn in
    let row = c.move_lanes.new.lanes in
    let within : at < 64 = omega arith in
    let old = c.args.old.now in
    let new = c.args.new.now in
    let went : (lane : ℕ) → lane < 16 → get_or c.not_over-gone.result lane 0 + lane_vote old square turn lane ≡ 1 =
    λ lane lt. subst (λ v. get_or c.not_over-gone.result lane 0 + v ≡ 1)
    (ap₂ vote_by (get_or-chunk (16 * (square / 2)) 16 old lane 0 lt) (c.around-old_columns.ensures.around (turn + lane) (omega arith)))
    (c.not_over-gone.ensures.each lane lt) in
    let came : (lane : ℕ) → lane < 16 → get_or c.not_over-come.result lane 0 + lane_vote new square turn lane ≡ 1 =
    λ lane lt. subst (λ v. get_or c.not_over-come.result lane 0 + v ≡ 1)
    (ap₂ vote_by (get_or-chunk (16 * (square / 2)) 16 new lane 0 lt) (c.around-new_columns.ensures.around (turn + lane) (omega arith)))
    (c.not_over-come.ensures.each lane lt) in
    record {
      turns = turns-with turns at row c.loop-turn.invariant.turns within c.move_lanes.ensures.long;
      moved = λ t low high. elim (cases_eq t turn) [
        | inl same ↦ subst (λ (s : ℕ). IsMoved c.args.changes.now (set turns at row) (16 * square + s) (lane_vote old square s) (lane_vote new square s)) (sym same)
            (moved-here turns at row c.loop-turn.invariant.turns within c.args.changes.now (lane_vote old square turn) (lane_vote new square turn)
            (c.loop-turn.invariant.waiting at (inr (omega arith)))
            (λ lane lt. moves_by _ _ _ _ _ _ (c.move_lanes.ensures.moved lane lt) (went lane lt) (came lane lt)))
        | inr other ↦ moved-there turns at row c.loop-turn.invariant.turns within c.args.changes.now (lane_vote old square t) (lane_vote new square t) (16 * square + t)
            (λ same. other (omega (arith, same))) (c.loop-turn.invariant.moved t low (omega (arith, high, other)))
      ];
      waiting = λ t outside. elim outside [
        | inl below ↦ get_or-set_other turns at t row [] (λ same. absurd (omega (arith, same))) ∙ c.loop-turn.invariant.waiting t (inl below)
        | inr above ↦ get_or-set_other turns at t row [] (λ same. absurd (omega (arith, same))) ∙ c.loop-turn.invariant.waiting t (inr (omega arith))
      ];
    }

pub returns-clause-others : goal.returns-clause-others
returns-clause-others c turn outside = c.loop-turn.invariant.waiting turn (elim outside [ inl below ↦ inl below | inr above ↦ inr (omega arith) ])
