-- Each pass of the loop moves this turn, and the turn as far back; up to eight options meet in no other turn.
use Rattle.std.proofs.Common.{◌≡◌, ◌≢◌, ℕ, ◌+◌, ◌-◌, ◌<◌, [], get_or, set, subst, sym, ap₂, ◌∙◌, refl, inl, inr, arith}
use Rattle.std.proofs.lemmas.Bool.{cases_eq}
use Rattle.std.proofs.lemmas.List.{get_or-set_other}
use Rattle.std.proofs.lemmas.Simd.{get_or-chunk}
use Rattle.vote_count.specs.Changes.{AreTurns, IsFewTurn, IsMoved, lane_vote}
use Rattle.vote_count.specs.Rows.{vote_by}
use Rattle.vote_count.proofs.TurnLanes.{moves_by}
use Rattle.vote_count.proofs.Turns.{moved-here, moved-there, turns-with}
use Rattle.vote_count.proofs.running_matrix.change_few.Goals as goal

-- a turn that is neither this turn nor the turn as far back
earlier : (turn t : ℕ) → t ≢ turn → t ≢ 16 - turn → IsFewTurn (turn + 1) t → IsFewTurn turn t
earlier turn t other other_back is =
    elim is [
      | inl ahead ↦ inl (ahead.0, omega (arith, ahead.1, other))
      | inr back ↦ inr (omega (arith, back.0, back.1, other_back), back.1)
    ]

pub loop-turn-preserved : goal.loop-turn-preserved
loop-turn-preserved c =
    let turns = c.loop-turn.changes in
    let turn = c.loop-turn.turn in
    let back : ℕ = 16 - turn in
    let row = c.move_lanes.new.lanes in
    let row_back = c.move_lanes-in-loop-turn.new.lanes in
    let first = c.args.changes.now in
    let old = c.args.old.now in
    let new = c.args.new.now in
    let within : turn < 64 = omega arith in
    let within_back : back < 64 = omega arith in
    let apart : back ≢ turn = λ same. absurd (omega (arith, same)) in
    let are : AreTurns (set turns turn row) = turns-with turns turn row c.loop-turn.invariant.turns within c.move_lanes.ensures.long in
    let gone : (lane : ℕ) → lane < 16 → get_or c.not_over-gone.result lane 0 + lane_vote old 0 turn lane ≡ 1 =
    λ lane lt. subst (λ v. get_or c.not_over-gone.result lane 0 + v ≡ 1)
    (ap₂ vote_by (get_or-chunk 0 16 old lane 0 lt) (c.around-old_columns.ensures.around (turn + lane) (omega arith))) (c.not_over-gone.ensures.each lane lt) in
    let come : (lane : ℕ) → lane < 16 → get_or c.not_over-come.result lane 0 + lane_vote new 0 turn lane ≡ 1 =
    λ lane lt. subst (λ v. get_or c.not_over-come.result lane 0 + v ≡ 1)
    (ap₂ vote_by (get_or-chunk 0 16 new lane 0 lt) (c.around-new_columns.ensures.around (turn + lane) (omega arith))) (c.not_over-come.ensures.each lane lt) in
    let gone_back : (lane : ℕ) → lane < 16 → get_or c.not_over-gone_back.result lane 0 + lane_vote old 0 back lane ≡ 1 =
    λ lane lt. subst (λ v. get_or c.not_over-gone_back.result lane 0 + v ≡ 1)
    (ap₂ vote_by (get_or-chunk 0 16 old lane 0 lt) (c.around-old_columns.ensures.around (back + lane) (omega arith))) (c.not_over-gone_back.ensures.each lane lt) in
    let come_back : (lane : ℕ) → lane < 16 → get_or c.not_over-come_back.result lane 0 + lane_vote new 0 back lane ≡ 1 =
    λ lane lt. subst (λ v. get_or c.not_over-come_back.result lane 0 + v ≡ 1)
    (ap₂ vote_by (get_or-chunk 0 16 new lane 0 lt) (c.around-new_columns.ensures.around (back + lane) (omega arith))) (c.not_over-come_back.ensures.each lane lt) in
    let here : IsMoved first (set turns turn row) turn (lane_vote old 0 turn) (lane_vote new 0 turn) =
    moved-here turns turn row c.loop-turn.invariant.turns within first (lane_vote old 0 turn) (lane_vote new 0 turn)
    (c.loop-turn.invariant.waiting turn (inr (omega arith, omega arith)))
    (λ lane lt. moves_by _ _ _ _ _ _ (c.move_lanes.ensures.moved lane lt) (gone lane lt) (come lane lt)) in
    let here_back : IsMoved first (set (set turns turn row) back row_back) back (lane_vote old 0 back) (lane_vote new 0 back) =
    moved-here (set turns turn row) back row_back are within_back first (lane_vote old 0 back) (lane_vote new 0 back)
    (get_or-set_other turns turn back row [] apart ∙ c.loop-turn.invariant.waiting back (inr (omega arith, omega arith)))
    (λ lane lt. moves_by _ _ _ _ _ _ (c.move_lanes-in-loop-turn.ensures.moved lane lt) (gone_back lane lt) (come_back lane lt)) in
    record {
      turns = turns-with (set turns turn row) back row_back are within_back c.move_lanes-in-loop-turn.ensures.long;
      moved = λ t is. elim (cases_eq t back) [
        | inl same ↦ subst (λ (s : ℕ). IsMoved first (set (set turns turn row) back row_back) s (lane_vote old 0 s) (lane_vote new 0 s)) (sym same) here_back
        | inr other_back ↦ moved-there (set turns turn row) back row_back are within_back first (lane_vote old 0 t) (lane_vote new 0 t) t other_back (elim (cases_eq t turn) [
          | inl same ↦ subst (λ (s : ℕ). IsMoved first (set turns turn row) s (lane_vote old 0 s) (lane_vote new 0 s)) (sym same) here
          | inr other ↦ moved-there turns turn row c.loop-turn.invariant.turns within first (lane_vote old 0 t) (lane_vote new 0 t) t other
              (c.loop-turn.invariant.moved t (earlier turn t other other_back is))
        ])
      ];
      waiting = λ t waits. elim waits [
        | inl zero ↦ get_or-set_other (set turns turn row) back t row_back [] (λ same. absurd (omega (arith, same, zero)))
            ∙ get_or-set_other turns turn t row [] (λ same. absurd (omega (arith, same, zero))) ∙ c.loop-turn.invariant.waiting t (inl zero)
        | inr between ↦ get_or-set_other (set turns turn row) back t row_back [] (λ same. absurd (omega (arith, same, between.1)))
            ∙ get_or-set_other turns turn t row [] (λ same. absurd (omega (arith, same, between.0))) ∙ c.loop-turn.invariant.waiting t (inr (omega (arith, between.0), omega (arith, between.1)))
      ];
    }

pub returns-clause-moved : goal.returns-clause-moved
returns-clause-moved c t is = c.loop-turn.invariant.moved t (elim is [
  | inl ahead ↦ inl (ahead.0, omega (arith, ahead.1))
  | inr back ↦ inr (omega (arith, back.0), back.1)
])

pub returns-clause-first : goal.returns-clause-first
returns-clause-first c = c.loop-turn.invariant.waiting 0 (inl refl)
