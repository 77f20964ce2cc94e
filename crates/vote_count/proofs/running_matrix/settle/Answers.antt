-- The turns so far are settled, and the others are as they were.
use Rattle.std.proofs.Common.{◌≡◌, ℕ, ◌+◌, ◌%◌, ◌<◌, ◌≤◌, List, [], get_or, subst, arith}
use Rattle.vote_count.specs.Changes.{IsSettled, turn_of}
use Rattle.vote_count.proofs.Cells.{rows_with}
use Rattle.vote_count.proofs.Turns.{turns-with}
use Rattle.vote_count.proofs.running_matrix.settle.Goals as goal

pub loop-turn-preserved : goal.loop-turn-preserved
loop-turn-preserved c =
    let turn = c.loop-turn.turn in
    let settled = c.loop-turn.settled in
    let changes = c.loop-turn.changes in
    let sums = c.settle_turn.new.settled in
    let even = c.settle_turn.new.changes in
    let first = c.args.settled.now in
    let first_changes = c.args.changes.now in
    let within : turn < 64 = omega (arith, c.turns_of-turn-end.ensures.at_most) in
    record {
      settled = turns-with settled turn sums c.loop-turn.invariant.settled within c.settle_turn.ensures.settled_long;
      changes = turns-with changes turn even c.loop-turn.invariant.changes within c.settle_turn.ensures.changes_long;
      even = λ t lane before lt. rows_with changes turn even (omega (arith, c.loop-turn.invariant.changes.0)) (λ i r. i < turn + 1 → get_or r lane 0 ≡ 128)
          (λ i other le. c.loop-turn.invariant.even i lane (omega (arith, other, le)) lt) (λ _. c.settle_turn.ensures.even lane lt) t before;
      sums = λ t lane before lt. rows_with settled turn sums (omega (arith, c.loop-turn.invariant.settled.0))
          (λ i r. i < turn + 1 → IsSettled (get_or (get_or first i []) lane 0) (get_or (get_or first_changes i []) lane 0) (get_or r lane 0))
          (λ i other le. c.loop-turn.invariant.sums i lane (omega (arith, other, le)) lt)
          (λ _. subst (λ (r : List ℕ). IsSettled (get_or r lane 0) (get_or (get_or first_changes turn []) lane 0) (get_or sums lane 0)) (c.loop-turn.invariant.settled_wait turn (omega arith))
          (subst (λ (r : List ℕ). IsSettled (get_or (get_or settled turn []) lane 0) (get_or r lane 0) (get_or sums lane 0)) (c.loop-turn.invariant.changes_wait turn (omega arith))
          (c.settle_turn.ensures.sums lane lt)))
          t before;
      settled_wait = λ t past. rows_with settled turn sums (omega (arith, c.loop-turn.invariant.settled.0)) (λ i r. turn + 1 ≤ i → r ≡ get_or first i [])
          (λ i other le. c.loop-turn.invariant.settled_wait i (omega (arith, other, le))) (λ le. absurd (omega (arith, le))) t past;
      changes_wait = λ t past. rows_with changes turn even (omega (arith, c.loop-turn.invariant.changes.0)) (λ i r. turn + 1 ≤ i → r ≡ get_or first_changes i [])
          (λ i other le. c.loop-turn.invariant.changes_wait i (omega (arith, other, le))) (λ le. absurd (omega (arith, le))) t past;
    }

pub returns-clause-even : goal.returns-clause-even
returns-clause-even c row column in_row in_column =
    c.loop-turn.invariant.even (turn_of row column) (row % 16) (omega (arith, c.turns_of-turn-end.ensures.all row column in_row in_column)) (omega arith)

pub returns-clause-same : goal.returns-clause-same
returns-clause-same c row column in_row in_column =
    let sum = c.requires.sums row column in_row in_column in
    let turn_in : turn_of row column < c.loop-turn.turn = omega (arith, c.turns_of-turn-end.ensures.all row column in_row in_column) in
    let lane_in : row % 16 < 16 = omega arith in
    let even = c.loop-turn.invariant.even (turn_of row column) (row % 16) turn_in lane_in in
    let settled = c.loop-turn.invariant.sums (turn_of row column) (row % 16) turn_in lane_in sum.0 sum.1 in
    omega (arith, even, settled)
