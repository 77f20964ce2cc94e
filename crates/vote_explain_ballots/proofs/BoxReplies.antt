-- What the box replies to the lines that one desk casts in their order.
use Rattle.vote_explain_ballots.proofs.Words.{◌≡◌, ◌+◌, ◌≤◌, ◌++◌, ◌∙◌, ℕ, zero, suc, List, [], ◌∷◌, drop, length, take, refl, ap, sym, Some, false, arith, slice_get, take-append-drop, option_and_then, nat_tests, drop_more, take-append-le}
use Rattle.vote_explain_ballots.proofs.Words.{get_or_from_slice_get, slice_get_within, reading, Reading, before_close, is_closed, reply_to, RefusedAsBySteps, refusing, refusing_reply}
use Rattle.vote_steps.specs.declared.Step.{Step}
use Rattle.vote_steps.specs.declared.Step.TheVariants.{Cast, Close}
use Rattle.vote_steps.proofs.CastLemmas.{read_at}

-- the reply of an open box refuses the line that is late or no ballot
refuses_as_read : (last : ℕ) (before : List Step) (stamp : ℕ) (read : Reading) → is_closed before ≡ false → refusing (Cast 1 stamp read (reply_to last before stamp read)) ≡ refusing_reply last stamp read
refuses_as_read last before stamp read is_open = grind (arith, nat_tests)

-- the box is open before its close
open_before : (steps : List Step) (place : ℕ) → is_closed (take place (before_close steps)) ≡ false
open_before steps zero = refl
open_before [] (suc place) = refl
open_before (step ∷ steps) (suc place) = grind (arith, open_before steps place)

split_at : (steps : List Step) (place : ℕ) (step : Step) → slice_get steps place ≡ Some step → steps ≡ take place steps ++ step ∷ drop (place + 1) steps
split_at steps place step at =
    sym (take-append-drop place steps) ∙ ap (λ rest. take place steps ++ rest) (drop_more steps place step (slice_get_within steps place step at))
    ∙ ap (λ here. take place steps ++ here ∷ drop (place + 1) steps) (get_or_from_slice_get steps place step step at)

pub replies_of_box : RefusedAsBySteps
replies_of_box poll lines b holds order place bytes at =
    let read = reading poll bytes in
    let (reply, is_cast) = order place read (read_at poll lines place bytes at) in
    let front = before_close b.steps in
    let within : place ≤ length front = omega (arith, holds.casts, slice_get_within lines place bytes at) in
    let legal = holds.legal (take place b.steps) (drop (place + 1) b.steps) (Cast 1 (place + 1) read reply) (split_at b.steps place (Cast 1 (place + 1) read reply) is_cast) in
    let is_open = ap (λ steps. is_closed (take place steps)) holds.closed_last ∙ ap is_closed (take-append-le place front (Close ∷ []) within) ∙ open_before b.steps place in
    ap (option_and_then refusing) is_cast ∙ ap (λ r. refusing (Cast 1 (place + 1) read r)) legal.answered
    ∙ refuses_as_read b.last_in_time (take place b.steps) (place + 1) read is_open ∙ ap (λ last. refusing_reply last (place + 1) read) holds.sizes.3
