-- A closed history was closed once: how many casts it has, and where the close is.
use Rattle.std.proofs.Common.{◌≡◌, ℕ, ◌+◌, ◌-◌, ◌≤◌, zero, suc, cond, ltb, true, not, List, [], ◌∷◌, Option, Some, None, length, get_or, refl, ap, ◌∙◌, arith}
use Rattle.std.specs.Prelude.{position}
use Rattle.std.specs.List.{count_by, prefix_len}
use Rattle.std.proofs.lemmas.Bool.{lt-ltb}
use Rattle.vote_count.proofs.Counts.{count-cons}
use Rattle.vote_steps.specs.declared.Step.{Step}
use Rattle.vote_steps.specs.declared.Step.TheVariants.{Cast, Close}
use Rattle.vote_steps.specs.History.{is_cast, is_close, is_closed}

casts_and_closes : (steps : List Step) → count_by is_cast steps + count_by is_close steps ≡ length steps
casts_and_closes [] = refl
casts_and_closes (Close ∷ steps) = omega (arith, casts_and_closes steps, count-cons is_cast Close steps, count-cons is_close Close steps)
casts_and_closes (Cast d n r p ∷ steps) = omega (arith, casts_and_closes steps, count-cons is_cast (Cast d n r p) steps, count-cons is_close (Cast d n r p) steps)

closed_once : (steps : List Step) → is_closed steps ≡ true → 1 ≤ count_by is_close steps
closed_once [] closed = cc
closed_once (Close ∷ steps) closed = omega (arith, count-cons is_close Close steps)
closed_once (Cast d n r p ∷ steps) closed = omega (arith, closed_once steps closed, count-cons is_close (Cast d n r p) steps)

pub casts_of_closed : (steps : List Step) → is_closed steps ≡ true → count_by is_close steps ≤ 1 → (1 ≤ length steps) × (length steps - 1 ≡ count_by is_cast steps)
casts_of_closed steps closed once =
    let all = casts_and_closes steps in
    let some = closed_once steps closed in (omega arith, omega arith)

last_is_close : (steps : List Step) (i : ℕ) → i + 1 ≡ length steps → get_or steps i Close ≡ Close → 1 ≤ count_by is_close steps
last_is_close [] i end here = absurd (omega arith)
last_is_close (Close ∷ steps) i end here = omega (arith, count-cons is_close Close steps)
last_is_close (Cast d n r p ∷ steps) zero end here = cc
last_is_close (Cast d n r p ∷ steps) (suc i) end here = omega (arith, last_is_close steps i (omega arith) here, count-cons is_close (Cast d n r p) steps)

first_close : (steps : List Step) (i : ℕ) → i + 1 ≡ length steps → get_or steps i Close ≡ Close → count_by is_close steps ≤ 1 → prefix_len (λ s. not (is_close s)) steps ≡ i
first_close [] i end here once = absurd (omega arith)
first_close (Close ∷ steps) zero end here once = refl
first_close (Close ∷ steps) (suc i) end here once = absurd (omega (arith, last_is_close steps i (omega arith) here, count-cons is_close Close steps))
first_close (Cast d n r p ∷ steps) zero end here once = cc
first_close (Cast d n r p ∷ steps) (suc i) end here once =
    let next = first_close steps i (omega arith) here (omega (arith, count-cons is_close (Cast d n r p) steps)) in omega arith

-- a close that is the last step is the first close
pub last_close : (steps : List Step) (i : ℕ) → i + 1 ≡ length steps → get_or steps i Close ≡ Close → count_by is_close steps ≤ 1 → position is_close steps ≡ Some i
last_close steps i end here once =
    ap (λ n. cond {A = Option ℕ} (ltb n (length steps)) (Some n) None) (first_close steps i end here once) ∙ ap (λ t. cond {A = Option ℕ} t (Some i) None) (lt-ltb i (length steps) (omega arith))
