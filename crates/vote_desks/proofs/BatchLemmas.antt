-- What a pass has after it has taken one more place.
use Rattle.std.proofs.Common.{◌≡◌, ℕ, ◌+◌, ◌-◌, ◌<◌, ◌≤◌, List, [], ◌∷◌, ◌++◌, length, get_or, sym, ap, ◌∙◌, subst, arith}
use Rattle.std.specs.List.{All}
use Rattle.std.specs.List.Sorted.{IsStrictlyIncreasing}
use Rattle.std.proofs.lemmas.Grind.{common_steps}
use Rattle.std.proofs.lemmas.List.{get_or_push, length_push, map_push}
use Rattle.std.proofs.lemmas.List.Elements.{All-push}
use Rattle.vote_tray.specs.Passes.{PassState, with_place}
use Rattle.vote_desks.specs.Work.{IsRising, last_stamp, stamps_taken}

increasing_push : (xs : List ℕ) (y : ℕ) → IsStrictlyIncreasing xs → All (λ x. x < y) xs → IsStrictlyIncreasing (xs ++ y ∷ [])
increasing_push xs y up below k lt = let less = up k in let low = below k 0 in grind (arith, common_steps)

pub rising_with : (pass : PassState) (place : ℕ) → IsRising pass → pass.seen ≤ place → place < pass.tray.size → IsRising (with_place pass place)
rising_with pass place h seen inside =
    let more : stamps_taken (with_place pass place) ≡ stamps_taken pass ++ (place + 1) ∷ [] = map_push (λ p. p + 1) pass.places place in
    let few = h.few in
    record {
      rising = subst IsStrictlyIncreasing (sym more) (increasing_push (stamps_taken pass) (place + 1) h.rising (λ k d lt. let le = h.below k d lt in omega arith));
      below = subst (All (λ stamp. stamp ≤ place + 1)) (sym more) (All-push (λ stamp. stamp ≤ place + 1) (stamps_taken pass) (place + 1) (λ k d lt. let le = h.below k d lt in omega arith) (omega arith));
      few = (let len = ap length more ∙ length_push (stamps_taken pass) (place + 1) in omega arith);
      within = omega arith;
    }

pub last_with : (pass : PassState) (place : ℕ) → last_stamp (with_place pass place) ≡ place + 1
last_with pass place =
    let before = stamps_taken pass in
    let more : stamps_taken (with_place pass place) ≡ before ++ (place + 1) ∷ [] = map_push (λ p. p + 1) pass.places place in
    ap (λ xs. get_or xs (length xs - 1) 0) more ∙ get_or_push before (place + 1) 0 (length (before ++ (place + 1) ∷ []) - 1) (let len = length_push before (place + 1) in omega arith)
