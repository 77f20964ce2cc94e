-- Lines of findings, one after another.
use Rattle.std.proofs.Common.{◌≡◌, ◌+◌, ◌<◌, ◌∷◌, ◌++◌, [], ℕ, List, length, take, refl, ap, sym, subst, ◌∙◌, append_assoc, append-nil, get_or}
use Rattle.std.proofs.lemmas.List.{take_more}
use Rattle.vote_hints.specs.Hints.{Adding, AreLinesFor}

lines_append : {X : Type 0} (Says : X → List ℕ → Type 0) (xs ys : List X) (s t : List ℕ) → AreLinesFor Says xs s → AreLinesFor Says ys t → AreLinesFor Says (xs ++ ys) (s ++ t)
lines_append Says [] ys s t none more = subst (λ (u : List ℕ). AreLinesFor Says ys (u ++ t)) (sym none) more
lines_append Says (x ∷ xs) ys s t first more =
    (first.0, first.1 ++ t, first.2, lines_append Says xs ys first.1 t first.3 more, ap (λ u. u ++ t) first.4 ∙ append_assoc first.0 first.1 t)

-- lines for some were added, and then lines for others
pub lines_on : {X : Type 0} (Says : X → List ℕ → Type 0) (xs ys : List X) (t0 t1 t2 : List ℕ) → Adding (AreLinesFor Says xs) t0 t1 → Adding (AreLinesFor Says ys) t1 t2 → Adding (AreLinesFor Says (xs ++ ys)) t0 t2
lines_on Says xs ys t0 t1 t2 (a, are, e1) (b, more, e2) = (a ++ b, lines_append Says xs ys a b are more, e2 ∙ ap (λ t. t ++ b) e1 ∙ append_assoc t0 a b)

-- a line for the next one was added
pub one_more : {X : Type 0} (Says : X → List ℕ → Type 0) (xs : List X) (i : ℕ) (d x : X) (before between after : List ℕ) → i < length xs → get_or xs i d ≡ x
    → Adding (AreLinesFor Says (take i xs)) before between → Adding (Says x) between after → Adding (AreLinesFor Says (take (i + 1) xs)) before after
one_more Says xs i d x before between after within at first (line, says, e) =
    subst (λ ys. Adding (AreLinesFor Says ys) before after) (sym (take_more xs i d within ∙ ap (λ y. take i xs ++ y ∷ []) at))
    (lines_on Says (take i xs) (x ∷ []) before between after first (line, (line, [], says, refl, sym (append-nil line)), e))
