-- Lists of elements with consecutive numbers.
use Rattle.std.proofs.Common.{◌≡◌, ℕ, ◌+◌, ◌<◌, zero, suc, List, [], ◌∷◌, length, get_or, map, refl, sym, ap, ◌∙◌, arith}
use Rattle.std.specs.List.{range_with_len, enumerate_from}
use Rattle.std.proofs.lemmas.List.{get_or-map, length-map}
use Rattle.std.proofs.lemmas.List.FromFn.{length-range_with_len, get_or-range_with_len}

-- numbers that count up from n are the range from n
pub counts_up : {X : Type 0} (f : X → ℕ) (n m : ℕ) (xs : List X) → length xs ≡ m → ((k : ℕ) (d : X) → k < length xs → f (get_or xs k d) ≡ n + k) → map f xs ≡ range_with_len n m
counts_up f n zero [] len each = refl
counts_up f n (suc m) [] len each = absurd (omega arith)
counts_up f n zero (x ∷ xs) len each = absurd (omega arith)
counts_up f n (suc m) (x ∷ xs) len each =
    let first : f x ≡ n = omega (arith, each 0 x (omega arith)) in
    let rest : map f xs ≡ range_with_len (n + 1) m = counts_up f (n + 1) m xs (omega arith) (λ k d lt. omega (arith, each (suc k) d (omega (arith, lt)))) in
    cc

-- if the numbers of the elements are a range, each element's number is its index counted from n
pub numbered : {X Y : Type 0} (f : X → ℕ) (g : X → Y) (n m : ℕ) (xs : List X) → map f xs ≡ range_with_len n m → map (λ x. (f x, g x)) xs ≡ enumerate_from n (map g xs)
numbered f g n m [] h = refl
numbered f g n zero (x ∷ xs) h = cc
numbered f g n (suc m) (x ∷ xs) h =
    let first : f x ≡ n = cc in
    let tail : map f xs ≡ range_with_len (n + 1) m = cc in
    let rest = numbered f g (n + 1) m xs tail in
    cc

pub length_range : {X : Type 0} (f : X → ℕ) (n m : ℕ) (xs : List X) → map f xs ≡ range_with_len n m → length xs ≡ m
length_range f n m xs e = sym (length-map xs f) ∙ ap length e ∙ length-range_with_len n m

-- if the numbers are a range from n, the number at index k is n + k
pub at_range : {X : Type 0} (f : X → ℕ) (n m : ℕ) (xs : List X) (k : ℕ) (d : X) → map f xs ≡ range_with_len n m → k < length xs → f (get_or xs k d) ≡ n + k
at_range f n m xs k d e h =
    sym (get_or-map f xs k d 0 h) ∙ ap (λ ys. get_or ys k 0) e ∙ get_or-range_with_len n m k 0 (omega (arith, h, length_range f n m xs e))
