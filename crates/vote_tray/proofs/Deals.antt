-- Passes are cut off one after another, each with the next part.
use Rattle.std.proofs.Common.{◌≡◌, ℕ, suc, ◌+◌, ◌-◌, ◌<◌, ◌≤◌, List, [], ◌∷◌, ◌++◌, map, take, drop, length, All, sym, refl, ap, subst, ◌∙◌, arith, zero-le}
use Rattle.std.specs.List.{range_with_len}
use Rattle.std.proofs.lemmas.List.FromFn.{length-range_with_len, length-map-range_with_len, get_or-map-range_with_len, map-range_with_len_more}
use Rattle.std.proofs.lemmas.Bool.Decides.{nat_tests}
use Rattle.vote_tray.specs.Numbers.{times, once_below}
use Rattle.vote_tray.specs.Passes.{TrayId, PassState, new_pass, IsSound}

-- a pass that has taken nothing, with these parts
abbrev pub with_parts : TrayId → List ℕ → PassState
with_parts tray parts = record { tray = tray; seen = 0; places = []; parts = parts }

-- the rest of the pass with all parts, after `done` parts were given away
abbrev pub rest_after : TrayId → ℕ → ℕ → PassState
rest_after tray passes done = with_parts tray (range_with_len done (passes - done))

take-range : (a n m : ℕ) → n ≡ suc m → take 1 (range_with_len a n) ≡ a ∷ []
take-range a n m e = rw e refl

drop-range : (a n m : ℕ) → n ≡ suc m → drop 1 (range_with_len a n) ≡ range_with_len (a + 1) m
drop-range a n m e = rw e refl

pub whole : (tray : TrayId) (passes done : ℕ) → done ≡ 0 → with_parts tray (range_with_len 0 passes) ≡ rest_after tray passes done
whole tray passes done e = rw e (ap (λ (k : ℕ). with_parts tray (range_with_len 0 k)) (omega arith))

module _ (tray : TrayId) (passes done : ℕ) (rest : PassState) (is : rest ≡ rest_after tray passes done) where
  pub of_tray : rest.tray ≡ tray
  of_tray = ap (λ (p : PassState). p.tray) is

  pub more_parts : done + 1 < passes → 1 < length rest.parts
  more_parts more = let same = ap (λ (p : PassState). length p.parts) is in let long = length-range_with_len done (passes - done) in omega arith

  pub next_pass : done + 1 < passes → record rest { places = []; parts = take 1 rest.parts } ≡ new_pass tray done
  next_pass more = rw is (ap (with_parts tray) (take-range done (passes - done) (passes - (done + 1)) (omega arith)))

  pub next_rest : done + 1 < passes → record rest { parts = drop 1 rest.parts } ≡ rest_after tray passes (done + 1)
  next_rest more = rw is (ap (with_parts tray) (drop-range done (passes - done) (passes - (done + 1)) (omega arith)))

  pub last_pass : done + 1 ≡ passes → rest ≡ new_pass tray done
  last_pass end = is ∙ (let one : passes - done ≡ 1 = omega arith in ap (λ (k : ℕ). with_parts tray (range_with_len done k)) one)

pub dealt_more : (tray : TrayId) (done : ℕ) (dealt : List PassState) (p : PassState) → dealt ≡ map (new_pass tray) (range_with_len 0 done) → p ≡ new_pass tray done
    → dealt ++ p ∷ [] ≡ map (new_pass tray) (range_with_len 0 (done + 1))
dealt_more tray done dealt p is next = rw (is, next) (sym (map-range_with_len_more (new_pass tray) 0 done done (omega arith)))

once_at_most : (n k x : ℕ) → k < n → times x (k ∷ []) ≤ once_below n x
once_at_most n k x low = grind (arith, nat_tests)

pub all_sound : (tray : TrayId) (n : ℕ) → n ≡ tray.passes → All IsSound (map (new_pass tray) (range_with_len 0 n))
all_sound tray n is i d short =
    let len = length-map-range_with_len (new_pass tray) 0 n in
    let low : i < n = omega arith in
    subst IsSound (sym (get_or-map-range_with_len (new_pass tray) 0 n i i d low (omega arith))) (zero-le, (λ x. zero-le), (λ x. once_at_most tray.passes i x (omega arith)))
