-- The effect of one operation on each of the sixteen lanes of a turn: a vote is moved by one, or a change is added.
use Rattle.std.proofs.Common.{◌≡◌, ℕ, ◌+◌, ◌-◌, ◌%◌, ◌<◌, ◌≤◌, List, Bool, false, cond, nat_le, length, get_or, take, map, replicate, ap, sym, ◌∙◌, inl, inr, arith}
use Rattle.std.specs.Simd.Lanes.{zip2, sel_l, put_chunk}
use Rattle.std.proofs.lemmas.Simd.{length-zip2, get_or-zip2, get_or-replicate, length-sel_l, get_or-sel_l, length-chunk, get_or-chunk, get_or-put_chunk_at}
use Rattle.std.proofs.lemmas.List.{length-map}
use Rattle.std.proofs.Math.ListN.{get_or-map}
use Rattle.std.proofs.lemmas.Bool.{le-leb, le-ltb, lt-leb, lt-ltb, cases_lt}
use Rattle.vote_count.specs.Changes.{Moves}
use Rattle.vote_count.specs.Rows.{vote_by}

-- ---- one or zero at each option
abbrev pub ones : List Bool → List ℕ
ones tests = sel_l tests (replicate 16 1) (replicate 16 0)

module _ (rows met : List ℕ) (long_rows : length rows ≡ 16) (long_met : length met ≡ 16) where
  tests-long : length (zip2 nat_le met rows) ≡ 16
  tests-long = length-zip2 nat_le met rows (long_met ∙ sym long_rows) ∙ long_met

  pub not_over-long : length (ones (zip2 nat_le met rows)) ≡ 16
  not_over-long = length-sel_l {X = ℕ} (zip2 nat_le met rows) (replicate 16 1) (replicate 16 0) tests-long tests-long ∙ tests-long

  pub not_over-each : (k : ℕ) → k < 16 → get_or (ones (zip2 nat_le met rows)) k 0 + vote_by (get_or rows k 0) (get_or met k 0) ≡ 1
  not_over-each k within =
      let test : get_or (zip2 nat_le met rows) k false ≡ nat_le (get_or met k 0) (get_or rows k 0) = get_or-zip2 nat_le met rows k 0 0 false (omega arith) (omega arith) in
      let one : get_or (replicate 16 1) k 0 ≡ 1 = get_or-replicate 16 k 1 0 within in
      let zero : get_or (replicate 16 0) k 0 ≡ 0 = get_or-replicate 16 k 0 0 within in
      let chosen : get_or (ones (zip2 nat_le met rows)) k 0 ≡ cond (get_or (zip2 nat_le met rows) k false) (get_or (replicate 16 1) k 0) (get_or (replicate 16 0) k 0) =
      get_or-sel_l {X = ℕ} (zip2 nat_le met rows) (replicate 16 1) (replicate 16 0) k 0 (omega (arith, tests-long)) within within in
      by_order (get_or rows k 0) (get_or met k 0) _ _ _ _ test one zero chosen
    where
      by_order : (row other x y n : ℕ) (b : Bool) → b ≡ nat_le other row → x ≡ 1 → y ≡ 0 → n ≡ cond b x y → n + vote_by row other ≡ 1
      by_order row other x y n b test one zero chosen =
          elim (cases_lt row other) [
            | inl less ↦
                let none : n ≡ y = chosen ∙ ap (λ t. cond t x y) (test ∙ lt-leb other row less) in
                let vote : vote_by row other ≡ 1 = ap (λ (t : Bool). cond t 1 0) (lt-ltb row other less) in
                omega arith
            | inr no_less ↦
                let some : n ≡ x = chosen ∙ ap (λ t. cond t x y) (test ∙ le-leb other row no_less) in
                let vote : vote_by row other ≡ 0 = ap (λ (t : Bool). cond t 1 0) (le-ltb row other no_less) in
                omega arith
          ]

-- ---- the first sixteen elements, and the elements that are written there
pub take-at : (xs : List ℕ) (k : ℕ) → k < 16 → get_or (take 16 xs) k 0 ≡ get_or xs k 0
take-at xs k within = get_or-chunk 0 16 xs k 0 within ∙ ap (λ i. get_or xs i 0) (omega arith)

pub put-at : (xs ys : List ℕ) (k : ℕ) → length xs ≡ 16 → length ys ≡ 16 → k < 16 → get_or (put_chunk 0 xs ys) k 0 ≡ get_or ys k 0
put-at xs ys k long whole within =
    let same : k ≡ 0 + k = omega arith in
    ap (λ i. get_or (put_chunk 0 xs ys) i 0) same ∙ get_or-put_chunk_at 0 xs ys k 0 (omega arith) (omega arith)

-- ---- lanes that are moved by one
abbrev pub moved_lanes : List ℕ → List ℕ → List ℕ → List ℕ
moved_lanes lanes gone come = zip2 (λ a b. (a + (256 - b)) % 256) (zip2 (λ a b. (a + b) % 256) (take 16 lanes) gone) come

pub moved-each : (lanes gone come : List ℕ) (k : ℕ) → length lanes ≡ 16 → length gone ≡ 16 → length come ≡ 16 → k < 16 → get_or gone k 0 ≤ 1 → get_or come k 0 ≤ 1
    → 1 ≤ get_or lanes k 0 → get_or lanes k 0 ≤ 254 → get_or (put_chunk 0 lanes (moved_lanes lanes gone come)) k 0 + get_or come k 0 ≡ get_or lanes k 0 + get_or gone k 0
moved-each lanes gone come k long long_gone long_come within few_gone few_come some room =
    let old : length (take 16 lanes) ≡ 16 = length-chunk 0 16 lanes (omega arith) in
    let up_long : length (zip2 (λ a b. (a + b) % 256) (take 16 lanes) gone) ≡ 16 = length-zip2 (λ a b. (a + b) % 256) (take 16 lanes) gone (old ∙ sym long_gone) ∙ old in
    let whole : length (moved_lanes lanes gone come) ≡ 16 = length-zip2 (λ a b. (a + (256 - b)) % 256) (zip2 (λ a b. (a + b) % 256) (take 16 lanes) gone) come (up_long ∙ sym long_come) ∙ up_long in
    let here : get_or (take 16 lanes) k 0 ≡ get_or lanes k 0 = take-at lanes k within in
    let up : get_or (zip2 (λ a b. (a + b) % 256) (take 16 lanes) gone) k 0 ≡ (get_or (take 16 lanes) k 0 + get_or gone k 0) % 256 =
    get_or-zip2 (λ a b. (a + b) % 256) (take 16 lanes) gone k 0 0 0 (omega arith) (omega arith) in
    let down : get_or (moved_lanes lanes gone come) k 0 ≡ (get_or (zip2 (λ a b. (a + b) % 256) (take 16 lanes) gone) k 0 + (256 - get_or come k 0)) % 256 =
    get_or-zip2 (λ a b. (a + (256 - b)) % 256) (zip2 (λ a b. (a + b) % 256) (take 16 lanes) gone) come k 0 0 0 (omega arith) (omega arith) in
    let put : get_or (put_chunk 0 lanes (moved_lanes lanes gone come)) k 0 ≡ get_or (moved_lanes lanes gone come) k 0 = put-at lanes (moved_lanes lanes gone come) k long whole within in
    by_numbers (get_or lanes k 0) (get_or gone k 0) (get_or come k 0) _ _ _ _ here up down put few_gone few_come some room
  where
    by_numbers : (l g c h u d p : ℕ) → h ≡ l → u ≡ (h + g) % 256 → d ≡ (u + (256 - c)) % 256 → p ≡ d → g ≤ 1 → c ≤ 1 → 1 ≤ l → l ≤ 254 → p + c ≡ l + g
    by_numbers l g c h u d p here up down put few_g few_c some room = omega arith

-- ---- votes with their changes added
abbrev pub settled_lanes : List ℕ → List ℕ → List ℕ
settled_lanes settled changes = zip2 (λ a b. (a + (4294967296 - b)) % 4294967296) (zip2 (λ a b. (a + b) % 4294967296) (take 16 settled) (map (λ (x : ℕ). x) (take 16 changes))) (replicate 16 128)

pub settled-each : (settled changes : List ℕ) (k : ℕ) → length settled ≡ 16 → length changes ≡ 16 → k < 16
    → 128 ≤ get_or settled k 0 + get_or changes k 0 → get_or settled k 0 + get_or changes k 0 < 4294967424
    → get_or (put_chunk 0 settled (settled_lanes settled changes)) k 0 + 128 ≡ get_or settled k 0 + get_or changes k 0
settled-each settled changes k long long_changes within some fits =
    let old : length (take 16 settled) ≡ 16 = length-chunk 0 16 settled (omega arith) in
    let new : length (take 16 changes) ≡ 16 = length-chunk 0 16 changes (omega arith) in
    let by : length (map (λ (x : ℕ). x) (take 16 changes)) ≡ 16 = length-map (take 16 changes) (λ (x : ℕ). x) ∙ new in
    let wide : length (zip2 (λ a b. (a + b) % 4294967296) (take 16 settled) (map (λ (x : ℕ). x) (take 16 changes))) ≡ 16 =
    length-zip2 (λ a b. (a + b) % 4294967296) (take 16 settled) (map (λ (x : ℕ). x) (take 16 changes)) (old ∙ sym by) ∙ old in
    let whole : length (settled_lanes settled changes) ≡ 16 =
    length-zip2 (λ a b. (a + (4294967296 - b)) % 4294967296) (zip2 (λ a b. (a + b) % 4294967296) (take 16 settled) (map (λ (x : ℕ). x) (take 16 changes))) (replicate 16 128) wide ∙ wide in
    let even : get_or (replicate 16 128) k 0 ≡ 128 = get_or-replicate 16 k 128 0 within in
    let here : get_or (take 16 settled) k 0 ≡ get_or settled k 0 = take-at settled k within in
    let move : get_or (map (λ (x : ℕ). x) (take 16 changes)) k 0 ≡ get_or changes k 0 = get_or-map (λ (x : ℕ). x) (take 16 changes) k 0 ∙ take-at changes k within in
    let up : get_or (zip2 (λ a b. (a + b) % 4294967296) (take 16 settled) (map (λ (x : ℕ). x) (take 16 changes))) k 0 ≡ (get_or (take 16 settled) k 0 + get_or (map (λ (x : ℕ). x) (take 16 changes)) k 0) % 4294967296 =
    get_or-zip2 (λ a b. (a + b) % 4294967296) (take 16 settled) (map (λ (x : ℕ). x) (take 16 changes)) k 0 0 0 (omega arith) (omega arith) in
    let down : get_or (settled_lanes settled changes) k 0 ≡ (get_or (zip2 (λ a b. (a + b) % 4294967296) (take 16 settled) (map (λ (x : ℕ). x) (take 16 changes))) k 0 + (4294967296 - get_or (replicate 16 128) k 0)) % 4294967296 =
    get_or-zip2 (λ a b. (a + (4294967296 - b)) % 4294967296) (zip2 (λ a b. (a + b) % 4294967296) (take 16 settled) (map (λ (x : ℕ). x) (take 16 changes))) (replicate 16 128) k 0 0 0 (omega arith) within in
    let put : get_or (put_chunk 0 settled (settled_lanes settled changes)) k 0 ≡ get_or (settled_lanes settled changes) k 0 = put-at settled (settled_lanes settled changes) k long whole within in
    by_numbers (get_or settled k 0) (get_or changes k 0) _ _ _ _ _ _ here move even up down put some fits
  where
    by_numbers : (r m h b o u d p : ℕ) → h ≡ r → b ≡ m → o ≡ 128 → u ≡ (h + b) % 4294967296 → d ≡ (u + (4294967296 - o)) % 4294967296 → p ≡ d → 128 ≤ r + m → r + m < 4294967424 → p + 128 ≡ r + m
    by_numbers r m h b o u d p here move even up down put some fits = omega arith

-- one vote goes and one comes; the tests are 0 if there is a vote
pub moves_by : (before after gone come went came : ℕ) → (1 ≤ before → before ≤ 254 → after + come ≡ before + gone) → gone + went ≡ 1 → come + came ≡ 1 → Moves before after went came
moves_by before after gone come went came moved out in_ some room = let sum = moved some room in omega arith
