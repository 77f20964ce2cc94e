-- A row of the first keys, at most as many as a poll can have options, with zeros after them, and the ranks that a text lists.
use Rattle.std.proofs.Common.{◌≡◌, ◌==◌, ◌+◌, ◌-◌, ◌<◌, ◌≤◌, ◌++◌, ℕ, suc, min, List, [], ◌∷◌, map, refl, ap, ap₂, sym, ◌∙◌, length, take, drop, get_or, set, replicate, Bool, true, false, cond, Option, Some, None, arith, append_assoc}
use Rattle.std.specs.Option.{option_map}
use Rattle.std.proofs.lemmas.List.{length_push, length-append, length-take, length-replicate, map-append, set_at, take_all, take_at, take-append-le, take-map, take_rest, length-map}
use Rattle.std.proofs.lemmas.List.Splits.{slice_split_at, slice_split_none}
use Rattle.vote_poll_keys.specs.Lists.{all_some}
use Rattle.vote_poll.specs.Parsing.{kept_and_count}
use Rattle.vote_poll.specs.SortKeys.{rank_of_key, row_of}
use Rattle.vote_poll.specs.Readings.{rank_in, ranks_in}
use Rattle.vote_poll.specs.declared.TheConstants.{MAX_OPTIONS}
use Rattle.vote_poll.specs.Spelling.{rank_bytes}
use Rattle.vote_poll.proofs.GrammarLaws.{rank_text-rank_in, rank_text_has_no_comma}

-- ---- a row
pub row-length : (keys : List ℕ) → length (row_of keys) ≡ MAX_OPTIONS
row-length keys = omega (arith, length-append (take MAX_OPTIONS keys) (replicate (MAX_OPTIONS - length keys) 0), length-take MAX_OPTIONS keys, length-replicate {A = ℕ} (MAX_OPTIONS - length keys) 0)

-- the next key is written after the last
pub row-push : (keys : List ℕ) (count key : ℕ) → length keys ≡ count → count < MAX_OPTIONS → set (row_of keys) count key ≡ row_of (keys ++ key ∷ [])
row-push keys count key long room =
    let whole : take MAX_OPTIONS keys ≡ keys = take_all MAX_OPTIONS keys (omega arith) in
    let all : take MAX_OPTIONS (keys ++ key ∷ []) ≡ keys ++ key ∷ [] = take_all MAX_OPTIONS (keys ++ key ∷ []) (omega (arith, length_push keys key)) in
    let more : MAX_OPTIONS - length keys ≡ suc (MAX_OPTIONS - (count + 1)) = omega arith in
    let less : MAX_OPTIONS - length (keys ++ key ∷ []) ≡ MAX_OPTIONS - (count + 1) = omega (arith, length_push keys key) in
    let before : row_of keys ≡ keys ++ 0 ∷ replicate (MAX_OPTIONS - (count + 1)) 0 = ap₂ ◌++◌ whole (ap (λ n. replicate n 0) more) in
    let after : row_of (keys ++ key ∷ []) ≡ (keys ++ key ∷ []) ++ replicate (MAX_OPTIONS - (count + 1)) 0 = ap₂ ◌++◌ all (ap (λ n. replicate n 0) less) in
    ap (λ row. set row count key) before
    ∙ set_at keys 0 (replicate (MAX_OPTIONS - (count + 1)) 0) key count long
    ∙ sym (append_assoc keys (key ∷ []) (replicate (MAX_OPTIONS - (count + 1)) 0))
    ∙ sym after

-- if there is no room, the row stays as it is
pub row-full : (keys : List ℕ) (key : ℕ) → MAX_OPTIONS ≤ length keys → row_of keys ≡ row_of (keys ++ key ∷ [])
row-full keys key full =
    let none : MAX_OPTIONS - length keys ≡ MAX_OPTIONS - length (keys ++ key ∷ []) = omega (arith, length_push keys key) in
    ap₂ ◌++◌ (sym (take-append-le MAX_OPTIONS keys (key ∷ []) full)) (ap (λ n. replicate n 0) none)

pub row-taken : (keys : List ℕ) (n : ℕ) → n ≡ min (length keys) MAX_OPTIONS → take n (row_of keys) ≡ take MAX_OPTIONS keys
row-taken keys n is = take_at (take MAX_OPTIONS keys) (replicate (MAX_OPTIONS - length keys) 0) n (omega (arith, length-take MAX_OPTIONS keys))

pub row-rest : (keys : List ℕ) (n : ℕ) → n ≡ min (length keys) MAX_OPTIONS → take n (row_of keys) ++ replicate (MAX_OPTIONS - n) 0 ≡ row_of keys
row-rest keys n is =
    let same : MAX_OPTIONS - n ≡ MAX_OPTIONS - length keys = omega arith in
    ap₂ ◌++◌ (row-taken keys n is) (ap (λ k. replicate k 0) same)

pub row-ranks : (keys : List ℕ) (n : ℕ) → n ≡ min (length keys) MAX_OPTIONS → map rank_of_key (take n (row_of keys)) ≡ take MAX_OPTIONS (map rank_of_key keys)
row-ranks keys n is = ap (map rank_of_key) (row-taken keys n is) ∙ sym (take-map rank_of_key MAX_OPTIONS keys)

-- ---- the ranks that a text lists, from the front
-- one more rank after those so far
pub more-ranks : (keys : List ℕ) (key : ℕ) (o : Option (List (Option ℕ)))
    → option_map (λ ranks. map rank_of_key keys ++ ranks) (option_map (λ ranks. rank_of_key key ∷ ranks) o) ≡ option_map (λ ranks. map rank_of_key (keys ++ key ∷ []) ++ ranks) o
more-ranks keys key None = refl
more-ranks keys key (Some ranks) =
    ap Some (sym (ap (λ xs. xs ++ ranks) (map-append rank_of_key keys (key ∷ [])) ∙ append_assoc (map rank_of_key keys) (rank_of_key key ∷ []) ranks))

-- a text that spells a rank lists this rank alone
pub one-rank : (text : List ℕ) (rank : Option ℕ) → rank_in text ≡ Some rank → ranks_in text ≡ Some (rank ∷ [])
one-rank text rank is =
    let spelled = rank_text-rank_in text rank is in
    let no_comma = rw (← spelled.1) at (rank_text_has_no_comma rank spelled.0) in
    ap (λ parts. all_some (map rank_in parts)) (slice_split_none (λ b. b == 44) text no_comma) ∙ rw is

-- if the rest spells the last rank, all ranks are known
pub last-rank : (text left : List ℕ) (keys : List ℕ) (count key : ℕ) → ranks_in text ≡ option_map (λ ranks. map rank_of_key keys ++ ranks) (ranks_in left) → length keys ≡ count
    → rank_in left ≡ Some (rank_of_key key) → option_map kept_and_count (ranks_in text) ≡ Some (take MAX_OPTIONS (map rank_of_key (keys ++ key ∷ [])), count + 1)
last-rank text left keys count key so_far long is =
    let all : ranks_in text ≡ Some (map rank_of_key (keys ++ key ∷ [])) =
    so_far ∙ ap (option_map (λ ranks. map rank_of_key keys ++ ranks)) (one-rank left (rank_of_key key) is) ∙ ap Some (sym (map-append rank_of_key keys (key ∷ []))) in
    let counted : length (map rank_of_key (keys ++ key ∷ [])) ≡ count + 1 = omega (arith, ap length (map-append rank_of_key keys (key ∷ [])), length_push (map rank_of_key keys) (rank_of_key key), length-map keys rank_of_key) in
    ap (option_map kept_and_count) all ∙ ap (λ n. Some (take MAX_OPTIONS (map rank_of_key (keys ++ key ∷ [])), n)) counted

-- ---- a rank and the comma after it
-- a text lists the rank before its comma, and then the ranks of the rest
next-rank : (bytes rest : List ℕ) (rank : Option ℕ) → rank_in bytes ≡ Some rank → ranks_in (bytes ++ 44 ∷ rest) ≡ option_map (λ ranks. rank ∷ ranks) (ranks_in rest)
next-rank bytes rest rank is =
    let spelled = rank_text-rank_in bytes rank is in
    let no_comma = rw (← spelled.1) at (rank_text_has_no_comma rank spelled.0) in
    ap (λ parts. all_some (map rank_in parts)) (slice_split_at (λ b. b == 44) bytes 44 rest no_comma refl) ∙ rw is

-- a text, split at the comma after its first rank; the second byte says where this comma is
by_second : (a b c : ℕ) (rest : List ℕ) (end : ℕ) (comma : Bool) → (b == 44) ≡ comma → end ≡ cond comma 1 2 → get_or (a ∷ b ∷ c ∷ rest) end 0 ≡ 44
    → a ∷ b ∷ c ∷ rest ≡ cond comma (a ∷ []) (a ∷ b ∷ []) ++ 44 ∷ drop (end + 1) (a ∷ b ∷ c ∷ rest)
by_second a b c rest end true test is here = let same : b ≡ 44 = rw is at here in rw is (ap (λ x. a ∷ x ∷ c ∷ rest) same)
by_second a b c rest end false test is here = let same : c ≡ 44 = rw is at here in rw is (ap (λ x. a ∷ b ∷ x ∷ rest) same)

round_comma : (text : List ℕ) (end : ℕ) → 3 ≤ length text → end ≡ cond (get_or text 1 0 == 44) 1 2 → get_or text end 0 ≡ 44 → text ≡ rank_bytes (get_or text 0 0) (get_or text 1 0) ++ 44 ∷ drop (end + 1) text
round_comma [] end long is here = absurd (omega arith)
round_comma (a ∷ []) end long is here = absurd (omega arith)
round_comma (a ∷ b ∷ []) end long is here = absurd (omega arith)
round_comma (a ∷ b ∷ c ∷ rest) end long is here = by_second a b c rest end (b == 44) refl is here

pub first-rank : (text : List ℕ) (end : ℕ) (rank : Option ℕ) → 3 ≤ length text → end ≡ cond (get_or text 1 0 == 44) 1 2 → get_or text end 0 ≡ 44 → rank_in (rank_bytes (get_or text 0 0) (get_or text 1 0)) ≡ Some rank
    → ranks_in text ≡ option_map (λ ranks. rank ∷ ranks) (ranks_in (take (length text - (end + 1)) (drop (end + 1) text)))
first-rank text end rank long is here spelled =
    ap ranks_in (round_comma text end long is here) ∙ next-rank (rank_bytes (get_or text 0 0) (get_or text 1 0)) (drop (end + 1) text) rank spelled
    ∙ ap (λ rest. option_map (λ ranks. rank ∷ ranks) (ranks_in rest)) (sym (take_rest text (end + 1)))
