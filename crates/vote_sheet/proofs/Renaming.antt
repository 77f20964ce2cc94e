-- The sheet knows no names: only an elector's index on the roll counts, and only that different electors have different indexes.
use Rattle.std.proofs.Common.{◌≡◌, ℕ, ◌+◌, ◌<◌, ◌≤◌, suc, zero, Bool, false, not, cond, eqb, List, [], ◌∷◌, None, Some, map, take, refl, sym, ap, ◌∙◌, subst, inl, inr, arith}
use Rattle.std.specs.Prelude.{count_by, is_some}
use Rattle.std.specs.List.{AllZip, range_with_len}
use Rattle.std.specs.Option.{option_or}
use Rattle.std.specs.Str.{bytes_eq}
use Rattle.std.proofs.lemmas.Bool.{cases_eq, eq-eqb, ne_eqb}
use Rattle.std.proofs.lemmas.List.FromFn.{length-range_with_len}
use Rattle.std.proofs.lemmas.List.Quantifiers.{position-Some}
use Rattle.vote_poll.specs.PollContent.{PollContent, elector_count, last_in_time, option_count}
use Rattle.vote_poll.specs.Readings.{IsReading, is_ballot, reading, readings}
use Rattle.vote_poll.specs.declared.Reading.{Reading}
use Rattle.vote_poll.specs.declared.Reading.TheVariants.{Bad, Ballot}
use Rattle.vote_count.specs.Ballots.{entry_prefers}
use Rattle.vote_steps.specs.History.{ranks_read}
use Rattle.vote_steps.specs.Recasts.{last_ballot}
use Rattle.vote_sheet.specs.ElectorLaws.{HaveSameSheets, IsOneToOne, NamesDoNotMatter, OrderAlike, ReadAlike}
use Rattle.vote_steps.specs.LastBallots.{last_valid_ballots, readings_in_time}
use Rattle.vote_sheet.specs.Sheet.{Text}
use Rattle.vote_sheet.proofs.ElectorLaws.{no_ballot}
use Rattle.vote_steps.proofs.Holding.{count-not}
use Rattle.vote_sheet.proofs.SameSheets.{CountTheSame, VoteTheSame, same_sheets_there}
use Rattle.vote_count.proofs.Counts.{count-cons, one}
use Rattle.vote_sheet.proofs.StandingLemmas.{EachLineIsRead, Entry}

-- ---- how many indexes pass a test
abbrev tally : (ℕ → Bool) → ℕ → ℕ → ℕ
tally p a n = count_by p (range_with_len a n)

tally-suc : (p : ℕ → Bool) (a n : ℕ) → tally p a (suc n) ≡ one (p a) + tally p (a + 1) n
tally-suc p a n = count-cons p a (range_with_len (a + 1) n)

tally_same : (p q : ℕ → Bool) (a n : ℕ) → ((v : ℕ) → a ≤ v → v < a + n → p v ≡ q v) → tally p a n ≡ tally q a n
tally_same p q a zero same = refl
tally_same p q a (suc n) same =
    omega (arith, tally-suc p a n, tally-suc q a n, ap one (same a (omega arith) (omega arith)), tally_same p q (a + 1) n (λ v low high. same v (omega (arith, low)) (omega (arith, high))))

-- the test fails at index x, and is as before at each other index
abbrev but : ℕ → (ℕ → Bool) → ℕ → Bool
but x p v = cond (eqb v x) false (p v)

but_there : (x : ℕ) (p : ℕ → Bool) → but x p x ≡ false
but_there x p = ap (λ t. cond t false (p x)) (eq-eqb x x refl)

but_other : (x : ℕ) (p : ℕ → Bool) (v : ℕ) → ¬ (v ≡ x) → but x p v ≡ p v
but_other x p v other = ap (λ t. cond t false (p v)) (ne_eqb v x other)

taken_out : (x : ℕ) (p : ℕ → Bool) (a n : ℕ) → a ≤ x → x < a + n → tally p a n ≡ one (p x) + tally (but x p) a n
taken_out x p a zero low high = absurd (omega (arith, low, high))
taken_out x p a (suc n) low high =
    elim (cases_eq a x) [
      | inl same ↦
          omega (
            arith,
            tally-suc p a n,
            tally-suc (but x p) a n,
            ap (λ v. one (p v)) same,
            ap (λ v. one (but x p v)) same,
            ap one (but_there x p),
            tally_same (but x p) p (a + 1) n (λ v above below. but_other x p v (λ is. absurd (omega (arith, above, same, is)))),
          )
      | inr other ↦
          omega (
            arith,
            tally-suc p a n,
            tally-suc (but x p) a n,
            ap one (but_other x p a other),
            taken_out x p (a + 1) n (omega (arith, low, other)) (omega (arith, high)),
          )
    ]

-- a map that takes no two indexes to the same: at most as many indexes pass a test by it as pass the test
under : (mapped : ℕ → ℕ) (m : ℕ) (p : ℕ → Bool) (a n : ℕ) → ((v : ℕ) → a ≤ v → v < a + n → mapped v < m)
    → ((v w : ℕ) → a ≤ v → v < a + n → a ≤ w → w < a + n → mapped v ≡ mapped w → v ≡ w) → tally (λ v. p (mapped v)) a n ≤ tally p 0 m
under mapped m p a zero within apart = omega arith
under mapped m p a (suc n) within apart =
    let x = mapped a in
    let others = tally_same (λ v. p (mapped v)) (λ v. but x p (mapped v)) (a + 1) n
    (λ v low high. sym (but_other x p (mapped v) (λ is. absurd (omega (arith, low, apart v a (omega (arith, low)) (omega (arith, high)) (omega arith) (omega arith) is))))) in
    omega (
      arith,
      tally-suc (λ v. p (mapped v)) a n,
      others,
      taken_out x p 0 m (omega arith) (omega (arith, within a (omega arith) (omega arith))),
      under mapped m (but x p) (a + 1) n (λ v low high. within v (omega (arith, low)) (omega (arith, high)))
          (λ v w low_v high_v low_w high_w. apart v w (omega (arith, low_v)) (omega (arith, high_v)) (omega (arith, low_w)) (omega (arith, high_w))),
    )

all_or_not : (p : ℕ → Bool) (n : ℕ) → tally p 0 n + tally (λ v. not (p v)) 0 n ≡ n
all_or_not p n = count-not p (range_with_len 0 n) ∙ length-range_with_len 0 n

-- by a map from a roll to a roll of the same size, as many indexes pass a test as pass it without the map
tally_mapped : (n : ℕ) (mapped : ℕ → ℕ) → IsOneToOne n mapped → (p : ℕ → Bool) → tally (λ v. p (mapped v)) 0 n ≡ tally p 0 n
tally_mapped n mapped one_to_one p =
    let within : (v : ℕ) → 0 ≤ v → v < 0 + n → mapped v < n = λ v low high. one_to_one.on_roll v (omega (arith, high)) in
    let apart : (v w : ℕ) → 0 ≤ v → v < 0 + n → 0 ≤ w → w < 0 + n → mapped v ≡ mapped w → v ≡ w =
    λ v w low_v high_v low_w high_w. one_to_one.apart v w (omega (arith, high_v)) (omega (arith, high_w)) in
    omega (
      arith,
      under mapped n p 0 n within apart,
      under mapped n (λ v. not (p v)) 0 n within apart,
      all_or_not p n,
      all_or_not (λ v. p (mapped v)) n,
    )

count-map : {X : Type 0} (p : X → Bool) (f : ℕ → X) (ns : List ℕ) → count_by p (map f ns) ≡ count_by (λ n. p (f n)) ns
count-map p f [] = refl
count-map p f (n ∷ ns) = omega (arith, count-cons p (f n) (map f ns), count-cons (λ m. p (f m)) n ns, count-map p f ns)

-- as many entries of two rolls pass a test, if entries whose indexes are mapped to each other pass it alike
count_mapped : {X : Type 0} (n : ℕ) (mapped : ℕ → ℕ) → IsOneToOne n mapped → (f g : ℕ → X) (p : X → Bool) → ((v : ℕ) → v < n → p (g (mapped v)) ≡ p (f v))
    → count_by p (map g (range_with_len 0 n)) ≡ count_by p (map f (range_with_len 0 n))
count_mapped n mapped one_to_one f g p same =
    count-map p g (range_with_len 0 n)
    ∙ sym (tally_mapped n mapped one_to_one (λ v. p (g v)))
    ∙ tally_same (λ v. p (g (mapped v))) (λ v. p (f v)) 0 n (λ v low high. same v (omega (arith, high)))
    ∙ sym (count-map p f (range_with_len 0 n))

-- ---- lines that read alike
-- the elector of a ballot is on a roll of this size
abbrev IsOnRoll : ℕ → Reading → Type 0
IsOnRoll n (Ballot elector ranks) = elector < n
IsOnRoll n (Bad fault) = Unit {0}

abbrev AreOnRoll : ℕ → List Reading → Type 0
AreOnRoll n [] = Unit {0}
AreOnRoll n (r ∷ rs) = IsOnRoll n r × AreOnRoll n rs

is_on_roll : (poll : PollContent) (line : Text) (r : Reading) → IsReading poll line r → IsOnRoll (elector_count poll) r
is_on_roll poll line (Bad fault) is = tt
is_on_roll poll line (Ballot elector ranks) is = (position-Some (bytes_eq is.0) poll.roll elector [] is.3).0

are_on_roll : EachLineIsRead → (poll : PollContent) (n : ℕ) (lines : List Text) → AreOnRoll (elector_count poll) (take n (readings poll lines))
are_on_roll read poll zero lines = tt
are_on_roll read poll (suc n) [] = tt
are_on_roll read poll (suc n) (line ∷ lines) = (is_on_roll poll line (reading poll line) (read poll line), are_on_roll read poll n lines)

module _ (n : ℕ) (mapped : ℕ → ℕ) (one_to_one : IsOneToOne n mapped) where
  ranks_alike : (r s : Reading) → ReadAlike mapped r s → IsOnRoll n r → (v : ℕ) → v < n → ranks_read (mapped v) s ≡ ranks_read v r
  ranks_alike (Bad fault) s alike on v below = no_ballot (mapped v) s alike
  ranks_alike (Ballot elector ranks) s alike on v below =
      ap (ranks_read (mapped v)) alike
      ∙ (elim (cases_eq elector v) as (λ _. ranks_read (mapped v) (Ballot (mapped elector) ranks) ≡ ranks_read v (Ballot elector ranks)) [
        | inl same ↦
            ap (λ t. cond t (Some ranks) None) (eq-eqb (mapped elector) (mapped v) (ap mapped same)) ∙ sym (ap (λ t. cond t (Some ranks) None) (eq-eqb elector v same))
        | inr other ↦
            ap (λ t. cond t (Some ranks) None) (ne_eqb (mapped elector) (mapped v) (λ is. other (one_to_one.apart elector v on below is)))
            ∙ sym (ap (λ t. cond t (Some ranks) None) (ne_eqb elector v other))
      ])

  last_alike : (rs ss : List Reading) → AllZip (ReadAlike mapped) rs ss → AreOnRoll n rs → (v : ℕ) → v < n → last_ballot ss (mapped v) ≡ last_ballot rs v
  last_alike [] [] alike on v below = refl
  last_alike [] (s ∷ ss) alike on v below = absurd alike
  last_alike (r ∷ rs) [] alike on v below = absurd alike
  last_alike (r ∷ rs) (s ∷ ss) alike on v below =
      ap (λ o. option_or o (ranks_read (mapped v) s)) (last_alike rs ss alike.1 on.1 v below) ∙ ap (option_or (last_ballot rs v)) (ranks_alike r s alike.0 on.0 v below)

kind_alike : (mapped : ℕ → ℕ) (r s : Reading) → ReadAlike mapped r s → is_ballot s ≡ is_ballot r
kind_alike mapped (Bad fault) s alike = alike
kind_alike mapped (Ballot elector ranks) s alike = ap is_ballot alike

valid_alike : (mapped : ℕ → ℕ) (rs ss : List Reading) → AllZip (ReadAlike mapped) rs ss → count_by is_ballot ss ≡ count_by is_ballot rs
valid_alike mapped [] [] alike = refl
valid_alike mapped [] (s ∷ ss) alike = absurd alike
valid_alike mapped (r ∷ rs) [] alike = absurd alike
valid_alike mapped (r ∷ rs) (s ∷ ss) alike =
    omega (arith, count-cons is_ballot r rs, count-cons is_ballot s ss, ap one (kind_alike mapped r s alike.0), valid_alike mapped rs ss alike.1)

-- ---- two files whose last valid ballots order the options alike
-- each elector's last ballot and, in the other file, the last ballot of the elector that this elector is mapped to order the options alike
abbrev pub AreLastAlike : (ℕ → ℕ) → PollContent → List Text → PollContent → List Text → Type 0
AreLastAlike mapped poll lines again others =
    (v : ℕ) → v < elector_count poll → OrderAlike (option_count poll) (last_ballot (readings_in_time poll lines) v) (last_ballot (readings_in_time again others) (mapped v))

-- the same ballot orders the options alike
pub same_order : (options : ℕ) (entry other : Entry) → other ≡ entry → OrderAlike options entry other
same_order options entry other same = record { voted = ap is_some same; preferred = λ a b of_a of_b. ap (entry_prefers a b) same }

pub vote_the_same : (poll again : PollContent) (lines others : List Text) (mapped : ℕ → ℕ) → elector_count again ≡ elector_count poll → IsOneToOne (elector_count poll) mapped
    → AreLastAlike mapped poll lines again others → VoteTheSame poll lines again others
vote_the_same poll again lines others mapped electors one_to_one alike =
    let rs = readings_in_time poll lines in
    let ss = readings_in_time again others in
    let same : (p : Entry → Bool) → ((v : ℕ) → v < elector_count poll → p (last_ballot ss (mapped v)) ≡ p (last_ballot rs v))
    → count_by p (last_valid_ballots again others) ≡ count_by p (last_valid_ballots poll lines) =
    λ p each. ap (λ k. count_by p (map (last_ballot ss) (range_with_len 0 k))) electors
    ∙ count_mapped (elector_count poll) mapped one_to_one (last_ballot rs) (last_ballot ss) p each in
    record {
      voters = same is_some (λ v below. (alike v below).voted);
      counts = λ a b of_a of_b. same (entry_prefers a b) (λ v below. (alike v below).preferred a b of_a of_b);
    }

pub names_lem : EachLineIsRead → NamesDoNotMatter
names_lem read poll again lines others mapped differ one_to_one alike =
    let rs = readings_in_time poll lines in
    let ss = readings_in_time again others in
    let last : AreLastAlike mapped poll lines again others = λ v below.
    same_order (option_count poll) (last_ballot rs v) (last_ballot ss (mapped v))
    (last_alike (elector_count poll) mapped one_to_one rs ss alike.alike (are_on_roll read poll (last_in_time poll) lines) v below) in
    let counts : CountTheSame poll lines again others = record {
      as_long = alike.as_long;
      valid = valid_alike mapped rs ss alike.alike;
      votes = vote_the_same poll again lines others mapped differ.electors one_to_one last;
    } in
    let P : PollContent → Type 0 = λ q. CountTheSame poll lines q others in
    let Q : PollContent → Type 0 = λ q. HaveSameSheets poll lines q others in
    subst Q (sym differ.all_else) (same_sheets_there poll again.roll (sym differ.electors) lines others (subst P differ.all_else counts))
