-- The search for the sheet that a text is, or that agrees longest with it.
use Rattle.std.proofs.Common.{◌≡◌, ◌≢◌, ℕ, ◌+◌, ◌<◌, ◌≤◌, ◌==◌, cond, List, [], ◌∷◌, ◌++◌, Option, None, Some, take, inl, inr, refl, sym, ap, ap₂, ◌∙◌, subst, arith}
use Rattle.std.proofs.lemmas.Bool.{cases_eq, cases_lt, eq-eqb, ne_eqb}
use Rattle.std.proofs.lemmas.List.Sums.{sum_by-cons}
use Rattle.vote_poll_text.specs.Lines.{feed_count}
use Rattle.vote_poll.specs.PollContent.{PollContent, option_count}
use Rattle.vote_count.specs.Laws.{DecisionsAreDetermined, OutcomesAreDetermined}
use Rattle.vote_count.specs.Rounds.{IsDecision, final_set}
use Rattle.vote_count.specs.declared.Decision.{Decision}
use Rattle.vote_sheet.specs.Counted.{IsCountOf, IsLastLine, IsWhole, as_sheet, shared_text}
use Rattle.vote_sheet.specs.Sheet.{Text, decision_text, sheet_text}
use Rattle.vote_sheet.specs.SheetOf.{IsSheet, SheetIsUnique}
use Rattle.vote_sheet.specs.Verify.{AgreesLongest, ComesBefore, IsCasting, IsFound, IsVerification, common_bytes, common_lines, matching}
use Rattle.vote_sheet.specs.declared.sheet.Count.{Count}
use Rattle.vote_sheet.specs.declared.verify.Candidate.{Candidate}
use Rattle.vote_sheet.specs.declared.verify.Found.{Found}
use Rattle.vote_sheet.specs.declared.verify.Found.TheVariants.{Closest, Same}
use Rattle.vote_sheet.specs.declared.verify.Verification.TheVariants.{Differs}
use Rattle.vote_sheet.proofs.Differences.{common_more}
use Rattle.vote_sheet.proofs.Parts.{sheet_parts}
use Rattle.vote_sheet.proofs.Uniqueness.{decision_of_same, final_sets_are_same}

-- ---- the order of casting votes
-- the position of a casting vote in this order
abbrev pub place : Option ℕ → ℕ
place None = 0
place (Some o) = o

pub comes_first : (poll : PollContent) (a b : Option ℕ) → IsCasting poll b → ComesBefore a b → place a < place b
comes_first poll None None is before = absurd before
comes_first poll None (Some o) is before = omega (arith, is.0)
comes_first poll (Some p) None is before = absurd before
comes_first poll (Some p) (Some o) is before = before

-- a casting vote with a position above 0 is for the option with this number
at_place : (casting : Option ℕ) (o : ℕ) → 0 < o → place casting ≡ o → casting ≡ Some o
at_place None o some is = absurd (omega arith)
at_place (Some p) o some is = ap Some is

at_start : (poll : PollContent) (casting : Option ℕ) → IsCasting poll casting → place casting < 1 → casting ≡ None
at_start poll None is below = refl
at_start poll (Some o) is below = absurd (omega (arith, is.0))

-- ---- the search
-- What is known after the casting votes below a position were tried: the text is the line of none of them; of the lines that agree longest with it, the first has the casting vote `closest`, and this many lines in common.
pub record Searched (poll : PollContent) (S : Option ℕ → Text → Type 0) (text : Text) (upto : ℕ) (closest : Option ℕ) (longest : ℕ) : Type 0 where
  pub none : (casting : Option ℕ) → IsCasting poll casting → place casting < upto → ¬ S casting text
  pub most : (casting : Option ℕ) (t : Text) → IsCasting poll casting → place casting < upto → S casting t → common_lines text t ≤ longest
  pub less : (casting : Option ℕ) (t : Text) → IsCasting poll casting → place casting < place closest → S casting t → common_lines text t < longest
  pub here : (t : Text) → S closest t → common_lines text t ≡ longest
  pub within : place closest < upto
  pub vote : IsCasting poll closest

module _ (poll : PollContent) (S : Option ℕ → Text → Type 0) (unique : (casting : Option ℕ) (a b : Text) → S casting a → S casting b → a ≡ b) (text : Text) where
  -- the line with no casting vote was tried
  pub first_searched : (t : Text) → S None t → text ≢ t → (lines : ℕ) → lines ≡ common_lines text t → Searched poll S text 1 None lines
  first_searched t is other lines same =
      let as_none : (casting : Option ℕ) (u : Text) → IsCasting poll casting → place casting < 1 → S casting u → S None u = λ casting u vote below is_u.
      (let P : Option ℕ → Type 0 = λ c. S c u in subst P (at_start poll casting vote below) is_u) in
      record {
        none = λ casting vote below is_text. other (unique None text t (as_none casting text vote below is_text) is);
        most = λ casting u vote below is_u. omega (arith, same, ap (common_lines text) (unique None u t (as_none casting u vote below is_u) is));
        less = λ casting u vote below is_u. absurd (omega arith);
        here = λ u is_u. ap (common_lines text) (unique None u t is_u is) ∙ sym same;
        within = omega arith;
        vote = tt;
      }

  module _ (upto : ℕ) (closest : Option ℕ) (longest : ℕ) (before : Searched poll S text upto closest longest) (t : Text) (is_next : S (Some upto) t) (other : text ≢ t) where
    some : 0 < upto
    some = omega (arith, before.within)

    as_next : (casting : Option ℕ) (u : Text) → place casting ≡ upto → S casting u → S (Some upto) u
    as_next casting u same is = let P : Option ℕ → Type 0 = λ c. S c u in subst P (at_place casting upto some same) is

    same_lines : (casting : Option ℕ) (u : Text) → place casting ≡ upto → S casting u → common_lines text u ≡ common_lines text t
    same_lines casting u same is = ap (common_lines text) (unique (Some upto) u t (as_next casting u same is) is_next)

    none_more : (casting : Option ℕ) → IsCasting poll casting → place casting < upto + 1 → ¬ S casting text
    none_more casting vote below is =
        elim (cases_eq (place casting) upto) [
          | inl same ↦ other (unique (Some upto) text t (as_next casting text same is) is_next)
          | inr apart ↦ before.none casting vote (omega arith) is
        ]

    -- the next line has more lines in common
    pub longer : IsCasting poll (Some upto) → longest < common_lines text t → Searched poll S text (upto + 1) (Some upto) (common_lines text t)
    longer vote_next more = record {
      none = none_more;
      most = λ casting u vote below is.
          elim (cases_eq (place casting) upto) [
            | inl same ↦ omega (arith, same_lines casting u same is)
            | inr apart ↦ omega (arith, before.most casting u vote (omega arith) is)
          ];
      less = λ casting u vote below is. omega (arith, before.most casting u vote below is);
      here = λ u is. same_lines (Some upto) u refl is;
      within = omega arith;
      vote = vote_next;
    }

    -- the next line has no more
    pub no_longer : common_lines text t ≤ longest → Searched poll S text (upto + 1) closest longest
    no_longer most = record {
      none = none_more;
      most = λ casting u vote below is.
          elim (cases_eq (place casting) upto) [
            | inl same ↦ omega (arith, same_lines casting u same is)
            | inr apart ↦ before.most casting u vote (omega arith) is
          ];
      less = before.less;
      here = before.here;
      within = omega (arith, before.within);
      vote = before.vote;
    }

-- the search goes on, with the closer one
pub next_searched : (poll : PollContent) (S : Option ℕ → Text → Type 0) → ((casting : Option ℕ) (a b : Text) → S casting a → S casting b → a ≡ b)
    → (text : Text) (upto : ℕ) (old : Candidate) → Searched poll S text upto old.casting old.lines
    → (t : Text) → S (Some upto) t → text ≢ t → IsCasting poll (Some upto) → (lines : ℕ) → lines ≡ common_lines text t
    → (new : Candidate) → (old.lines < lines → new ≡ record { casting = Some upto; lines = lines }) → (lines ≤ old.lines → new ≡ old)
    → Searched poll S text (upto + 1) new.casting new.lines
next_searched poll S unique text upto old before t is_next other vote lines same new more less =
    let P : Candidate → Type 0 = λ k. Searched poll S text (upto + 1) k.casting k.lines in
    elim (cases_lt old.lines lines) [
      | inl is ↦
          let Q : ℕ → Type 0 = λ k. Searched poll S text (upto + 1) (Some upto) k in
          subst P (sym (more is)) (subst Q (sym same) (longer poll S unique text upto old.casting old.lines before t is_next other vote (omega arith)))
      | inr is ↦ subst P (sym (less is)) (no_longer poll S unique text upto old.casting old.lines before t is_next other (omega arith))
    ]

none_is_first : (earlier : Option ℕ) → ¬ ComesBefore earlier None
none_is_first None is = is
none_is_first (Some o) is = is

is_tried : (poll : PollContent) (casting : Option ℕ) → IsCasting poll casting → place casting < option_count poll + 1
is_tried poll None vote = omega arith
is_tried poll (Some o) vote = omega (arith, vote.1)

module _ (poll : PollContent) (S : Option ℕ → Text → Type 0) (text : Text) where
  pub first_found : S None text → IsFound poll S text (Same None)
  first_found is = (tt, is, λ earlier vote before. absurd (none_is_first earlier before))

  pub same_found : (upto : ℕ) (closest : Option ℕ) (longest : ℕ) → Searched poll S text upto closest longest → IsCasting poll (Some upto) → S (Some upto) text → IsFound poll S text (Same (Some upto))
  same_found upto closest longest searched vote is =
      (vote, is, λ earlier vote_earlier before. searched.none earlier vote_earlier (comes_first poll earlier (Some upto) vote before))

  pub closest_found : (upto : ℕ) (closest : Option ℕ) (longest : ℕ) → Searched poll S text upto closest longest → upto ≡ option_count poll + 1 → IsFound poll S text (Closest closest)
  closest_found upto closest longest searched all = (
    λ other vote. searched.none other vote (omega (arith, is_tried poll other vote)),
    λ sheet is. record {
      vote = searched.vote;
      is_sheet = is;
      longest = λ other another vote is_other. omega (arith, searched.here sheet is, searched.most other another vote (omega (arith, is_tried poll other vote)) is_other);
      first = λ earlier another vote before is_other. omega (arith, searched.here sheet is, searched.less earlier another vote (comes_first poll earlier closest searched.vote before) is_other);
    },
  )

  -- the same for lines of another kind, if they are the same lines
  pub found_again : (R : Option ℕ → Text → Type 0) → ((casting : Option ℕ) (t : Text) → S casting t → R casting t) → ((casting : Option ℕ) (t : Text) → R casting t → S casting t)
      → (found : Found) → IsFound poll S text found → IsFound poll R text found
  found_again R to from (Same casting) is = (is.0, to casting text is.1, λ earlier vote before is_earlier. is.2 earlier vote before (from earlier text is_earlier))
  found_again R to from (Closest casting) is = (
    λ other vote is_other. is.0 other vote (from other text is_other),
    λ sheet is_sheet.
        let agrees = is.1 sheet (from casting sheet is_sheet) in
        record {
          vote = agrees.vote;
          is_sheet = is_sheet;
          longest = λ other another vote is_other. agrees.longest other another vote (from other another is_other);
          first = λ earlier another vote before is_other. agrees.first earlier another vote before (from earlier another is_other);
        },
  )

-- ---- the shared lines and the last
cancel : (shared a b : Text) → shared ++ a ≡ shared ++ b → a ≡ b
cancel [] a b same = same
cancel (byte ∷ bytes) a b same = cancel bytes a b (cc)

-- after the shared lines
common_after : (shared a b : Text) → common_lines (shared ++ a) (shared ++ b) ≡ feed_count shared + common_lines a b
common_after [] a b = omega arith
common_after (byte ∷ bytes) a b = omega (arith, common_more byte (bytes ++ a) (bytes ++ b), sum_by-cons (λ b. cond {A = ℕ} (b == 10) 1 0) byte bytes, common_after bytes a b)

-- a text without the shared lines
common_bytes_before : (text shared last : Text) → ((rest : Text) → text ≢ shared ++ rest) → common_bytes text (shared ++ last) ≡ common_bytes text shared
common_bytes_before text [] last apart = absurd (apart text refl)
common_bytes_before [] (c ∷ cs) last apart = refl
common_bytes_before (b ∷ bs) (c ∷ cs) last apart =
    elim (cases_eq b c) [
      | inl same ↦ rw (eq-eqb b c same) (ap (λ n. n + 1) (common_bytes_before bs cs last (λ rest e. apart rest (ap₂ ◌∷◌ same e))))
      | inr other ↦ rw (ne_eqb b c other) refl
    ]

common_before : (text shared last : Text) → ((rest : Text) → text ≢ shared ++ rest) → common_lines text (shared ++ last) ≡ common_lines text shared
common_before text shared last apart = ap (λ n. feed_count (take n text)) (common_bytes_before text shared last apart)

module _ (poll : PollContent) (count : Count) (shared text : Text) where
  last_is : (rest : Text) → text ≡ shared ++ rest → (casting : Option ℕ) → IsWhole poll count shared casting text → IsLastLine poll count casting rest
  last_is rest is casting whole = subst (IsLastLine poll count casting) (cancel shared whole.0 rest (sym whole.2 ∙ is)) whole.1

  pub rest_found : (rest : Text) → text ≡ shared ++ rest → (found : Found) → IsFound poll (IsLastLine poll count) rest found → IsFound poll (IsWhole poll count shared) text found
  rest_found rest is (Same casting) found = (found.0, (rest, found.1, is), λ earlier vote before whole. found.2 earlier vote before (last_is rest is earlier whole))
  rest_found rest is (Closest casting) found = (
    λ other vote whole. found.0 other vote (last_is rest is other whole),
    λ sheet whole.
        let agrees = found.1 whole.0 whole.1 in
        let lines_of : (other : Option ℕ) (another : Text) (w : IsWhole poll count shared other another) → common_lines text another ≡ feed_count shared + common_lines rest w.0 = λ other another w. ap₂ common_lines is w.2 ∙ common_after shared rest w.0 in
        record {
          vote = agrees.vote;
          is_sheet = whole;
          longest = λ other another vote w. omega (arith, lines_of casting sheet whole, lines_of other another w, agrees.longest other w.0 vote w.1);
          first = λ earlier another vote before w. omega (arith, lines_of casting sheet whole, lines_of earlier another w, agrees.first earlier w.0 vote before w.1);
        },
  )

  pub none_found : ((rest : Text) → text ≢ shared ++ rest) → IsFound poll (IsWhole poll count shared) text (Closest None)
  none_found apart = (
    λ other vote whole. apart whole.0 whole.2,
    λ sheet whole.
        let lines_of : (other : Option ℕ) (another : Text) (w : IsWhole poll count shared other another) → common_lines text another ≡ common_lines text shared = λ other another w. ap (common_lines text) w.2 ∙ common_before text shared w.0 apart in
        record {
          vote = tt;
          is_sheet = whole;
          longest = λ other another vote w. omega (arith, lines_of None sheet whole, lines_of other another w);
          first = λ earlier another vote before w. absurd (none_is_first earlier before);
        },
  )

pub last_is_unique : DecisionsAreDetermined → (poll : PollContent) (count : Count) (casting : Option ℕ) (a b : Text) → IsLastLine poll count casting a → IsLastLine poll count casting b → a ≡ b
last_is_unique decisions poll count casting a b is_a is_b =
    let set = final_set count.verdict.rounds in
    is_a.2 ∙ ap (decision_text poll.options set) (decisions set set casting is_a.0 is_b.0 (λ o. (λ i. i, λ i. i)) is_a.1 is_b.1).1 ∙ sym is_b.2

-- ---- the sheets of a poll and its lines
module _ (poll : PollContent) (lines : List Text) (count : Count) (is_count : IsCountOf poll lines count) where
  pub whole_is_sheet : (casting : Option ℕ) (t : Text) → IsWhole poll count (shared_text poll count) casting t → IsSheet poll lines casting t
  whole_is_sheet casting t whole =
      let last = whole.1 in (
        as_sheet count last.0,
        is_count.sheets casting last.0 last.1,
        whole.2 ∙ ap (λ u. shared_text poll count ++ u) last.2 ∙ sym (sheet_parts poll lines count last.0 is_count.line_count),
      )

  -- if there is a decision with one casting vote, each sheet is such a whole
  pub sheet_is_whole : OutcomesAreDetermined → SheetIsUnique → (tried : Option ℕ) (decided : Decision) → IsDecision (final_set count.verdict.rounds) tried decided
      → (casting : Option ℕ) (t : Text) → IsSheet poll lines casting t → IsWhole poll count (shared_text poll count) casting t
  sheet_is_whole outcomes unique tried decided is_decided casting t sheet =
      let s = sheet.0 in
      let same = final_sets_are_same outcomes poll lines casting tried s (as_sheet count decided) sheet.1 (is_count.sheets tried decided is_decided) in
      let decision = decision_of_same (final_set s.outcome.rounds) (final_set count.verdict.rounds) same casting s.decision sheet.1.decision in
      let again : Text = sheet_text poll lines (as_sheet count s.decision) in
      let is_again : IsSheet poll lines casting again = (as_sheet count s.decision, is_count.sheets casting s.decision decision, refl) in (
        decision_text poll.options (final_set count.verdict.rounds) s.decision,
        (s.decision, decision, refl),
        unique poll lines casting t again sheet is_again ∙ sheet_parts poll lines count s.decision is_count.line_count,
      )

-- ---- what is said
pub same_verified : (poll : PollContent) (lines : List Text) (text : Text) (casting : Option ℕ) → IsFound poll (IsSheet poll lines) text (Same casting) → IsVerification poll lines text (matching casting)
same_verified poll lines text None found = found.1
same_verified poll lines text (Some o) found = (found.2 None tt tt, found.0, found.1, λ p option below. found.2 (Some p) option below)

module _ (outcomes : OutcomesAreDetermined) (unique : SheetIsUnique) (poll : PollContent) (lines : List Text) (count : Count) (is_count : IsCountOf poll lines count) (text : Text) (casting : Option ℕ) where
  pub is_verified : IsFound poll (IsWhole poll count (shared_text poll count)) text (Same casting) → IsVerification poll lines text (matching casting)
  is_verified found =
      let last = found.1.1 in
      same_verified poll lines text casting
      (found_again poll (IsWhole poll count (shared_text poll count)) text (IsSheet poll lines) (whole_is_sheet poll lines count is_count)
      (sheet_is_whole poll lines count is_count outcomes unique casting last.0 last.1) (Same casting) found)

  module _ (sheet : Text) (whole : IsWhole poll count (shared_text poll count) casting sheet) (found : IsFound poll (IsWhole poll count (shared_text poll count)) text (Closest casting)) where
    closest_sheet : IsFound poll (IsSheet poll lines) text (Closest casting)
    closest_sheet =
        found_again poll (IsWhole poll count (shared_text poll count)) text (IsSheet poll lines) (whole_is_sheet poll lines count is_count)
        (sheet_is_whole poll lines count is_count outcomes unique casting whole.1.0 whole.1.1) (Closest casting) found

    pub none_verified : IsVerification poll lines text Differs
    none_verified = (closest_sheet.0 None tt, λ o option. closest_sheet.0 (Some o) option)

    pub agrees_longest : AgreesLongest poll (IsSheet poll lines) text casting sheet
    agrees_longest = closest_sheet.1 sheet (whole_is_sheet poll lines count is_count casting sheet whole)
