-- The line with the first byte at which two texts differ is the first line in which they differ.
use Rattle.std.proofs.Common.{◌≡◌, ◌≢◌, ℕ, ◌+◌, ◌==◌, Bool, List, [], ◌∷◌, ◌++◌, length, take, add-one, inl, inr, refl, sym, ap, ap₂, ◌∙◌, subst, arith}
use Rattle.std.specs.Prelude.{count_by}
use Rattle.std.specs.List.{All}
use Rattle.std.proofs.lemmas.Bool.{cases_eq, eq-eqb, ne_eqb}
use Rattle.std.proofs.lemmas.List.Elements.{All-cons, All-head, All-nil, All-tail}
use Rattle.vote_poll_text.specs.Lines.{IsUnbroken, text_of_lines}
use Rattle.vote_count.proofs.Counts.{count-cons, one}
use Rattle.vote_sheet.specs.Sheet.{Text}
use Rattle.vote_sheet.specs.Verify.{DifferFirstAfter, NamesTheFirstLine, common_bytes, common_lines, first_line}

abbrev is_feed : ℕ → Bool
is_feed byte = byte == 10

-- the first byte is the same
pub common_more : (b : ℕ) (bs cs : Text) → common_lines (b ∷ bs) (b ∷ cs) ≡ one (is_feed b) + common_lines bs cs
common_more b bs cs =
    let agree : common_bytes (b ∷ bs) (b ∷ cs) ≡ common_bytes bs cs + 1 = rw (eq-eqb b b refl) refl in
    ap (λ m. count_by is_feed (take m (b ∷ bs))) agree ∙ rw add-one (count-cons is_feed b (take (common_bytes bs cs) bs))

line_of_feed : (b : ℕ) (bs : Text) → b ≡ 10 → first_line (b ∷ bs) ≡ b ∷ []
line_of_feed b bs is = rw (eq-eqb b 10 is) refl

line_of_other : (b : ℕ) (bs : Text) → b ≢ 10 → first_line (b ∷ bs) ≡ b ∷ first_line bs
line_of_other b bs other = rw (ne_eqb b 10 other) refl

-- a line begins with the first byte
begins : (b : ℕ) (bs : Text) → (later : Text) × (first_line (b ∷ bs) ≡ b ∷ later)
begins b bs = elim (cases_eq b 10) [ inl feed ↦ ([], line_of_feed b bs feed) | inr other ↦ (first_line bs, line_of_other b bs other) ]

no_line : (b : ℕ) (bs : Text) → first_line (b ∷ bs) ≢ []
no_line b bs none = let first : b ∷ (begins b bs).0 ≡ [] = sym (begins b bs).1 ∙ none in cc

-- the first lines differ at once
at_once : (text sheet : Text) → first_line text ≢ first_line sheet → DifferFirstAfter text sheet 0
at_once text sheet differ = record {
  lines = [];
  unbroken = All-nil IsUnbroken;
  count = refl;
  rest = text;
  other = sheet;
  is_text = refl;
  is_sheet = refl;
  differ = differ;
}

-- after a line feed that both have
after_feed : (b c : ℕ) (bs cs : Text) (n : ℕ) → DifferFirstAfter bs cs n → b ≡ 10 → c ≡ 10 → DifferFirstAfter (b ∷ bs) (c ∷ cs) (n + 1)
after_feed b c bs cs n later is_b is_c = record {
  lines = [] ∷ later.lines;
  unbroken = All-cons IsUnbroken [] later.lines (All-nil (λ x. x ≢ 10)) later.unbroken;
  count = omega (arith, later.count);
  rest = later.rest;
  other = later.other;
  is_text = ap₂ ◌∷◌ is_b later.is_text;
  is_sheet = ap₂ ◌∷◌ is_c later.is_sheet;
  differ = later.differ;
}

-- after another byte that both have
after_byte : (b c : ℕ) (bs cs : Text) (n : ℕ) (lines : List Text) → All IsUnbroken lines → length lines ≡ n → (rest other : Text)
    → bs ≡ text_of_lines lines ++ rest → cs ≡ text_of_lines lines ++ other → first_line rest ≢ first_line other → b ≡ c → b ≢ 10 → DifferFirstAfter (b ∷ bs) (c ∷ cs) n
after_byte b c bs cs n [] unbroken count rest other is_text is_sheet differ same no_feed =
    let apart : first_line (b ∷ bs) ≢ first_line (c ∷ cs) = λ e.
    (let both : b ∷ first_line bs ≡ c ∷ first_line cs = sym (line_of_other b bs no_feed) ∙ e ∙ line_of_other c cs (λ feed. no_feed (same ∙ feed)) in
    let lines : first_line bs ≡ first_line cs = cc in
    differ (ap first_line (sym is_text) ∙ lines ∙ ap first_line is_sheet)) in
    subst (DifferFirstAfter (b ∷ bs) (c ∷ cs)) count (at_once (b ∷ bs) (c ∷ cs) apart)
after_byte b c bs cs n (line ∷ lines) unbroken count rest other is_text is_sheet differ same no_feed = record {
  lines = (b ∷ line) ∷ lines;
  unbroken = All-cons IsUnbroken (b ∷ line) lines (All-cons (λ x. x ≢ 10) b line no_feed (All-head IsUnbroken line lines unbroken)) (All-tail IsUnbroken line lines unbroken);
  count = count;
  rest = rest;
  other = other;
  is_text = ap (λ t. b ∷ t) is_text;
  is_sheet = ap₂ ◌∷◌ (sym same) is_sheet;
  differ = differ;
}

pub names_the_first_line : NamesTheFirstLine
names_the_first_line [] [] apart = absurd (apart refl)
names_the_first_line [] (c ∷ cs) apart = at_once [] (c ∷ cs) (λ e. no_line c cs (sym e))
names_the_first_line (b ∷ bs) [] apart = at_once (b ∷ bs) [] (λ e. no_line b bs e)
names_the_first_line (b ∷ bs) (c ∷ cs) apart =
    elim (cases_eq b c) [
      | inl same ↦
          let k = common_bytes bs cs in
          let n = common_lines bs cs in
          let later = names_the_first_line bs cs (λ e. apart (ap₂ ◌∷◌ same e)) in
          let agree : common_bytes (b ∷ bs) (c ∷ cs) ≡ k + 1 = rw (eq-eqb b c same) refl in
          let count : common_lines (b ∷ bs) (c ∷ cs) ≡ one (is_feed b) + n = ap (λ m. count_by is_feed (take m (b ∷ bs))) agree ∙ rw add-one (count-cons is_feed b (take k bs)) in
          elim (cases_eq b 10) [
            | inl feed ↦
                let here : common_lines (b ∷ bs) (c ∷ cs) ≡ n + 1 = omega (arith, count, ap one (eq-eqb b 10 feed)) in
                subst (DifferFirstAfter (b ∷ bs) (c ∷ cs)) (sym here) (after_feed b c bs cs n later feed (sym same ∙ feed))
            | inr other ↦
                let here : common_lines (b ∷ bs) (c ∷ cs) ≡ n = omega (arith, count, ap one (ne_eqb b 10 other)) in
                subst (DifferFirstAfter (b ∷ bs) (c ∷ cs)) (sym here)
                (after_byte b c bs cs n later.lines later.unbroken later.count later.rest later.other later.is_text later.is_sheet later.differ same other)
          ]
      | inr other ↦
          let agree : common_bytes (b ∷ bs) (c ∷ cs) ≡ 0 = rw (ne_eqb b c other) refl in
          let here : common_lines (b ∷ bs) (c ∷ cs) ≡ 0 = ap (λ m. count_by is_feed (take m (b ∷ bs))) agree in
          let apart_lines : first_line (b ∷ bs) ≢ first_line (c ∷ cs) = λ e.
          (let both : b ∷ (begins b bs).0 ≡ c ∷ (begins c cs).0 = sym (begins b bs).1 ∙ e ∙ (begins c cs).1 in
          let same : b ≡ c = cc in
          other same) in
          subst (DifferFirstAfter (b ∷ bs) (c ∷ cs)) (sym here) (at_once (b ∷ bs) (c ∷ cs) apart_lines)
    ]
