-- Of each text something is said: the sheets are compared with it one after another, without a casting vote and with each.
use Rattle.std.proofs.Common.{◌≡◌, ◌≢◌, ℕ, zero, suc, ◌+◌, ◌⊎◌, List, Option, None, Some, inl, inr, refl, sym, ◌∙◌, subst, arith}
use Rattle.std.specs.Str.{bytes_eq}
use Rattle.std.specs.Cmp.Lexicographic.{bytes_decides}
use Rattle.std.proofs.lemmas.Bool.{cases_Bool, cases_lt, true≢false}
use Rattle.vote_poll.specs.PollContent.{PollContent, option_count}
use Rattle.vote_sheet.specs.SheetOf.{IsSheet, SheetExists, SheetIsUnique}
use Rattle.vote_poll_text.specs.Texts.{Text}
use Rattle.vote_sheet.specs.Verify.{AreVerificationWords, IsCasting, IsFound, IsVerification, VerificationsExist, common_lines, difference_text, verified_text}
use Rattle.vote_sheet.specs.declared.verify.Found.{Found}
use Rattle.vote_sheet.specs.declared.verify.Found.TheVariants.{Closest, Same}
use Rattle.vote_sheet.specs.declared.verify.Verification.{Verification}
use Rattle.vote_sheet.specs.declared.verify.Verification.TheVariants.{Matches, MatchesCasting, Differs}
use Rattle.vote_sheet.proofs.Verifying.{Searched, closest_found, first_found, first_searched, longer, no_longer, same_found, same_verified}

same_or_other : (text other : Text) → (text ≡ other) ⊎ (text ≢ other)
same_or_other text other =
    elim (cases_Bool (bytes_eq text other)) [
      | inl same ↦ inl ((bytes_decides text other).0 same)
      | inr differs ↦ inr (λ same. true≢false (sym ((bytes_decides text other).1 same) ∙ differs))
    ]

module _ (poll : PollContent) (lines : List Text) (text : Text) (unique : (casting : Option ℕ) (a b : Text) → IsSheet poll lines casting a → IsSheet poll lines casting b → a ≡ b) (sheets : (casting : Option ℕ) → (sheet : Text) × IsSheet poll lines casting sheet) where
  -- the search goes on from this option, with so many options left
  found_from : (left upto : ℕ) → upto + left ≡ option_count poll + 1 → (closest : Option ℕ) (longest : ℕ) → Searched poll (IsSheet poll lines) text upto closest longest
      → (found : Found) × IsFound poll (IsSheet poll lines) text found
  found_from zero upto all closest longest tried = (Closest closest, closest_found poll (IsSheet poll lines) text upto closest longest tried (omega (arith, all)))
  found_from (suc left) upto all closest longest tried =
      let next = sheets (Some upto) in
      let vote : IsCasting poll (Some upto) = (omega (arith, tried.within), omega (arith, all)) in
      elim (same_or_other text next.0) [
        | inl same ↦ (Same (Some upto), same_found poll (IsSheet poll lines) text upto closest longest tried vote (subst (IsSheet poll lines (Some upto)) (sym same) next.1))
        | inr other ↦ elim (cases_lt longest (common_lines text next.0)) [
          | inl more ↦
              found_from left (upto + 1) (omega (arith, all)) (Some upto) (common_lines text next.0)
              (longer poll (IsSheet poll lines) unique text upto closest longest tried next.0 next.1 other vote more)
          | inr most ↦ found_from left (upto + 1) (omega (arith, all)) closest longest (no_longer poll (IsSheet poll lines) unique text upto closest longest tried next.0 next.1 other most)
        ]
      ]

  is_found : (found : Found) × IsFound poll (IsSheet poll lines) text found
  is_found =
      let first = sheets None in
      elim (same_or_other text first.0) [
        | inl same ↦ (Same None, first_found poll (IsSheet poll lines) text (subst (IsSheet poll lines None) (sym same) first.1))
        | inr other ↦
            found_from (option_count poll) 1 (omega arith) None (common_lines text first.0)
            (first_searched poll (IsSheet poll lines) unique text first.0 first.1 other (common_lines text first.0) refl)
      ]

  said_of : (found : Found) → IsFound poll (IsSheet poll lines) text found → (said : Verification) × (words : Text) × IsVerification poll lines text said × AreVerificationWords poll lines text said words
  said_of (Same None) is = (Matches, verified_text poll.options None, same_verified poll lines text None is, refl)
  said_of (Same (Some o)) is = (MatchesCasting o, verified_text poll.options (Some o), same_verified poll lines text (Some o) is, refl)
  said_of (Closest casting) is =
      let sheet = sheets casting in
      (Differs, difference_text text sheet.0, (is.0 None tt, λ o option. is.0 (Some o) option), (casting, sheet.0, is.1 sheet.0 sheet.1, refl))

pub verifications_exist : SheetExists → SheetIsUnique → VerificationsExist
verifications_exist exists unique file poll lines text meant =
    let sheets : (casting : Option ℕ) → (sheet : Text) × IsSheet poll lines casting sheet = λ casting. exists file poll lines casting meant in
    let found = is_found poll lines text (unique poll lines) sheets in
    said_of poll lines text (unique poll lines) sheets found.0 found.1
