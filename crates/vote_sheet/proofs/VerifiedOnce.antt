-- The poll, the lines and the text determine what `verify` says, and its words.
use Rattle.std.proofs.Common.{◌≡◌, ℕ, ◌<◌, ◌⊎◌, List, Option, None, Some, inl, inr, refl, sym, ap, ◌∙◌, subst, arith}
use Rattle.std.proofs.lemmas.Bool.{cases_lt}
use Rattle.vote_poll.specs.PollContent.{PollContent}
use Rattle.vote_sheet.specs.SheetOf.{IsSheet, SheetIsUnique}
use Rattle.vote_poll_text.specs.Texts.{Text}
use Rattle.vote_sheet.specs.Verify.{AgreesLongest, AreVerificationWords, ComesBefore, IsVerification, VerificationsAreDetermined, difference_text}
use Rattle.vote_sheet.specs.declared.verify.Verification.{Verification}
use Rattle.vote_sheet.specs.declared.verify.Verification.TheVariants.{Matches, MatchesCasting, Differs}

-- of two casting votes one comes first, or they are the same
in_order : (casting other : Option ℕ) → ComesBefore casting other ⊎ ((casting ≡ other) ⊎ ComesBefore other casting)
in_order None None = inr (inl refl)
in_order None (Some p) = inl tt
in_order (Some o) None = inr (inr tt)
in_order (Some o) (Some p) =
    elim (cases_lt o p) [
      | inl less ↦ inl less
      | inr most ↦ elim (cases_lt p o) [ inl less ↦ inr (inr less) | inr least ↦ inr (inl (ap Some (omega (arith, most, least)))) ]
    ]

module _ (unique : SheetIsUnique) (poll : PollContent) (lines : List Text) (text : Text) where
  abbrev Closest : Option ℕ → Text → Type 0
  Closest = AgreesLongest poll (IsSheet poll lines) text

  -- no sheet with a later casting vote agrees longest, too
  not_before : (casting other : Option ℕ) (sheet another : Text) → Closest casting sheet → Closest other another → ComesBefore casting other → ⊥
  not_before casting other sheet another is is_other before =
      absurd (omega (arith, is_other.first casting sheet is.vote before is.is_sheet, is.longest other another is_other.vote is_other.is_sheet))

  same_casting : (casting other : Option ℕ) (sheet another : Text) → Closest casting sheet → Closest other another → casting ≡ other
  same_casting casting other sheet another is is_other =
      elim (in_order casting other) [
        | inl before ↦ absurd (not_before casting other sheet another is is_other before)
        | inr (inl same) ↦ same
        | inr (inr after) ↦ absurd (not_before other casting another sheet is_other is after)
      ]

  same_difference : (words others : Text) → AreVerificationWords poll lines text Differs words → AreVerificationWords poll lines text Differs others → words ≡ others
  same_difference words others (casting, sheet, is, said) (other, another, is_other, said_other) =
      let same = same_casting casting other sheet another is is_other in
      let P : Option ℕ → Type 0 = λ c. IsSheet poll lines c sheet in
      let one : sheet ≡ another = unique poll lines other sheet another (subst P same is.is_sheet) is_other.is_sheet in
      said ∙ ap (difference_text text) one ∙ sym said_other

  determined : (said other : Verification) (words others : Text) → IsVerification poll lines text said → AreVerificationWords poll lines text said words
      → IsVerification poll lines text other → AreVerificationWords poll lines text other others → (said ≡ other) × (words ≡ others)
  determined Matches Matches words others is says is_other says_other = (refl, says ∙ sym says_other)
  determined Matches (MatchesCasting p) words others is says is_other says_other = absurd (is_other.0 is)
  determined Matches Differs words others is says is_other says_other = absurd (is_other.0 is)
  determined (MatchesCasting o) Matches words others is says is_other says_other = absurd (is.0 is_other)
  determined (MatchesCasting o) (MatchesCasting p) words others is says is_other says_other =
      let not_less : (a b : ℕ) → IsVerification poll lines text (MatchesCasting a) → IsVerification poll lines text (MatchesCasting b) → a < b → ⊥ =
      λ a b is_a is_b less. is_b.3 a is_a.1 less is_a.2 in
      elim (cases_lt o p) [
        | inl less ↦ absurd (not_less o p is is_other less)
        | inr most ↦ elim (cases_lt p o) [
          | inl less ↦ absurd (not_less p o is_other is less)
          | inr least ↦
              let same : o ≡ p = omega (arith, most, least) in
              let P : ℕ → Type 0 = λ a. AreVerificationWords poll lines text (MatchesCasting a) words in
              (ap MatchesCasting same, subst P same says ∙ sym says_other)
        ]
      ]
  determined (MatchesCasting o) Differs words others is says is_other says_other = absurd (is_other.1 o is.1 is.2)
  determined Differs Matches words others is says is_other says_other = absurd (is.0 is_other)
  determined Differs (MatchesCasting p) words others is says is_other says_other = absurd (is.1 p is_other.1 is_other.2)
  determined Differs Differs words others is says is_other says_other = (refl, same_difference words others says says_other)

pub verifications_are_determined : SheetIsUnique → VerificationsAreDetermined
verifications_are_determined unique poll lines text words others said other = determined unique poll lines text said other words others
