-- Words that ask for a sheet make one request: the count of these files with this casting vote. They have no fault but want of memory.
use Rattle.std.proofs.Common.{◌≡◌, ◌≢◌, ◌∙◌, ℕ, ap, arith, Bor, List, Option, Some, inl, inr, subst, sym}
use Rattle.std.specs.Prelude.{codes, option_copied, slice_index, unwrap_or}
use Rattle.vote_poll_text.specs.Texts.{Text}
use Rattle.vote_request.specs.declared.Listing.TheVariants as listing
use Rattle.vote_request.specs.declared.Purpose.TheVariants as purpose
use Rattle.vote_request.specs.declared.Request.TheVariants as request
use Rattle.vote_command_line.specs.ParsedArgs.{HasPurpose, HasText, NamedRequest}
use Rattle.vote_command_line.specs.Words.{AreArgsOf, HaveArgsFault}
use Rattle.vote_command_line.specs.declared.ArgsFault.{ArgsFault}
use Rattle.vote_command_line.specs.declared.ArgsFault.TheVariants.{Help, Refused, NotUtf8, Memory}
use Rattle.vote_program.specs.ProgramAnswers.{AnswersWords}
use Rattle.vote_program.specs.Outputs.{Written}

-- the request counts the files of these names with this casting vote, for their sheet
abbrev pub IsCountOfNames : Text → Text → Option Text → NamedRequest → Type 0
IsCountOfNames poll_name ballots_name casting (request.Count poll ballots desks option purpose.Sheet) =
    (poll.now ≡ poll_name) × (ballots.now ≡ ballots_name) × (option_copied option ≡ casting)
IsCountOfNames poll_name ballots_name casting other = ⊥

same_asked : {R : Type 0} (subcommand : Option (Text × R)) (name other : Text) (rows others : R) → subcommand ≡ Some (name, rows) → subcommand ≡ Some (other, others)
    → (name ≡ other) × (rows ≡ others)
same_asked subcommand name other rows others is also =
    let same = ap (λ named. unwrap_or named (name, rows)) (sym is ∙ also) in (ap (λ pair. pair.0) same, ap (λ pair. pair.1) same)

no_count : (name : Text) → codes "count" ≡ name → slice_index name 1 ≢ 111 → ⊥
no_count name is other = other (ap (λ text. slice_index text 1) (sym is))

same_value : {A : Type 0} (given : Option A) (x y : A) → given ≡ Some x → given ≡ Some y → y ≡ x
same_value given x y is also = let both = sym is ∙ also in cc

module _ (words : List Text) (poll_name ballots_name : Bor Text) (desks : ℕ) (option_name : Option (Bor Text))
    (wanted : AreArgsOf words (request.Count poll_name ballots_name desks option_name purpose.Sheet)) where
  pub count_is_asked : (made : NamedRequest) → AreArgsOf words made → IsCountOfNames poll_name.now ballots_name.now (option_copied option_name) made
  count_is_asked (request.Count poll ballots others option purpose.Sheet) asks =
      let ours = wanted.1 in
      let given = asks.1 in
      let rows = (same_asked _ _ _ _ _ ours.1 given.1).1 in (
        same_value _ _ _ ours.2.0 (subst (λ found. HasText found (codes "poll") poll.now) (sym rows) given.2.0),
        same_value _ _ _ ours.2.1 (subst (λ found. HasText found (codes "ballots") ballots.now) (sym rows) given.2.1),
        subst (λ found. HasPurpose found (option_copied option) purpose.Sheet) (sym rows) given.2.3 ∙ sym ours.2.3,
      )
  count_is_asked (request.Count poll ballots others option purpose.Picture) asks = absurd (no_count _ (same_asked _ _ _ _ _ wanted.1.1 asks.1.1).0 (λ e. omega (arith, e)))
  count_is_asked (request.Count poll ballots others option (purpose.Verification sheet)) asks = absurd (no_count _ (same_asked _ _ _ _ _ wanted.1.1 asks.1.1).0 (λ e. omega (arith, e)))
  count_is_asked (request.List poll ballots listing.Steps) asks = absurd (no_count _ (same_asked _ _ _ _ _ wanted.1.1 asks.1.1).0 (λ e. omega (arith, e)))
  count_is_asked (request.List poll ballots listing.Standing) asks = absurd (no_count _ (same_asked _ _ _ _ _ wanted.1.1 asks.1.1).0 (λ e. omega (arith, e)))
  count_is_asked (request.Check poll) asks = absurd (no_count _ (same_asked _ _ _ _ _ wanted.1.1 asks.1.1).0 (λ e. omega (arith, e)))
  count_is_asked (request.Explain poll given file told) asks = absurd (no_count _ (same_asked _ _ _ _ _ wanted.1.1 asks.1.1).0 (λ e. omega (arith, e)))

-- words that make a request have no fault but want of memory
pub asks_without_fault : (words : List Text) (made : NamedRequest) (fault : ArgsFault) (written errors : Written) (answered : ℕ) → AreArgsOf words made → HaveArgsFault words fault
    → AnswersWords fault written errors answered → answered ≡ 5
asks_without_fault words made (Help text) written errors answered asks none answers = absurd ((rw asks.0 at none).2)
asks_without_fault words made (Refused text) written errors answered asks (inl kinds) answers = absurd ((rw asks.0 at kinds).2)
asks_without_fault words made (Refused text) written errors answered asks (inr no_request) answers = absurd (no_request made asks.1)
asks_without_fault words made NotUtf8 written errors answered asks none answers = absurd none
asks_without_fault words made Memory written errors answered asks none answers = answers.0
