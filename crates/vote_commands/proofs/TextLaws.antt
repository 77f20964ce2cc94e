-- Each command but `explain` has one text for the bytes of its files: by the laws of vote_sheet on sheets, pictures, verifications and steps.
use Rattle.std.proofs.Common.{◌≡◌, ℕ, List, Option, refl, sym, ap, ap₂, ◌∙◌, subst}
use Rattle.std.proofs.Common.{Bor}
use Rattle.std.specs.Prelude.{Ok, Result}
use Rattle.vote_poll.specs.PollContent.{PollContent}
use Rattle.vote_poll.specs.PollFile.{poll_in}
use Rattle.vote_poll.specs.declared.PollFault.{PollFault}
use Rattle.vote_poll_text.specs.Lines.{lines_of}
use Rattle.vote_sheet.specs.Picture.{PictureExists, PictureIsUnique, picture_text}
use Rattle.vote_sheet.specs.SheetOf.{SheetExists, SheetIsUnique}
use Rattle.vote_sheet.specs.Standing.{standing_text}
use Rattle.vote_sheet.specs.Steps.{StepsAreDetermined, StepsExist, check_text}
use Rattle.vote_poll_text.specs.Texts.{Text}
use Rattle.vote_sheet.specs.Verify.{VerificationsAreDetermined, VerificationsExist}
use Rattle.vote_request.specs.declared.Listing.{Listing}
use Rattle.vote_request.specs.declared.Listing.TheVariants.{Standing, Steps}
use Rattle.vote_request.specs.declared.Purpose.{Purpose}
use Rattle.vote_request.specs.declared.Purpose.TheVariants.{Picture, Sheet, Verification}
use Rattle.vote_commands.specs.declared.fault.Ended.{Ended}
use Rattle.vote_commands.specs.Counting.{IsMade, casting_option, ended_by_decision, ended_by_verification}
use Rattle.vote_commands.specs.Inputs.{Inputs}
use Rattle.vote_commands.specs.OneText.{ChecksHaveOneText, CountsHaveOneText, ListingsHaveOneText}
use Rattle.vote_commands.specs.Runs.{IsListed}
use Rattle.vote_commands.specs.TextAndEnd.{TextAndEnd}

-- ---- there is one
made : SheetExists → PictureExists → VerificationsExist → (purpose : Purpose (Bor Text)) (file : Text) (poll : PollContent) (lines : List Text) (casting : Option ℕ) → poll_in file ≡ Ok poll
    → (told : TextAndEnd) × IsMade purpose poll lines casting told
made sheets pictures verifications Sheet file poll lines casting meant =
    let sheet = sheets file poll lines casting meant in
    let decision = sheet.1.0.decision in
    (record { text = sheet.0; end = ended_by_decision decision }, (decision, (sheet.1.0, sheet.1.1, sheet.1.2, refl), refl))
made sheets pictures verifications Picture file poll lines casting meant =
    let picture = pictures file poll lines casting meant in
    (record { text = picture.0; end = ended_by_decision picture.1 }, (picture.1, picture.2, refl))
made sheets pictures verifications (Verification sheet) file poll lines casting meant =
    let said = verifications file poll lines sheet.now meant in
    (record { text = said.1; end = ended_by_verification said.0 }, (said.0, said.2, said.3, refl))

-- ---- there is only one
one_poll : (read : Result PollContent PollFault) (poll other : PollContent) → read ≡ Ok poll → read ≡ Ok other → poll ≡ other
one_poll read poll other is is_other = cc

same_told : (told other : TextAndEnd) → told.text ≡ other.text → told.end ≡ other.end → told ≡ other
same_told told other text end = ap₂ (λ (t : Text) (e : Ended). record { text = t; end = e }) text end

made_once : SheetIsUnique → PictureIsUnique → VerificationsAreDetermined → (purpose : Purpose (Bor Text)) (poll : PollContent) (lines : List Text) (casting : Option ℕ) (told other : TextAndEnd)
    → IsMade purpose poll lines casting told → IsMade purpose poll lines casting other → told ≡ other
made_once sheets pictures verifications Sheet poll lines casting told other (decision, is, end) (second, is_other, other_end) =
    let text = sheets poll lines casting told.text other.text (is.0, is.1, is.2) (is_other.0, is_other.1, is_other.2) in
    let picture = picture_text poll is.0 in
    let same = (pictures poll lines casting picture (picture_text poll is_other.0) decision second (is.0, is.1, refl, is.3) (is_other.0, is_other.1, refl, is_other.3)).1 in
    same_told told other text (end ∙ ap ended_by_decision same ∙ sym other_end)
made_once sheets pictures verifications Picture poll lines casting told other (decision, is, end) (second, is_other, other_end) =
    let same = pictures poll lines casting told.text other.text decision second is is_other in
    same_told told other same.0 (end ∙ ap ended_by_decision same.1 ∙ sym other_end)
made_once sheets pictures verifications (Verification sheet) poll lines casting told other (said, is, words, end) (second, is_other, others, other_end) =
    let same = verifications poll lines sheet.now told.text other.text said second is words is_other others in
    same_told told other same.1 (end ∙ ap ended_by_verification same.0 ∙ sym other_end)

listed_once : StepsAreDetermined → (listing : Listing) (poll : PollContent) (lines : List Text) (text other : Text) → IsListed listing poll lines text → IsListed listing poll lines other → text ≡ other
listed_once steps Steps poll lines text other is is_other = steps poll lines text other is is_other
listed_once steps Standing poll lines text other is is_other = is ∙ sym is_other

-- ---- both
pub counts_have_one_text : SheetExists → PictureExists → VerificationsExist → SheetIsUnique → PictureIsUnique → VerificationsAreDetermined → CountsHaveOneText
counts_have_one_text sheets pictures verifications one_sheet one_picture one_verification purpose inputs poll meant =
    let lines = lines_of inputs.ballots in
    let told = made sheets pictures verifications purpose inputs.poll poll lines (casting_option poll inputs.casting) meant in (
      told.0,
      (poll, meant, told.1),
      λ other is.
          let P : PollContent → Type 0 = λ p. IsMade purpose p lines (casting_option p inputs.casting) other in
          let again = subst P (one_poll (poll_in inputs.poll) is.0 poll is.1 meant) is.2 in
          made_once one_sheet one_picture one_verification purpose poll lines (casting_option poll inputs.casting) other told.0 again told.1,
    )

listed : StepsExist → (listing : Listing) (poll : PollContent) (lines : List Text) → (text : Text) × IsListed listing poll lines text
listed steps Steps poll lines = steps poll lines
listed steps Standing poll lines = (standing_text poll lines, refl)

pub listings_have_one_text : StepsExist → StepsAreDetermined → ListingsHaveOneText
listings_have_one_text steps one_text listing poll_text ballots poll meant =
    let text = listed steps listing poll (lines_of ballots) in (
      text.0,
      (poll, meant, text.1),
      λ other is.
          let P : PollContent → Type 0 = λ p. IsListed listing p (lines_of ballots) other in
          listed_once one_text listing poll (lines_of ballots) other text.0 (subst P (one_poll (poll_in poll_text) is.0 poll is.1 meant) is.2) text.1,
    )

pub checks_have_one_text : ChecksHaveOneText
checks_have_one_text poll_text poll meant =
    (check_text poll, (poll, meant, refl), λ other is. is.2 ∙ ap check_text (one_poll (poll_in poll_text) is.0 poll is.1 meant))
