-- Each line of a box that holds the lines is cast before the close, with its own reading.
use Rattle.std.proofs.Common.{◌≡◌, ℕ, List, [], ◌∷◌, length, get_or, sym, ap, ◌∙◌, subst, arith, length-append}
use Rattle.std.proofs.lemmas.List.{get_or_append_left, length-map}
use Rattle.vote_poll.specs.PollContent.{PollContent}
use Rattle.vote_poll.specs.Readings.{reading, readings}
use Rattle.vote_steps.specs.declared.step.Step.{Step}
use Rattle.vote_steps.specs.declared.step.Step.TheVariants.{Close}
use Rattle.vote_steps.specs.History.{is_used, before_close}
use Rattle.vote_steps.specs.Boxes.{BoxState}
use Rattle.vote_steps.specs.Recasts.{HasOwnReading, CastsLines}
use Rattle.vote_steps.specs.HeldLines.{HoldsLines}
use Rattle.vote_steps.specs.Standing.{LastLinesStand}
use Rattle.vote_steps.proofs.HistoryLemmas.{casts_before, is_used-close}
use Rattle.vote_steps.proofs.LegalLemmas.{each_stamp_is_used_lem}
use Rattle.vote_steps.proofs.RecastLemmas.{order_does_not_matter_lem}

pub as_long : (poll : PollContent) (lines : List (List ℕ)) → length (readings poll lines) ≡ length lines
as_long poll lines = length-map lines (reading poll)

casts_lines : (poll : PollContent) (lines : List (List ℕ)) (b : BoxState) → HoldsLines poll lines b → CastsLines (readings poll lines) b.steps
casts_lines poll lines b held =
    let P : Step → Type 0 = λ s. HasOwnReading (readings poll lines) s in
    let xs = before_close b.steps in
    let last = held.closed_last in
    let len = ap length last in
    let more = length-append xs (Close ∷ []) in
    record {
      own_reading = λ k d lt. subst P (ap (λ ys. get_or ys k d) last ∙ get_or_append_left xs (Close ∷ []) d k lt) (held.own_readings k d (omega arith));
      all_cast = λ stamp low high.
          let limit = held.sizes.2 in
          let many = as_long poll lines in
          let used = each_stamp_is_used_lem b held.legal (casts_before b.steps held.closed_last ∙ held.casts ∙ sym held.sizes.2) stamp low (omega arith) in
          sym (ap (λ ys. is_used ys stamp) last ∙ is_used-close xs stamp) ∙ used;
    }

pub last_lines_stand_lem : LastLinesStand
last_lines_stand_lem poll lines b voter held = order_does_not_matter_lem b.last_in_time (readings poll lines) b.steps voter (casts_lines poll lines b held)
