-- The history in which desk 1 casts lines in their order.
use Rattle.std.proofs.Common.{◌≡◌, ℕ, zero, suc, ◌+◌, ◌-◌, ◌<◌, ◌≤◌, false, ◌||◌, eqb, List, [], ◌∷◌, ◌++◌, Some, length, get_or, refl, inl, inr, sym, ap, ◌∙◌, subst, length-append, take, drop, arith}
use Rattle.std.specs.Prelude.{All, slice_get}
use Rattle.std.specs.Option.{option_map}
use Rattle.std.proofs.lemmas.Bool.{cases_lt, ne_eqb}
use Rattle.std.proofs.lemmas.Grind.{common_steps}
use Rattle.std.proofs.lemmas.List.{take_at}
use Rattle.std.specs.Str.{bytes_eq}
use Rattle.std.proofs.lemmas.List.Elements.{All-nil, All-push}
use Rattle.std.proofs.lemmas.List.Quantifiers.{position-Some}
use Rattle.std.proofs.lemmas.Option.{get_or_from_slice_get, gets, slice_get_within, slice_get-get_or, slice_get-map}
use mathlib.Core.List.{append-nil}
use Rattle.vote_poll.specs.PollContent.{PollContent, elector_count, last_in_time, option_count}
use Rattle.vote_poll.specs.Readings.{IsReading, ReadingFits, reading, readings}
use Rattle.vote_poll.specs.declared.Reading.{Reading}
use Rattle.vote_poll.specs.declared.Reading.TheVariants.{Bad, Ballot}
use Rattle.vote_poll.specs.declared.LineFault.TheVariants.{Shape}
use Rattle.vote_steps.specs.declared.step.Reply.{Reply}
use Rattle.vote_steps.specs.declared.step.Step.{Step}
use Rattle.vote_steps.specs.declared.step.Step.TheVariants.{Cast, Close}
use Rattle.vote_steps.specs.History.{before_close, is_closed, is_used, reply_to}
use Rattle.vote_steps.specs.Boxes.{BoxState, IsLegal, box_of}
use Rattle.vote_steps.specs.Recasts.{HasOwnReading}
use Rattle.vote_steps.proofs.HistoryLemmas.{before_close-append_open, is_closed-append, is_used-cast}
use Rattle.vote_steps.specs.HeldLines.{AreCastInOrder, HasSizes, HoldsLines, LinesCanBeCast, OrderLeavesNoChoice}
use Rattle.vote_steps.proofs.BoxLemmas.{IsLegal-append}
use Rattle.vote_steps.proofs.LineLemmas.{take_next}
use Rattle.vote_steps.proofs.StandingLemmas.{as_long}

abbrev reading_at : List Reading → ℕ → Reading
reading_at readings k = get_or readings k (Bad Shape)

-- the casts of this many first lines
pub casts_of : ℕ → List Reading → ℕ → List Step
casts_of last readings zero = []
casts_of last readings (suc k) =
    casts_of last readings k ++ Cast 1 (suc k) (reading_at readings k) (reply_to last (casts_of last readings k) (suc k) (reading_at readings k)) ∷ []

pub none_cast : (last : ℕ) (readings : List Reading) → casts_of last readings 0 ≡ []
unfolding casts_of
none_cast last readings = refl

pub read_at : (poll : PollContent) (lines : List (List ℕ)) (k : ℕ) (line : List ℕ) → slice_get lines k ≡ Some line → slice_get (readings poll lines) k ≡ Some (reading poll line)
read_at poll lines k line h = slice_get-map (reading poll) lines k ∙ ap (option_map (reading poll)) h

-- after the next line
pub casts_of_next : (last : ℕ) (readings : List Reading) (k n : ℕ) (r : Reading) → slice_get readings k ≡ Some r → n ≡ k + 1
    → casts_of last readings k ++ Cast 1 n r (reply_to last (casts_of last readings k) n r) ∷ [] ≡ casts_of last readings n
unfolding casts_of
casts_of_next last readings k zero r h e = absurd (omega arith)
casts_of_next last readings k (suc m) r h e =
    let same : k ≡ m = omega arith in
    let is = get_or_from_slice_get readings k r (Bad Shape) h in
    ap (λ x. casts_of last readings k ++ Cast 1 (suc m) x (reply_to last (casts_of last readings k) (suc m) x) ∷ []) (sym is)
    ∙ ap (λ j. casts_of last readings j ++ Cast 1 (suc m) (reading_at readings j) (reply_to last (casts_of last readings j) (suc m) (reading_at readings j)) ∷ []) same

pub casts_of_length : (last : ℕ) (readings : List Reading) (k : ℕ) → length (casts_of last readings k) ≡ k
unfolding casts_of
casts_of_length last readings zero = refl
casts_of_length last readings (suc k) =
    let step = Cast 1 (suc k) (reading_at readings k) (reply_to last (casts_of last readings k) (suc k) (reading_at readings k)) in
    omega (arith, length-append (casts_of last readings k) (step ∷ []), casts_of_length last readings k)

pub casts_of_open : (last : ℕ) (readings : List Reading) (k : ℕ) → is_closed (casts_of last readings k) ≡ false
unfolding casts_of
casts_of_open last readings zero = refl
casts_of_open last readings (suc k) =
    let step = Cast 1 (suc k) (reading_at readings k) (reply_to last (casts_of last readings k) (suc k) (reading_at readings k)) in
    is_closed-append (casts_of last readings k) step ∙ ap (λ b. b || false) (casts_of_open last readings k)

-- the number of a line that is not yet cast is not used
pub casts_of_unused : (last : ℕ) (readings : List Reading) (k n : ℕ) → k < n → is_used (casts_of last readings k) n ≡ false
unfolding casts_of
casts_of_unused last readings zero n h = refl
casts_of_unused last readings (suc k) n h =
    let r = reading_at readings k in
    is_used-cast (casts_of last readings k) 1 (suc k) r (reply_to last (casts_of last readings k) (suc k) r) n
    ∙ (ap (λ b. b || eqb (suc k) n) (casts_of_unused last readings k n (omega arith)) ∙ ne_eqb (suc k) n (λ e. absurd (omega arith)))

casts_of_own : (last : ℕ) (readings : List Reading) (k : ℕ) → k ≤ length readings → All (HasOwnReading readings) (casts_of last readings k)
unfolding casts_of
casts_of_own last readings zero h = All-nil (HasOwnReading readings)
casts_of_own last readings (suc k) h =
    let r = reading_at readings k in
    let back : suc k - 1 ≡ k = omega arith in
    All-push (HasOwnReading readings) (casts_of last readings k) (Cast 1 (suc k) r (reply_to last (casts_of last readings k) (suc k) r))
    (casts_of_own last readings k (omega arith))
    (omega arith, ap (slice_get readings) back ∙ slice_get-get_or readings k (Bad Shape) (omega arith))

get_before : (steps : List Step) (step : Step) (k : ℕ) → k < length steps → slice_get (steps ++ step ∷ []) k ≡ slice_get steps k
get_before steps step k h = grind (arith, common_steps, gets)

get_last : (steps : List Step) (step : Step) (k : ℕ) → k ≡ length steps → slice_get (steps ++ step ∷ []) k ≡ Some step
get_last steps step k h = grind (arith, common_steps, gets)

casts_of_at : (last : ℕ) (readings : List Reading) (k place : ℕ) → place < k → (reply : Reply) × (slice_get (casts_of last readings k) place ≡ Some (Cast 1 (place + 1) (reading_at readings place) reply))
unfolding casts_of
casts_of_at last readings zero place h = absurd (omega arith)
casts_of_at last readings (suc k) place h =
    let r = reading_at readings k in
    let reply = reply_to last (casts_of last readings k) (suc k) r in
    let step = Cast 1 (suc k) r reply in
    let long = casts_of_length last readings k in
    elim (cases_lt place k) [
      | inl below ↦
          let before = casts_of_at last readings k place below in
          (before.0, get_before (casts_of last readings k) step place (omega arith) ∙ before.1)
      | inr newest ↦
          let same : place ≡ k = omega arith in
          let number : place + 1 ≡ suc k = omega arith in (
            reply,
            get_last (casts_of last readings k) step place (omega arith)
                ∙ (ap (λ j. Some (Cast 1 (suc k) (reading_at readings j) reply)) (sym same) ∙ ap (λ n. Some (Cast 1 n (reading_at readings place) reply)) (sym number)),
          )
    ]

-- this history, closed
module _ (last : ℕ) (readings : List Reading) (steps : List Step) (is : steps ≡ casts_of last readings (length readings) ++ Close ∷ []) where
  pub in_order : AreCastInOrder readings steps
  in_order place r h =
      let within : place < length readings = slice_get_within readings place r h in
      let at = casts_of_at last readings (length readings) place within in
      let long = casts_of_length last readings (length readings) in (
        at.0,
        ap (λ xs. slice_get xs place) is
            ∙ (get_before (casts_of last readings (length readings)) Close place (omega arith)
            ∙ (at.1 ∙ ap (λ x. Some (Cast 1 (place + 1) x at.0)) (get_or_from_slice_get readings place r (Bad Shape) h))),
      )

pub holds_lines : (poll : PollContent) (lines : List (List ℕ)) (b : BoxState) → HasSizes poll lines b
    → b.steps ≡ casts_of (last_in_time poll) (readings poll lines) (length lines) ++ Close ∷ [] → IsLegal b → HoldsLines poll lines b
holds_lines poll lines b sizes steps legal =
    let xs = casts_of (last_in_time poll) (readings poll lines) (length lines) in
    let open_is = casts_of_open (last_in_time poll) (readings poll lines) (length lines) in
    let front_is : before_close b.steps ≡ xs = ap before_close steps ∙ (before_close-append_open xs (Close ∷ []) open_is ∙ append-nil xs) in
    record {
      sizes = sizes;
      casts = ap length front_is ∙ casts_of_length (last_in_time poll) (readings poll lines) (length lines);
      legal = legal;
      closed_last = steps ∙ ap (λ front. front ++ Close ∷ []) (sym front_is);
      own_readings =
          let P : List Step → Type 0 = All (HasOwnReading (readings poll lines)) in
          subst P (sym steps) (All-push (HasOwnReading (readings poll lines)) xs Close (casts_of_own (last_in_time poll) (readings poll lines) (length lines) (omega (arith, as_long poll lines))) tt);
    }

-- ---- there is such a history
abbrev pub EachLineIsRead : Type 0
EachLineIsRead = (poll : PollContent) (line : List ℕ) → IsReading poll line (reading poll line)

reading_fits : (poll : PollContent) (line : List ℕ) (r : Reading) → IsReading poll line r → ReadingFits (option_count poll) (elector_count poll) r
reading_fits poll line (Bad fault) is = tt
reading_fits poll line (Ballot place ranks) is = ((position-Some (bytes_eq is.0) poll.roll place [] is.3).0, is.2)

reading_at-fits : EachLineIsRead → (poll : PollContent) (lines : List (List ℕ)) (k : ℕ) → ReadingFits (option_count poll) (elector_count poll) (reading_at (readings poll lines) k)
reading_at-fits read poll [] k = tt
reading_at-fits read poll (line ∷ lines) zero = reading_fits poll line (reading poll line) (read poll line)
reading_at-fits read poll (line ∷ lines) (suc k) = reading_at-fits read poll lines k

none_is_legal : (poll : PollContent) (limit : ℕ) → IsLegal (box_of poll limit [])
none_is_legal poll limit [] after step none = cc
none_is_legal poll limit (first ∷ before) after step none = cc

-- each cast may follow those before it: its stamp is new, and it has their reply
casts_are_legal : EachLineIsRead → (poll : PollContent) (lines : List (List ℕ)) (k : ℕ) → k ≤ length lines → IsLegal (box_of poll (length lines) (casts_of (last_in_time poll) (readings poll lines) k))
unfolding casts_of
casts_are_legal read poll lines zero h = none_is_legal poll (length lines)
casts_are_legal read poll lines (suc k) h =
    let last = last_in_time poll in
    let all = readings poll lines in
    let r = reading_at all k in
    IsLegal-append (box_of poll (length lines) (casts_of last all k)) (Cast 1 (suc k) r (reply_to last (casts_of last all k) (suc k) r)) (casts_are_legal read poll lines k (omega arith))
    (record {
      desk_fits = (omega arith, omega arith);
      stamp_fits = (omega arith, omega arith);
      stamp_new = casts_of_unused last all k (suc k) (omega arith);
      reading_fits = reading_at-fits read poll lines k;
      answered = refl;
    })

pub lines_can_be_cast : EachLineIsRead → LinesCanBeCast
lines_can_be_cast read poll lines =
    let last = last_in_time poll in
    let all = readings poll lines in
    let casts = casts_of last all (length lines) in
    let closed = box_of poll (length lines) (casts ++ Close ∷ []) in
    let legal : IsLegal closed = IsLegal-append (box_of poll (length lines) casts) Close (casts_are_legal read poll lines (length lines) (omega arith)) (casts_of_open last all (length lines)) in (
      closed,
      holds_lines poll lines closed (refl, refl, refl, refl) refl legal,
      in_order last all closed.steps (ap (λ k. casts_of last all k ++ Close ∷ []) (sym (as_long poll lines))),
    )

-- ---- there is only one such history
split_at : (steps : List Step) (k : ℕ) (step : Step) → slice_get steps k ≡ Some step → steps ≡ take k steps ++ step ∷ drop (suc k) steps
split_at [] k step h = cc
split_at (x ∷ xs) zero step h = let same : x ≡ step = cc in ap (λ y. y ∷ xs) same
split_at (x ∷ xs) (suc k) step h = ap (λ ys. x ∷ ys) (split_at xs k step h)

module _ (poll : PollContent) (lines : List (List ℕ)) (b : BoxState) (held : HoldsLines poll lines b) (in_turn : AreCastInOrder (readings poll lines) b.steps) where
  so_far : (k : ℕ) → k ≤ length lines → take k b.steps ≡ casts_of (last_in_time poll) (readings poll lines) k
  unfolding casts_of
  so_far zero h = refl
  so_far (suc k) h =
      let all = readings poll lines in
      let r = reading_at all k in
      let at : (reply : Reply) × (slice_get b.steps k ≡ Some (Cast 1 (k + 1) r reply)) = in_turn k r (slice_get-get_or all k (Bad Shape) (omega (arith, as_long poll lines))) in
      let step = Cast 1 (k + 1) r at.0 in
      let may = held.legal (take k b.steps) (drop (suc k) b.steps) step (split_at b.steps k step at.1) in
      let number : k + 1 ≡ suc k = omega arith in
      take_next b.steps k step at.1
      ∙ (ap (λ reply. take k b.steps ++ Cast 1 (k + 1) r reply ∷ []) (may.answered ∙ ap (λ last. reply_to last (take k b.steps) (k + 1) r) held.sizes.3)
      ∙ (ap (λ xs. xs ++ Cast 1 (k + 1) r (reply_to (last_in_time poll) xs (k + 1) r) ∷ []) (so_far k (omega arith))
      ∙ ap (λ n. casts_of (last_in_time poll) all k ++ Cast 1 n r (reply_to (last_in_time poll) (casts_of (last_in_time poll) all k) n r) ∷ []) number))

  history_is : b.steps ≡ casts_of (last_in_time poll) (readings poll lines) (length lines) ++ Close ∷ []
  history_is =
      let xs = before_close b.steps in
      let long : length lines ≡ length xs = sym held.casts in
      held.closed_last
      ∙ ap (λ front. front ++ Close ∷ [])
      (sym (take_at xs (Close ∷ []) (length lines) (sym long)) ∙ (sym (ap (take (length lines)) held.closed_last) ∙ so_far (length lines) (omega arith)))

same_box : (b c : BoxState) → b.options ≡ c.options → b.electors ≡ c.electors → b.limit ≡ c.limit → b.last_in_time ≡ c.last_in_time → b.steps ≡ c.steps → b ≡ c
same_box b c options electors limit last steps =
    ap (λ o. record b { options = o }) options
    ∙ (ap (λ e. record b { options = c.options; electors = e }) electors
    ∙ (ap (λ l. record c { limit = l; last_in_time = b.last_in_time; steps = b.steps }) limit
    ∙ (ap (λ u. record c { last_in_time = u; steps = b.steps }) last
    ∙ ap (λ s. record c { steps = s }) steps)))

pub one_history : OrderLeavesNoChoice
one_history poll lines b c held held' in_turn in_turn' =
    let mine = held.sizes in
    let theirs = held'.sizes in
    same_box b c (mine.0 ∙ sym theirs.0) (mine.1 ∙ sym theirs.1) (mine.2 ∙ sym theirs.2) (mine.3 ∙ sym theirs.3)
    (history_is poll lines b held in_turn ∙ sym (history_is poll lines c held' in_turn'))
