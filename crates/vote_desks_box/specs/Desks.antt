-- Desks, the box that they share, and a sealed box, as callers see them.
use Rattle.std.specs.Prelude.{◌≡◌, ℕ, ◌+◌, ◌-◌, ◌<◌, if◌then◌else◌, List, [], ◌∷◌, ◌++◌, Option, length, map, sum_by, count_by, unwrap_or, slice_get, vec_items, IsPermutation}
use Rattle.std.specs.List.{range_with_len, enumerate_from}
use Rattle.std.specs.declared.vec.Vec.{Vec}
use Rattle.vote_poll.specs.PollContent.{PollContent}
use Rattle.vote_poll.specs.declared.Reading.{Reading}
use Rattle.vote_poll.specs.Readings.{ReadingFits}
use Rattle.vote_desks_box.specs.declared.slip.Slip.{Slip}
use Rattle.vote_steps.specs.declared.Reply.{Reply}
use Rattle.vote_steps.specs.declared.Step.TheVariants.{Cast, Close}
use Rattle.vote_steps.specs.History.{is_cast, is_valid, reply_to, standing_ranks}
use Rattle.vote_steps.specs.Boxes.{BoxState, box_of}

-- a desk: its number, the number of slips that it has room for, its slips, and its shares of the books of valid and refused lines
pub record DeskState : Type 0 where
  pub number : ℕ
  pub limit : ℕ
  pub slips : List Slip
  pub valid_share : ℕ
  pub refused_share : ℕ

-- a desk that has cast nothing
abbrev pub fresh_desk : ℕ → ℕ → DeskState
fresh_desk limit number = record { number = number; limit = limit; slips = []; valid_share = 0; refused_share = 0 }

-- desks 1 to this number, which have cast nothing
abbrev pub fresh_desks : ℕ → ℕ → List DeskState
fresh_desks limit desks = map (fresh_desk limit) (range_with_len 1 desks)

-- what a reply adds to the book of valid lines
abbrev pub valid_by : Reply → ℕ
valid_by reply = if is_valid reply then 1 else 0

-- what a reply adds to the book of refused lines
abbrev pub refused_by : Reply → ℕ
refused_by reply = if is_valid reply then 0 else 1

-- the desk after it has noted this slip
abbrev pub with_slip : DeskState → Slip → DeskState
with_slip desk slip =
    record desk {
      slips = desk.slips ++ slip ∷ [];
      valid_share = desk.valid_share + valid_by slip.reply;
      refused_share = desk.refused_share + refused_by slip.reply;
    }

-- the desk has room for one more slip
abbrev pub HasRoom : DeskState → Type 0
HasRoom desk = length desk.slips < desk.limit

-- a box that desks share: the number of desks, and the box as it was opened, with no steps
pub record SharedState : Type 0 where
  pub desks : ℕ
  pub opened : BoxState

-- the shared box of a poll as it is opened
abbrev pub shared_for : PollContent → ℕ → ℕ → SharedState
shared_for poll limit desks = record { desks = desks; opened = box_of poll limit [] }

-- the opened box after some steps: its sizes, its limit and its last envelope are the same
abbrev pub IsLater : BoxState → BoxState → Type 0
IsLater opened b = b ≡ record opened { steps = b.steps }

-- a box with its books of valid and refused lines
pub record HeldState : Type 0 where
  pub ballot_box : BoxState
  pub valid_book : ℕ
  pub refused_book : ℕ

-- a reading fits the box: a ballot has a voter of the box and as many ranks as the box has options; a bad line always fits
abbrev pub FitsBox : BoxState → Reading → Type 0
FitsBox b reading = ReadingFits b.options b.electors reading

-- the slip of the next cast: its step follows those of the box, and its reply is the one that these steps call for
abbrev pub next_slip : BoxState → ℕ → Reading → Slip
next_slip b stamp reading = record {
  number = length b.steps + 1;
  stamp = stamp;
  reply = reply_to b.last_in_time b.steps stamp reading;
}

-- the box and its books after a desk has made the cast that this slip notes
abbrev pub with_cast : HeldState → DeskState → Reading → Slip → HeldState
with_cast held desk reading slip =
    record {
      ballot_box = record held.ballot_box { steps = held.ballot_box.steps ++ Cast desk.number slip.stamp reading slip.reply ∷ [] };
      valid_book = held.valid_book + valid_by slip.reply;
      refused_book = held.refused_book + refused_by slip.reply;
    }

-- the box and its books after the box is closed
abbrev pub with_close : HeldState → HeldState
with_close held = record held { ballot_box = record held.ballot_box { steps = held.ballot_box.steps ++ Close ∷ [] } }

-- the ranks of a voter's ballot that stands in a box
abbrev pub standing_in : BoxState → ℕ → Option (List (Option ℕ))
standing_in b voter = standing_ranks b.last_in_time b.steps voter

-- a box whose desks have handed in their slips; desk d has index d - 1
pub record SealedState : Type 0 where
  pub ballot_box : BoxState
  pub slips_by_desk : List (List Slip)

-- there are as many slips as casts
abbrev pub HasSlipsForCasts : SealedState → Type 0
HasSlipsForCasts s = sum_by length s.slips_by_desk ≡ count_by is_cast s.ballot_box.steps

-- the slips of these desks, in their order
abbrev pub slips_of : {Z : Type 0} → Vec DeskState Z → List (List Slip)
slips_of desks = map (λ desk. desk.slips) desks.items

-- the lists of slips, in their order
abbrev pub slips_on : {Z : Type 0} → List (Vec Slip Z) → List (List Slip)
slips_on slips_by_desk = map vec_items slips_by_desk

-- these are the slips of desks 1, 2 and so on, in this order; the desks may come in any order
abbrev pub AreSlipsInOrder : {Z : Type 0} → Vec DeskState Z → List (List Slip) → Type 0
AreSlipsInOrder desks slips_by_desk = IsPermutation (map (λ desk. (desk.number, desk.slips)) desks.items) (enumerate_from 1 slips_by_desk)

-- these are desks 1 to this number, each once, in any order
abbrev pub AreAllDesks : {Z : Type 0} → Vec DeskState Z → ℕ → Type 0
AreAllDesks desks count = IsPermutation (map (λ desk. desk.number) desks.items) (range_with_len 1 count)

-- the slips of a desk, numbered from 1; empty if it handed in none
abbrev pub slips_at : List (List Slip) → ℕ → List Slip
slips_at slips_by_desk desk = unwrap_or (slice_get slips_by_desk (desk - 1)) []
