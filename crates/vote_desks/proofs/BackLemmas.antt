-- The workers return what they promised: the desks in order, with passes that took each place of the tray once.
use Rattle.std.proofs.Common.{◌≡◌, ℕ, ◌+◌, ◌<◌, List, [], ◌∷◌, ◌++◌, max, length, map, sum_by, Contains, refl, sym, ap, ◌∙◌, subst, arith, length-append}
use Rattle.std.specs.List.{All, range_with_len, enumerate_from, sum}
use Rattle.std.proofs.lemmas.List.{length-map, map-id, map_push}
use Rattle.std.proofs.lemmas.List.Elements.{All-from_recursion, All-map, All-push}
use Rattle.std.proofs.lemmas.List.Sums.{sum-map, sum_by_push, sum_by-cons}
use Rattle.std.proofs.lemmas.List.FromFn.{length-range_with_len, get_or-range_with_len, map-range_with_len_more}
use Rattle.std.proofs.lemmas.Simd.{map-map}
use Rattle.std.specs.List.Sorted.{IsPermutation}
use Rattle.std.proofs.lemmas.List.Sorted.{IsPermutation-map, sum_by-IsPermutation, All-permutation, length_permutation}
use Rattle.vote_desks_box.proofs.Ranges.{length_range}
use Rattle.vote_tray.specs.Passes.{TrayId, PassState, joined}
use Rattle.vote_desks_box.specs.declared.Slip.{Slip}
use Rattle.vote_desks_box.specs.Slips.{Rises}
use Rattle.vote_desks_box.specs.Desks.{DeskState, IsLater}
use Rattle.vote_poll.specs.PollContent.{PollContent}
use Rattle.vote_steps.specs.Boxes.{BoxState, box_of}
use Rattle.vote_steps.specs.HeldLines.{HasSizes}
use Rattle.vote_desks.specs.Work.{HasCastAll}
use Rattle.vote_desks.specs.Back.{AreHandedIn}
use Rattle.vote_desks.specs.Workers.{IsWorkerAt, numbers_of}

range-more : (a n j : ℕ) → a + n ≡ j → range_with_len a (n + 1) ≡ range_with_len a n ++ j ∷ []
range-more a n j is = simp map-id at (map-range_with_len_more (λ k. k) a n j is)

pub Contains-range : (n x : ℕ) → x < n → Contains (range_with_len 0 n) x
Contains-range n x low = (x, (let a = length-range_with_len 0 n in omega arith), get_or-range_with_len 0 n x x low ∙ omega arith)

-- a desk has as many slips as its pass has places
as_many : (desk : DeskState) (pass : PassState) → HasCastAll desk pass → length desk.slips ≡ length pass.places
as_many desk pass h =
    sym (length-map desk.slips (λ (s : Slip). s.stamp)) ∙ ap length h.stamps ∙ length-map pass.places (λ (place : ℕ). place + 1)

-- the first desk and its pass alone
pub handed_one : (tray : TrayId) (desks : List DeskState) (desk : DeskState) (pass : PassState) → desks ≡ desk ∷ [] → IsWorkerAt tray 0 desk.number pass → HasCastAll desk pass → AreHandedIn tray 1 desks pass
handed_one tray desks desk pass is at done =
    rw is (record {
      numbers = ap (λ k. k ∷ []) at.0;
      rising = All-from_recursion (λ (d : DeskState). Rises d.slips) (desk ∷ []) (done.rising, tt);
      its_tray = at.1;
      parts = at.2;
      emptied = done.emptied ∙ ap (λ (t : TrayId). t.size) at.1;
      cast = omega (arith, sum_by-cons (λ (d : DeskState). length d.slips) desk [], as_many desk pass done);
    })

pub handed_more : (tray : TrayId) (n : ℕ) (desks : List DeskState) (pass all : PassState) (desk : DeskState) (more : PassState) → AreHandedIn tray n desks pass
    → IsWorkerAt tray n desk.number more → HasCastAll desk more → all ≡ joined pass more → AreHandedIn tray (n + 1) (desks ++ desk ∷ []) all
handed_more tray n desks pass all desk more h at done is =
    let seen : all.seen ≡ max pass.seen more.seen = ap (λ (p : PassState). p.seen) is in
    let size : more.tray.size ≡ tray.size = ap (λ (t : TrayId). t.size) at.1 in
    let places : length all.places ≡ length pass.places + length more.places = ap (λ (p : PassState). length p.places) is ∙ length-append pass.places more.places in
    record {
      numbers = map_push (λ (d : DeskState). d.number) desks desk ∙ ap (λ ks. ks ++ desk.number ∷ []) h.numbers ∙ sym (range-more 1 n desk.number (omega arith));
      rising = All-push (λ (d : DeskState). Rises d.slips) desks desk h.rising done.rising;
      its_tray = ap (λ (p : PassState). p.tray) is ∙ h.its_tray;
      parts = ap (λ (p : PassState). p.parts) is ∙ ap (λ ks. ks ++ more.parts) h.parts ∙ ap (λ ks. range_with_len 0 n ++ ks) at.2 ∙ sym (range-more 0 n n (omega arith));
      emptied = omega (arith, seen, h.emptied, done.emptied, size);
      cast = omega (arith, sum_by_push (λ (d : DeskState). length d.slips) desks desk, h.cast, as_many desk more done, places);
    }

abbrev pub paired : List DeskState → List (ℕ × List Slip)
paired desks = map {B = ℕ × List Slip} (λ (d : DeskState). (d.number, d.slips)) desks

unnumbered : {X : Type 0} (n : ℕ) (xs : List X) → map (λ (at : ℕ × X). at.1) (enumerate_from n xs) ≡ xs
unnumbered n [] = refl
unnumbered n (x ∷ xs) = ap (λ ys. x ∷ ys) (unnumbered (n + 1) xs)

module _ (desks : List DeskState) (slips_by_desk : List (List Slip)) (same : IsPermutation (paired desks) (enumerate_from 1 slips_by_desk)) where
  -- the gathered slips are those of the desks
  same_slips : IsPermutation (map (λ (d : DeskState). d.slips) desks) slips_by_desk
  same_slips =
      let slips : ℕ × List Slip → List Slip = λ at. at.1 in
      let pair : DeskState → ℕ × List Slip = λ desk. (desk.number, desk.slips) in
      subst (λ xs. IsPermutation (map (λ (d : DeskState). d.slips) desks) xs) (unnumbered 1 slips_by_desk)
      (subst (λ xs. IsPermutation xs (map slips (enumerate_from 1 slips_by_desk))) (map-map slips pair desks) (IsPermutation-map slips (map pair desks) (enumerate_from 1 slips_by_desk) same))

  pub gathered_count : sum_by length slips_by_desk ≡ sum_by (λ (d : DeskState). length d.slips) desks
  gathered_count =
      sum_by-IsPermutation length (map (λ (d : DeskState). d.slips) desks) slips_by_desk same_slips
      ∙ sym (sum-map length (map (λ (d : DeskState). d.slips) desks)) ∙ ap sum (map-map length (λ (d : DeskState). d.slips) desks) ∙ sum-map (λ (d : DeskState). length d.slips) desks

  pub gathered_rise : All (λ (d : DeskState). Rises d.slips) desks → All Rises slips_by_desk
  gathered_rise rising = All-permutation Rises (map (λ (d : DeskState). d.slips) desks) slips_by_desk same_slips (All-map Rises (λ (d : DeskState). d.slips) desks rising)

  pub gathered_long : (count : ℕ) → numbers_of desks ≡ range_with_len 1 count → length slips_by_desk ≡ count
  gathered_long count numbered =
      length_permutation (map (λ (d : DeskState). d.slips) desks) slips_by_desk same_slips ∙ length-map desks (λ (d : DeskState). d.slips)
      ∙ length_range (λ (d : DeskState). d.number) 1 count desks numbered

-- a box that was opened for a poll and its lines has their sizes
pub has_sizes : (poll : PollContent) (lines : List (List ℕ)) (opened b : BoxState) (limit : ℕ) → limit ≡ length lines → opened ≡ box_of poll limit [] → IsLater opened b → HasSizes poll lines b
has_sizes poll lines opened b limit len is later = (
  ap (λ (x : BoxState). x.options) later ∙ ap (λ (x : BoxState). x.options) is,
  ap (λ (x : BoxState). x.electors) later ∙ ap (λ (x : BoxState). x.electors) is,
  ap (λ (x : BoxState). x.limit) later ∙ ap (λ (x : BoxState). x.limit) is ∙ len,
  ap (λ (x : BoxState). x.last_in_time) later ∙ ap (λ (x : BoxState). x.last_in_time) is,
)
