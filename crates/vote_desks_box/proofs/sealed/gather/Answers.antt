-- If all desks are there, their shares are the books, and the sealed box has the slips of each desk; otherwise a desk is missing.
use Rattle.std.proofs.Common.{◌≡◌, ℕ, List, Result, Ok, Err, map, length, refl, sym, ap, ◌∙◌, subst, arith, rules}
use Rattle.std.proofs.lemmas.Bool.{false≢true}
use Rattle.std.proofs.lemmas.Grind.{common_steps, elements, moves, pieces}
use Rattle.std.specs.Prelude.{IsPermutation}
use Rattle.std.specs.List.{enumerate_from, range_with_len}
use Rattle.std.proofs.lemmas.List.{length-map}
use Rattle.std.proofs.lemmas.List.Sorted.{IsPermutation-map, IsPermutation-trans, IsPermutation-sym, IsNonDecreasingBy-from_sort_by_key}
use Rattle.vote_desks_box.specs.declared.fault.DeskFault.{DeskFault}
use Rattle.vote_desks_box.specs.declared.fault.DeskFault.TheVariants.{MissingDesk, Memory}
use Rattle.vote_desks_box.specs.declared.slip.Slip.{Slip}
use Rattle.vote_desks_box.specs.Desks.{DeskState, SealedState, SharedState}
use Rattle.vote_desks_box.proofs.Ranges.{numbered}
use Rattle.vote_desks_box.proofs.SlipSums.{all_slips}
use Rattle.vote_desks_box.proofs.Numbered.{numbers_of_sorted}
use Rattle.vote_desks_box.proofs.sealed.gather.Goals as goal

-- on its own: among the facts of the function `cc` would not find it
not_sealed : (s : SealedState) → ◌≡◌ {A = Result SealedState DeskFault} (Ok s) (Err MissingDesk) → ⊥
not_sealed s e = cc

not_memory : ◌≡◌ {A = Result SealedState DeskFault} (Err Memory) (Err MissingDesk) → ⊥
not_memory e = cc

pub returns-then-not-are_complete-clause-missing : goal.returns-then-not-are_complete-clause-missing
returns-then-not-are_complete-clause-missing g c =
    let came : List DeskState = c.args.desks.items in
    let sorted : List DeskState = c.sort_unstable_by_key.new.self.items in
    let number : DeskState → ℕ = λ d. d.number in
    let opened : c.shared.inside.desks ≡ c.args.shared.desks = ap (λ (s : SharedState). s.desks) c.shared.view_is in (
      λ e p.
          let moved = IsPermutation-trans (map number sorted) (map number came) (range_with_len 1 c.args.shared.desks) (IsPermutation-sym (map number came) (map number sorted) (IsPermutation-map number came sorted c.sort_unstable_by_key.ensures.permutation)) p in
          let up = IsNonDecreasingBy-from_sort_by_key number sorted c.sort_unstable_by_key.ensures.sorted (λ a r q k. search rules) in
          let in_order = numbers_of_sorted number 1 c.args.shared.desks sorted up moved in
          let yes = c.are_complete.ensures.complete.1 (ap (map number) c.deref.ensures.value ∙ in_order ∙ ap (range_with_len 1) (sym opened)) in
          let no = c.if-not-are_complete.true in false≢true (sym no ∙ yes),
      λ other. refl,
    )

pub returns-in-Ok-clause-slips_by_desk : goal.returns-in-Ok-clause-slips_by_desk
returns-in-Ok-clause-slips_by_desk g c =
    let came : List DeskState = c.args.desks.items in
    let sorted : List DeskState = c.sort_unstable_by_key.new.self.items in
    let f : DeskState → ℕ × List Slip = λ d. (d.number, d.slips) in
    let numbers : map (λ (d : DeskState). d.number) sorted ≡ range_with_len 1 c.shared.inside.desks = ap (map (λ (d : DeskState). d.number)) (sym c.deref.ensures.value) ∙ c.are_complete.ensures.complete.0 c.if-not-are_complete.false in
    let in_order : map f sorted ≡ enumerate_from 1 c.in-Ok.sealed.slips_by_desk =
    numbered (λ d. d.number) (λ d. d.slips) 1 c.shared.inside.desks sorted numbers ∙ ap (enumerate_from 1) (sym c.in-Ok.ensures.slips_by_desk) in
    let P : List (ℕ × List Slip) → Type 0 = λ xs. IsPermutation (map f came) xs in
    subst P in_order (IsPermutation-map f came sorted c.sort_unstable_by_key.ensures.permutation)

pub returns-in-Ok-clause-casts : goal.returns-in-Ok-clause-casts
returns-in-Ok-clause-casts g c =
    omega (arith, all_slips c.in-Ok.sealed.slips_by_desk, c.each_cast_is_counted.ensures c.in-Ok.sealed.ballot_box.last_in_time c.in-Ok.sealed.ballot_box.steps, c.in-Ok.ensures.books.valid_on_slips, c.in-Ok.ensures.books.refused_on_slips)

pub returns-in-Ok-clause-missing : goal.returns-in-Ok-clause-missing
returns-in-Ok-clause-missing g c =
    let came : List DeskState = c.args.desks.items in
    let sorted : List DeskState = c.sort_unstable_by_key.new.self.items in
    let number : DeskState → ℕ = λ d. d.number in
    let numbers : map number sorted ≡ range_with_len 1 c.args.shared.desks = ap (map number) (sym c.deref.ensures.value) ∙ c.are_complete.ensures.complete.0 c.if-not-are_complete.false ∙ ap (range_with_len 1) (ap (λ (s : SharedState). s.desks) c.shared.view_is) in
    let P : List ℕ → Type 0 = λ xs. IsPermutation (map number came) xs in
    (λ e. absurd (not_sealed c.in-Ok.sealed e), λ not_all. absurd (not_all (subst P numbers (IsPermutation-map number came sorted c.sort_unstable_by_key.ensures.permutation))))

pub returns-in-Err-clause-missing : goal.returns-in-Err-clause-missing
returns-in-Err-clause-missing g c =
    let came : List DeskState = c.args.desks.items in
    let sorted : List DeskState = c.sort_unstable_by_key.new.self.items in
    let number : DeskState → ℕ = λ d. d.number in
    let numbers : map number sorted ≡ range_with_len 1 c.args.shared.desks = ap (map number) (sym c.deref.ensures.value) ∙ c.are_complete.ensures.complete.0 c.if-not-are_complete.false ∙ ap (range_with_len 1) (ap (λ (s : SharedState). s.desks) c.shared.view_is) in
    let P : List ℕ → Type 0 = λ xs. IsPermutation (map number came) xs in
    (λ e. absurd (not_memory e), λ not_all. absurd (not_all (subst P numbers (IsPermutation-map number came sorted c.sort_unstable_by_key.ensures.permutation))))

pub returns-in-Ok-clause-books : goal.returns-in-Ok-clause-books
returns-in-Ok-clause-books g c = grind (arith, common_steps, elements, moves, pieces)
