-- What the answers to requests for bytes leave of a limit.
use Rattle.std.proofs.Common.{◌≡◌, ◌-◌, ◌≤◌, ◌++◌, ◌∙◌, ℕ, ap, append_assoc, IfSome, List, [], ◌∷◌, None, Option, Some, Result, Ok, Err, subst}
use Rattle.vote_files.specs.Device.{AsksNoMore, GaveWithin}
use Rattle.vote_files.specs.Sources.{HasRead}

-- each of these answers gave bytes, and together they leave so much of the limit
abbrev pub LeavesRoom : {E : Type 0} → ℕ → List (Result ℕ E) → ℕ → Type 0
LeavesRoom limit [] left = left ≡ limit
LeavesRoom limit (Ok count ∷ later) left = (1 ≤ count) × (count ≤ limit) × LeavesRoom (limit - count) later left
LeavesRoom limit (Err e ∷ later) left = ⊥

gave : {E : Type 0} (limit : ℕ) (before : List (Result ℕ E)) (left : ℕ) → LeavesRoom limit before left → GaveWithin limit before
gave limit [] left leaves = tt
gave limit (Ok count ∷ later) left leaves = (leaves.0, leaves.1, gave (limit - count) later left leaves.2)
gave limit (Err e ∷ later) left leaves = leaves

leaves_less : {E : Type 0} (limit : ℕ) (before : List (Result ℕ E)) (left count : ℕ) → LeavesRoom limit before left → 1 ≤ count → count ≤ left
    → LeavesRoom limit (before ++ Ok count ∷ []) (left - count)
leaves_less limit [] left count same some fits = (some, subst (λ n. count ≤ n) same fits, ap (λ n. n - count) same)
leaves_less limit (Ok first ∷ later) left count leaves some fits = (leaves.0, leaves.1, leaves_less (limit - first) later left count leaves.2 some fits)
leaves_less limit (Err e ∷ later) left count leaves some fits = absurd leaves

told_more : {A : Type 0} (old mid new : Option (List A)) (first second : List A)
    → IfSome old (λ before. mid ≡ Some (before ++ first)) → IfSome mid (λ before. new ≡ Some (before ++ second)) → IfSome old (λ before. new ≡ Some (before ++ (first ++ second)))
told_more None mid new first second begun more = tt
told_more (Some before) mid new first second begun more =
    subst (λ known. IfSome known (λ read. new ≡ Some (read ++ second))) begun more ∙ ap Some (append_assoc before first second)

module _ {S E : Type 0} (answers : S → Option (List (Result ℕ E))) (old mid new : S) (limit left : ℕ) (before : List (Result ℕ E)) where
  -- after answers that gave bytes within the limit comes the last one
  pub asks_no_more : (last : Result ℕ E) → LeavesRoom limit before left → HasRead answers old mid before → HasRead answers mid new (last ∷ [])
      → AsksNoMore limit (HasRead answers old new)
  asks_no_more last leaves begun more =
      (before, last, gave limit before left leaves, told_more (answers old) (answers mid) (answers new) before (last ∷ []) begun more)

  -- an answer that fits leaves less room
  pub leaves_rest : (count rest : ℕ) → LeavesRoom limit before left → HasRead answers old mid before → 1 ≤ count → count ≤ left → left - count ≡ rest
      → HasRead answers mid new (Ok count ∷ []) → (longer : List (Result ℕ E)) × LeavesRoom limit longer rest × HasRead answers old new longer
  leaves_rest count rest leaves begun some fits is more = (
    before ++ Ok count ∷ [],
    subst (λ n. LeavesRoom limit (before ++ Ok count ∷ []) n) is (leaves_less limit before left count leaves some fits),
    told_more (answers old) (answers mid) (answers new) before (Ok count ∷ []) begun more,
  )
