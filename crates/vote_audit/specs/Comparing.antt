-- How far the slips of the desks were compared with those of their casts.
use Rattle.std.specs.Prelude.{◌≡◌, ◌≢◌, ℕ, ◌-◌, ◌+◌, ◌<◌, ◌≤◌, true, false, List, [], ◌∷◌, ◌++◌, Option, MatchOption, length, take, slice_get, slice_index_or}
use Rattle.vote_desks_box.specs.declared.Slip.{Slip}
use Rattle.vote_audit.specs.declared.slips.Compared.{Compared}
use Rattle.vote_steps.specs.declared.TheConstants.{MAX_DESKS}
use Rattle.vote_steps.specs.declared.Step.{Step}
use Rattle.vote_steps.specs.declared.Step.TheVariants.{Cast, Close}
use Rattle.vote_desks_box.specs.Slips.{slips_from}
use Rattle.vote_desks_box.specs.Desks.{slips_at}
use Rattle.vote_audit.specs.Audit.{PartAt}

-- a cast is at a desk from 1 to MAX_DESKS
abbrev pub HasDesk : Step → Type 0
HasDesk Close = Unit {0}
HasDesk (Cast desk stamp reading reply) = (1 ≤ desk) × (desk ≤ MAX_DESKS)

-- a cast's envelope is from 1 to the limit of the box
abbrev pub HasEnvelope : ℕ → Step → Type 0
HasEnvelope limit Close = Unit {0}
HasEnvelope limit (Cast desk stamp reading reply) = (1 ≤ stamp) × (stamp ≤ limit)

-- the first `alike` slips of the desk are those of the casts so far; if `differs`, the casts have a next slip, and the desk does not have it there; if not, the casts have no more slips
pub record AgreesWith (slips casts : List Slip) (at : Compared) : Type 0 where
  pub within : at.alike ≤ length slips
  pub so_far : take at.alike slips ≡ take at.alike casts
  pub all : at.differs ≡ false → length casts ≡ at.alike
  pub part : at.differs ≡ true → (at.alike < length casts) × (slice_get slips at.alike ≢ slice_get casts at.alike)

-- whatever slips the casts gave: if `before` agrees with them, `at` agrees with them and this slip
abbrev pub AgreesWithOneMore : List Slip → Compared → Slip → Compared → Type 0
AgreesWithOneMore slips before slip at = (casts : List Slip) → AgreesWith slips casts before → AgreesWith slips (casts ++ slip ∷ []) at

-- whatever slips the casts gave, if `at` agrees with them: they are the slips of the desk, or this is the first position, from 1, where the two differ
abbrev pub FindsPlace : Option ℕ → List Slip → Compared → Type 0
FindsPlace found slips at = (casts : List Slip) → AgreesWith slips casts at → MatchOption found (slips ≡ casts) (PartAt slips casts)

-- nothing was compared yet
abbrev pub nothing_compared : Compared
nothing_compared = record { alike = 0; differs = false }

-- how far the slips of this desk were compared
abbrev pub compared_at : List Compared → ℕ → Compared
compared_at compared desk = slice_index_or compared (desk - 1) nothing_compared

-- no desk has more slips alike than it has slips
abbrev pub AreWithin : List (List Slip) → List Compared → Type 0
AreWithin slips_by_desk compared = (desk : ℕ) → 1 ≤ desk → desk ≤ MAX_DESKS → (compared_at compared desk).alike ≤ length (slips_at slips_by_desk desk)

-- each desk's slips were compared with those of these steps
abbrev pub AgreeWith : List (List Slip) → List Step → List Compared → Type 0
AgreeWith slips_by_desk steps compared = (desk : ℕ) → 1 ≤ desk → desk ≤ MAX_DESKS → AgreesWith (slips_at slips_by_desk desk) (slips_from 1 steps desk) (compared_at compared desk)

-- whatever steps came before: if `before` agrees with them, `compared` agrees with them and this step, which has this number
abbrev pub AgreeWithOneMore : List (List Slip) → List Compared → ℕ → Step → List Compared → Type 0
AgreeWithOneMore slips_by_desk before number step compared =
    (steps : List Step) → length steps + 1 ≡ number → AgreeWith slips_by_desk steps before → AgreeWith slips_by_desk (steps ++ step ∷ []) compared
