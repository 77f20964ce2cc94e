-- The desks and passes that all workers return.
use Rattle.std.specs.Prelude.{◌≡◌, ℕ, List, length, map, sum_by, All}
use Rattle.std.specs.List.{range_with_len}
use Rattle.vote_tray.specs.Passes.{TrayId, PassState}
use Rattle.vote_desks_box.specs.Slips.{Rises}
use Rattle.vote_desks_box.specs.Desks.{DeskState}

-- the number of envelopes that these desks have cast
abbrev pub casts_at : List DeskState → ℕ
casts_at desks = sum_by (λ desk. length desk.slips) desks

-- desks 1 to n, and the pass that their passes were joined into
pub record AreHandedIn (tray : TrayId) (n : ℕ) (desks : List DeskState) (pass : PassState) : Type 0 where
  pub numbers : map (λ desk. desk.number) desks ≡ range_with_len 1 n
  pub rising : All (λ desk. Rises desk.slips) desks
  pub its_tray : pass.tray ≡ tray
  pub parts : pass.parts ≡ range_with_len 0 n
  pub emptied : pass.seen ≡ tray.size
  pub cast : casts_at desks ≡ length pass.places

-- all desks, and the pass that all passes were joined into
abbrev pub AreAllHandedIn : TrayId → List DeskState → PassState → Type 0
AreAllHandedIn tray desks pass = AreHandedIn tray tray.passes desks pass
