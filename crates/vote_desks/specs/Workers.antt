-- What the workers promised when they were started, and what they returned, in the same order.
use Rattle.std.specs.Prelude.{◌≡◌, ℕ, ◌+◌, ◌<◌, Bool, List, [], ◌∷◌, Option, All, length, map, slice_index_or}
use Rattle.std.specs.declared.thread.PromisedHandle.{PromisedHandle}
use Rattle.vote_tray.specs.Passes.{TrayId, PassState}
use Rattle.vote_desks_box.specs.declared.desk.Tally as Tally
use Rattle.vote_desks_box.specs.Desks.{DeskState}
use Rattle.vote_desks.specs.declared.work.WorkerPromise.{WorkerPromise}
use Rattle.vote_desks.specs.declared.worker_result.Stop.{Stop}
use Rattle.vote_desks.specs.declared.worker_result.WorkerResult.{WorkerResult}
use Rattle.vote_desks.specs.Stops.{IsBarredBy}

-- the numbers of these desks
abbrev pub numbers_of : List DeskState → List ℕ
numbers_of desks = map (λ desk. desk.number) desks

-- the worker at this index, from 0, has the desk with the next number, and a pass of this tray with the part of this index alone
abbrev pub IsWorkerAt : TrayId → ℕ → ℕ → PassState → Type 0
IsWorkerAt tray index desk pass = (desk ≡ index + 1) × (pass.tray ≡ tray) × (pass.parts ≡ index ∷ [])

module _ {T G : Type 0} where
  -- these handles promise the desks and the passes of all workers, in order
  abbrev pub ArePromised : TrayId → List (PromisedHandle T (WorkerPromise G)) → Type 0
  ArePromised tray handles =
      (index : ℕ) (any : PromisedHandle T (WorkerPromise G)) → index < length handles
      → IsWorkerAt tray index (slice_index_or handles index any).promise.number (slice_index_or handles index any).promise.pass.value

module _ {X Y : Type 0} {g : Tally.Ghosts X} {h : Tally.Ghosts Y} where
  -- these are the desks and the passes of all workers, in order
  abbrev pub AreBack : TrayId → List (WorkerResult X Y g h) → Type 0
  AreBack tray all =
      (index : ℕ) (any : WorkerResult X Y g h) → index < length all → IsWorkerAt tray index (slice_index_or all index any).desk.number (slice_index_or all index any).pass

  -- the desks that are back are numbered from 1, in order
  abbrev pub AreNumbered : List (WorkerResult X Y g h) → Type 0
  AreNumbered all = (index : ℕ) (any : WorkerResult X Y g h) → index < length all → (slice_index_or all index any).desk.number ≡ index + 1

  -- the numbers of the desks that are back, each with why it stopped early, if it did
  abbrev pub stops_back : List (WorkerResult X Y g h) → List (ℕ × Option Stop)
  stops_back all = map (λ worked. (worked.desk.number, worked.stopped)) all

  -- of the desks that are back, the gate stopped only desks that it may stop
  abbrev pub AreBarredBy : (ℕ → Bool) → List (WorkerResult X Y g h) → Type 0
  AreBarredBy bars all = All (λ worked. IsBarredBy bars worked.desk.number worked.stopped) all
