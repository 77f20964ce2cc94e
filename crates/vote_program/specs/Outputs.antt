-- What is written on standard output, or on standard error.
use Rattle.std.specs.Prelude.{◌≡◌, ◌<◌, ℕ, Bool, true, Option}
use Rattle.std.specs.Io.KnownBytes.{Appends}
use Rattle.vote_files.specs.Device.{AppendsPrefix}
use Rattle.vote_poll_text.specs.Texts.{Text}

-- what an output holds, if its bytes are known; how often it has failed; and whether it has passed on all that it took
pub record OutputState : Type 0 where
  pub bytes : Option Text
  pub faults : ℕ
  pub flushed : Bool

-- an output before and after a run
pub record Written : Type 0 where
  pub old : OutputState
  pub new : OutputState

-- a sink before and after a call
abbrev pub written_by : {S : Type 0} → (S → Option Text) → (S → ℕ) → (S → Bool) → S → S → Written
written_by contents faults flushed old new = record {
  old = record { bytes = contents old; faults = faults old; flushed = flushed old };
  new = record { bytes = contents new; faults = faults new; flushed = flushed new };
}

-- nothing is written there
abbrev pub WritesNothing : Written → Type 0
WritesNothing written = written.new ≡ written.old

-- this text is written there, and nothing else, and is passed on
abbrev pub WritesAll : Text → Written → Type 0
WritesAll text written = Appends written.old.bytes written.new.bytes text × (written.new.faults ≡ written.old.faults) × (written.new.flushed ≡ true)

-- the output fails, and a prefix of the text is written
abbrev pub FailsWithin : Text → Written → Type 0
FailsWithin text written = AppendsPrefix written.old.bytes written.new.bytes text × (written.old.faults < written.new.faults)
