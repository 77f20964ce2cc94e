-- How the logic stores a list of readings.
use Rattle.std.specs.Prelude.{◌≡◌, ℕ, ◌==◌, cond, List, Option, Some, None, refl}
use Rattle.std.specs.Coded.{Coded, code_by, coded×, coded_ℕ, coded_list}
use mathlib.Core.Path.{ap}
use Rattle.vote_files.specs.Sources.{FileReading}
use Rattle.vote_files.specs.declared.ReadFault.{ReadFault}
use Rattle.vote_files.specs.declared.ReadFault.TheVariants.{Device, TooLong, Memory}

abbrev fault_number : Option ReadFault → ℕ
fault_number None = 0
fault_number (Some Device) = 1
fault_number (Some TooLong) = 2
fault_number (Some Memory) = 3

abbrev fault_at : ℕ → Option ReadFault
fault_at n = cond (n == 0) None (cond (n == 1) (Some Device) (cond (n == 2) (Some TooLong) (Some Memory)))

fault_at-fault_number : (fault : Option ReadFault) → fault_at (fault_number fault) ≡ fault
fault_at-fault_number None = refl
fault_at-fault_number (Some Device) = refl
fault_at-fault_number (Some TooLong) = refl
fault_at-fault_number (Some Memory) = refl

abbrev to_parts : FileReading → List ℕ × ℕ
to_parts reading = (reading.name, fault_number reading.fault)

abbrev from_parts : List ℕ × ℕ → FileReading
from_parts parts = record { name = parts.0; fault = fault_at parts.1 }

pub from_parts-to_parts : (reading : FileReading) → from_parts (to_parts reading) ≡ reading
from_parts-to_parts reading = ap (λ fault. record { name = reading.name; fault = fault }) (fault_at-fault_number reading.fault)

abbrev pub readings_code : Coded (List FileReading)
readings_code = coded_list (code_by (List ℕ × ℕ) (coded× (coded_list coded_ℕ) coded_ℕ) to_parts from_parts from_parts-to_parts)
