-- The reading of a line, as a step keeps it packed in memory.
use Rattle.std.specs.Prelude.{◌≡◌, ◌<◌}
use Rattle.std.proofs.Common.{refl, ap}
use Rattle.vote_poll.specs.declared.TheConstants.{MAX_ELECTORS}
use Rattle.vote_poll.specs.declared.Reading.{Reading}
use Rattle.vote_poll.specs.declared.Reading.TheVariants.{Ballot, Bad}
use Rattle.vote_steps.specs.declared.packed_reading.Packed.{Packed}
use Rattle.vote_steps.specs.declared.packed_reading.Packed.TheVariants.{Ballot as PackedBallot, Bad as PackedBad}
use Rattle.vote_steps.specs.declared.packed_reading.PackedReading.TheInside.{Inside}

-- if the reading is a ballot, it is of a voter that a roll can have
abbrev pub IsOfRoll : Reading → Type 0
IsOfRoll (Bad fault) = Unit {0}
IsOfRoll (Ballot voter ranks) = voter < MAX_ELECTORS

-- the reading that was packed
abbrev pub unpacked : Packed → Reading
unpacked (PackedBallot voter ranks) = Ballot voter ranks
unpacked (PackedBad fault) = Bad fault

abbrev pub reading_of : Inside → Reading
reading_of a = unpacked a.packed

-- the packed form of a reading
abbrev pub packed_of : Reading → Packed
packed_of (Ballot voter ranks) = PackedBallot voter ranks
packed_of (Bad fault) = PackedBad fault

abbrev pub inside_of : Reading → Inside
inside_of reading = record { packed = packed_of reading }

packed_back : (packed : Packed) → packed_of (unpacked packed) ≡ packed
packed_back (PackedBallot voter ranks) = refl
packed_back (PackedBad fault) = refl

pub inside_is : (a : Inside) → (h : Unit {0}) → inside_of (reading_of a) ≡ a
inside_is a h = ap (λ packed. record { packed = packed }) (packed_back a.packed)
