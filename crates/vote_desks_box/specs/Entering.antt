-- When a cast at a desk is refused. Each case says that those before it do not hold.
use Rattle.std.specs.Prelude.{ℕ}
use Rattle.vote_poll.specs.declared.Reading.{Reading}
use Rattle.vote_steps.specs.Boxes.{BoxState, HasUsed, IsOutOfRange}
use Rattle.vote_desks_box.specs.Desks.{DeskState, FitsBox, HasRoom}

-- the ballot fits the box, and the desk does not have room for its slip
abbrev pub LacksRoom : BoxState → DeskState → Reading → Type 0
LacksRoom b desk reading = FitsBox b reading × ¬ HasRoom desk

-- the ballot fits the box, the desk has room for its slip, and the stamp is out of range
abbrev pub NoStamp : BoxState → DeskState → ℕ → Reading → Type 0
NoStamp b desk stamp reading = FitsBox b reading × HasRoom desk × IsOutOfRange b stamp

-- the ballot fits the box, the desk has room for its slip, and the envelope was cast before
abbrev pub WasUsed : BoxState → DeskState → ℕ → Reading → Type 0
WasUsed b desk stamp reading = FitsBox b reading × HasRoom desk × HasUsed b stamp
