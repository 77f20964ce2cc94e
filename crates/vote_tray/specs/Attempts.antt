-- The result of an attempt to take a place.
use Rattle.std.specs.Prelude.{◌≡◌, ◌<◌}
use Rattle.vote_tray.specs.declared.Take.{Take}
use Rattle.vote_tray.specs.declared.Take.TheVariants.{Empty, Got, Lost}
use Rattle.vote_tray.specs.Passes.{PassState, with_seen, with_place}

-- no place is left, and the pass is unchanged; or the pass took the place that it had seen to be next; or it has seen that more places are taken, and took none
abbrev pub Attempts : PassState → Take → PassState → Type 0
Attempts p Empty q = (p.seen ≡ p.tray.size) × (q ≡ p)
Attempts p (Got place) q = (place ≡ p.seen) × (place < p.tray.size) × (q ≡ with_place p place)
Attempts p (Lost word) q = (p.seen < word) × (q ≡ with_seen p word)
