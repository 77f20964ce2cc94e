-- The values that contracts see of a tray and of a pass.
use Rattle.std.specs.Prelude.{◌≡◌, ℕ, ◌+◌, ◌<◌, ◌≤◌, max, List, [], ◌∷◌, ◌++◌, Contains, map}
use Rattle.std.specs.List.{range_with_len}
use Rattle.atomic_table.specs.Seated.{TableId}
use Rattle.vote_tray.specs.Numbers.{AtMostOnce}

-- which tray it is, the number of its places, which are numbered from 0, and the number of passes that it handed out
pub record TrayId : Type 0 where
  pub table : TableId
  pub size : ℕ
  pub passes : ℕ

-- the pass's tray, the number of taken places that it has seen, the places that it took, in that order, and its parts, which are numbered from 0
pub record PassState : Type 0 where
  pub tray : TrayId
  pub seen : ℕ
  pub places : List ℕ
  pub parts : List ℕ

-- a pass that has taken nothing, and has only this part
abbrev pub new_pass : TrayId → ℕ → PassState
new_pass t part = record { tray = t; seen = 0; places = []; parts = part ∷ [] }

-- the passes of a new tray: the pass at index j, from 0, has only part j
abbrev pub new_passes : TrayId → ℕ → List PassState
new_passes t passes = map (new_pass t) (range_with_len 0 passes)

-- there are this many passes, and they are the passes of a new tray
abbrev pub AreNewPasses : TrayId → ℕ → ℕ → List PassState → Type 0
AreNewPasses t passes count dealt = (count ≡ passes) × (dealt ≡ new_passes t passes)

-- the pass that has all parts, before it is cut
abbrev pub whole_pass : TrayId → ℕ → PassState
whole_pass t passes = record { tray = t; seen = 0; places = []; parts = range_with_len 0 passes }

-- the pass after it has seen this many places taken
abbrev pub with_seen : PassState → ℕ → PassState
with_seen p word = record p { seen = word }

-- the pass after it took this place
abbrev pub with_place : PassState → ℕ → PassState
with_place p place = record p { seen = place + 1; places = p.places ++ place ∷ [] }

-- the pass took this place of the tray, and the places that it had seen taken are below it
abbrev pub TakesPlace : TrayId → PassState → ℕ → PassState → Type 0
TakesPlace t p place q = (p.seen ≤ place) × (place < t.size) × (q ≡ with_place p place)

-- the places of the first pass and then those of the second, the parts of both, and the greater of the two numbers seen
abbrev pub joined : PassState → PassState → PassState
joined p q = record p { seen = max p.seen q.seen; places = p.places ++ q.places; parts = p.parts ++ q.parts }

-- the pass has seen at most the size, its places are distinct and below the size, and its parts are distinct and below the number of passes
abbrev pub IsSound : PassState → Type 0
IsSound p = (p.seen ≤ p.tray.size) × AtMostOnce p.tray.size p.places × AtMostOnce p.tray.passes p.parts

-- the pass has every part of its tray, as it does after all passes were joined into it
abbrev pub HasAllParts : PassState → Type 0
HasAllParts p = (part : ℕ) → part < p.tray.passes → Contains p.parts part
