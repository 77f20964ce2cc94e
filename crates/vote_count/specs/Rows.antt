-- Rows of sort keys and of votes. Options are counted from 0 here.
use Rattle.std.specs.Prelude.{◌≡◌, ℕ, ◌+◌, ◌<◌, List, nat_lt, slice_index_or, if◌then◌else◌}

-- the entry of a row at an option
abbrev pub key_at : List ℕ → ℕ → ℕ
key_at row k = slice_index_or row k 0

-- 1 if the option with the first key is preferred to the option with the second, and else 0
abbrev pub vote_by : ℕ → ℕ → ℕ
vote_by key other = if nat_lt key other then 1 else 0

-- the second row of the option with this key has one vote more than the first over each option with a greater key
abbrev pub IsRaised : ℕ → ℕ → List ℕ → List ℕ → List ℕ → Type 0
IsRaised options key keys before after =
    (k : ℕ) → k < options → key_at after k ≡ key_at before k + vote_by key (key_at keys k)
