-- The votes that a multiple of Q needs, from section 4.2 of the Constitution.
use Rattle.std.specs.Prelude.{ℕ, ◌*◌, ◌^◌, ◌≤◌}

-- `n` votes are at least this multiple of Q, which is half of the square root of the number of electors. Both sides are doubled and squared, so nothing is rounded.
-- 4.2.7: "Q is half of the square root of the number of current Developers." "Q and K need not be integers and are not rounded."
abbrev pub IsAtLeastTimesQ : ℕ → ℕ → ℕ → Type 0
IsAtLeastTimesQ multiple electors n = multiple ^ 2 * electors ≤ (2 * n) ^ 2

-- `n` are the fewest votes that are
abbrev pub AreTimesQ : ℕ → ℕ → ℕ → Type 0
AreTimesQ multiple electors n = IsAtLeastTimesQ multiple electors n × ((m : ℕ) → IsAtLeastTimesQ multiple electors m → n ≤ m)
