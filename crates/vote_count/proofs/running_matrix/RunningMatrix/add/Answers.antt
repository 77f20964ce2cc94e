use Rattle.std.proofs.Common.{◌≡◌, ℕ, ◌+◌, if◌then◌else◌, arith}
use Rattle.vote_poll.specs.Ranks.{prefers}
use Rattle.vote_count.specs.Votes.{votes}
use Rattle.vote_count.proofs.Cells.{AreSortKeys}
use Rattle.vote_count.proofs.RunningLemmas.{at-options, no-vote, prefers-by-keys, vote-by-keys}
use Rattle.vote_count.proofs.running_matrix.RunningMatrix.add.Goals as goal

pub change-requires-clause-counted : goal.change-requires-clause-counted
change-requires-clause-counted c i j in_i in_j = omega (arith, no-vote i j)

pub change-requires-clause-room : goal.change-requires-clause-room
change-requires-clause-room c i j in_i in_j some =
    let are : AreSortKeys c.args.ranks.now c.sort_keys.result.now = record { options = c.sort_keys.ensures.options; others = c.sort_keys.ensures.others } in
    c.requires.room (i + 1) (j + 1) (omega arith, omega (arith, in_i)) (omega arith, omega (arith, in_j))
    (prefers-by-keys c.args.ranks.now c.sort_keys.result.now are i j (omega (arith, in_i, c.requires.options)) (omega (arith, in_j, c.requires.options)) some)

added : (now was none vote prefers : ℕ) → now + none ≡ was + vote → none ≡ 0 → prefers ≡ vote → now ≡ was + prefers
added now was none vote prefers sum zero same = omega arith

pub returns-clause-votes : goal.returns-clause-votes
returns-clause-votes c =
    let are : AreSortKeys c.args.ranks.now c.sort_keys.result.now = record { options = c.sort_keys.ensures.options; others = c.sort_keys.ensures.others } in
    at-options (λ a b. votes c.change.new.self a b ≡ votes c.args.self.now a b + (if prefers c.args.ranks.now a b then 1 else 0)) c.args.self.now.options
    (λ i j in_i in_j. added _ _ _ _ _ (c.change.ensures.votes i j in_i in_j) (no-vote i j)
    (vote-by-keys c.args.ranks.now c.sort_keys.result.now are i j (omega (arith, in_i, c.requires.options)) (omega (arith, in_j, c.requires.options))))
