-- By the sort keys of two ballots: the votes of the old one go, and those of the new one come. What is taken out was counted, and there is room for what is added.
use Rattle.std.proofs.Common.{◌≡◌, ℕ, ◌+◌, ◌≤◌, if◌then◌else◌, inl, inr, arith}
use Rattle.std.proofs.lemmas.Bool.{cases_lt}
use Rattle.vote_poll.specs.Ranks.{prefers}
use Rattle.vote_count.specs.Changes.{key_vote}
use Rattle.vote_count.specs.Votes.{votes}
use Rattle.vote_count.proofs.Cells.{AreSortKeys}
use Rattle.vote_count.proofs.RunningLemmas.{at-options, one-at-most, prefers-by-keys, vote-by-keys}
use Rattle.vote_count.proofs.running_matrix.RunningMatrix.exchange.Goals as goal

pub change-requires-clause-counted : goal.change-requires-clause-counted
change-requires-clause-counted c i j in_i in_j =
    let are : AreSortKeys c.args.before.now c.sort_keys.result.now = record { options = c.sort_keys.ensures.options; others = c.sort_keys.ensures.others } in
    elim (cases_lt 0 (key_vote c.sort_keys.result.now i j)) [
      | inl some ↦
          let one : key_vote c.sort_keys.result.now i j ≤ 1 = one-at-most _ _ in
          let counted = c.requires.counted (i + 1) (j + 1) (omega arith, omega (arith, in_i)) (omega arith, omega (arith, in_j))
          (prefers-by-keys c.args.before.now c.sort_keys.result.now are i j (omega (arith, in_i, c.requires.options_before)) (omega (arith, in_j, c.requires.options_before)) some) in
          omega (arith, some, counted, one)
      | inr none ↦ omega (arith, none)
    ]

pub change-requires-clause-room : goal.change-requires-clause-room
change-requires-clause-room c i j in_i in_j some =
    let are : AreSortKeys c.args.after.now c.sort_keys-2.result.now = record { options = c.sort_keys-2.ensures.options; others = c.sort_keys-2.ensures.others } in
    c.requires.room (i + 1) (j + 1) (omega arith, omega (arith, in_i)) (omega arith, omega (arith, in_j))
    (prefers-by-keys c.args.after.now c.sort_keys-2.result.now are i j (omega (arith, in_i, c.requires.options_after)) (omega (arith, in_j, c.requires.options_after)) some)

exchanged : (now was gone come prefers_before prefers_after : ℕ) → now + gone ≡ was + come → prefers_before ≡ gone → prefers_after ≡ come → now + prefers_before ≡ was + prefers_after
exchanged now was gone come prefers_before prefers_after sum before after = omega arith

pub returns-clause-votes : goal.returns-clause-votes
returns-clause-votes c =
    let are_before : AreSortKeys c.args.before.now c.sort_keys.result.now = record { options = c.sort_keys.ensures.options; others = c.sort_keys.ensures.others } in
    let are_after : AreSortKeys c.args.after.now c.sort_keys-2.result.now = record { options = c.sort_keys-2.ensures.options; others = c.sort_keys-2.ensures.others } in
    at-options
    (λ a b. votes c.change.new.self a b + (if prefers c.args.before.now a b then 1 else 0) ≡ votes c.args.self.now a b + (if prefers c.args.after.now a b then 1 else 0)) c.args.self.now.options
    (λ i j in_i in_j. exchanged _ _ _ _ _ _ (c.change.ensures.votes i j in_i in_j)
    (vote-by-keys c.args.before.now c.sort_keys.result.now are_before i j (omega (arith, in_i, c.requires.options_before)) (omega (arith, in_j, c.requires.options_before)))
    (vote-by-keys c.args.after.now c.sort_keys-2.result.now are_after i j (omega (arith, in_i, c.requires.options_after)) (omega (arith, in_j, c.requires.options_after))))
