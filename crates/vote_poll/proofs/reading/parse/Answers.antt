use Rattle.std.proofs.Common.{◌≡◌, ◌≤◌, ◌∙◌, ℕ, List, Option, Some, None, length, ap, ap₂, arith}
use Rattle.std.proofs.lemmas.Grind.{common_steps, elements, moves, pieces}
use Rattle.std.proofs.lemmas.Bool.{le-leb}
use Rattle.std.proofs.lemmas.Option.{same_Some}
use Rattle.std.specs.List.{before_first, after_first}
use Rattle.std.specs.Option.{option_map}
use Rattle.vote_poll.specs.Parsing.{kept_and_count, parts_in, voter_kept_and_count}
use Rattle.vote_poll.specs.Readings.{is_space, ranks_in}
use Rattle.vote_poll.specs.declared.TheConstants.{MAX_LINE}
use Rattle.vote_poll.proofs.reading.parse.Goals as goal

by_ranks : (voter before : List ℕ) (kept : List (Option ℕ)) (count : ℕ) (o : Option (List (Option ℕ))) → voter ≡ before → Some (kept, count) ≡ option_map kept_and_count o
    → Some (voter, kept, count) ≡ option_map voter_kept_and_count (option_map (λ rs. (before, rs)) o)
by_ranks voter before kept count None same listed = cc
by_ranks voter before kept count (Some ranks) same listed = ap₂ (λ (v : List ℕ) (p : List (Option ℕ) × ℕ). Some (v, p.0, p.1)) same (same_Some (kept, count) (kept_and_count ranks) listed)

-- the parts before and after the first space are those of the line
parts_read : (line voter text : List ℕ) (kept : List (Option ℕ)) (count : ℕ) → length line ≤ MAX_LINE → voter ≡ before_first is_space line → text ≡ after_first is_space line
    → Some (kept, count) ≡ option_map kept_and_count (ranks_in text) → Some (voter, kept, count) ≡ option_map voter_kept_and_count (parts_in line)
parts_read line voter text kept count short before after listed =
    rw (le-leb (length line) MAX_LINE short)
    (by_ranks voter (before_first is_space line) kept count (ranks_in (after_first is_space line)) before (listed ∙ ap (λ t. option_map kept_and_count (ranks_in t)) after))

pub ranks_of-requires : goal.ranks_of-requires
ranks_of-requires c = grind (arith, common_steps, elements, moves, pieces)

pub returns : goal.returns
returns c =
    parts_read c.args.line.now c.in_ok-voter.voter.now c.in_ok-voter.ranks.now c.in_ok-ranks.ranks c.in_ok-ranks.count c.if-line-gt-MAX_LINE.false c.in_ok-voter.ensures.before c.in_ok-voter.ensures.after c.in_ok-ranks.ensures
