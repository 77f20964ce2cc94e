-- The ranks before this one, and what the rest of the text lists, are what the text lists. The last rank is compared without a comma.
use Rattle.std.proofs.Common.{◌≡◌, ◌≤◌, ◌++◌, ◌∷◌, [], ℕ, List, Some, map, take, length, rules, ap, sym, ◌∙◌, get_or}
use Rattle.std.proofs.lemmas.List.{map-append, take_all, take_more}
use Rattle.std.specs.Option.{option_map}
use Rattle.vote_poll.specs.SortKeys.{rank_of_key}
use Rattle.vote_poll.specs.Readings.{rank_in, ranks_in}
use Rattle.vote_poll.proofs.RankRow.{one-rank, more-ranks}
use Rattle.vote_poll.proofs.reading.lists_ranks.Goals as goal

-- the rank of the last option comes after the ranks of the others
with_last : (text left others : List ℕ) (count last : ℕ) → ranks_in text ≡ option_map (λ ranks. map rank_of_key (take count others) ++ ranks) (ranks_in left) → length others ≤ count
    → rank_in left ≡ Some (rank_of_key last) → ranks_in text ≡ Some (map rank_of_key (others ++ last ∷ []))
with_last text left others count last so_far past is =
    so_far ∙ ap (option_map (λ ranks. map rank_of_key (take count others) ++ ranks)) (one-rank left (rank_of_key last) is)
    ∙ ap (λ keys. Some (map rank_of_key keys ++ rank_of_key last ∷ [])) (take_all count others past) ∙ ap Some (sym (map-append rank_of_key others (last ∷ [])))

pub returns : goal.returns
returns c = λ is.
    let read : rank_in c.loop-key.left.now ≡ Some (rank_of_key c.in-Some.last.now) = search rules in
    let whole : c.keys.result.now ≡ c.in-Some.others.now ++ c.in-Some.last.now ∷ [] = search rules in
    let ranks : map rank_of_key c.keys.result.now ≡ c.args.ranks.now = search rules in
    with_last c.args.text.now c.loop-key.left.now c.in-Some.others.now c.loop-key.key-index c.in-Some.last.now c.loop-key.invariant c.loop-key-test.false read
    ∙ ap (λ keys. Some (map rank_of_key keys)) (sym whole) ∙ ap Some ranks

pub loop-key-preserved : goal.loop-key-preserved
loop-key-preserved c =
    let others = c.in-Some.others.now in
    let i = c.loop-key.key-index in
    let rest = ranks_in c.in-Some-behind_rank.rest.now in
    c.loop-key.invariant ∙ ap (option_map (λ ranks. map rank_of_key (take i others) ++ ranks)) c.in-Some-behind_rank.ensures ∙ more-ranks (take i others) (get_or others i 0) rest
    ∙ ap (λ keys. option_map (λ ranks. map rank_of_key keys ++ ranks) rest) (sym (take_more others i 0 c.loop-key-test.true))
