-- A fact about the rounds of a count is a fact about its final set: there are rounds, and all of them have the same final set.
use Rattle.std.proofs.Common.{suc, ◌≤◌, inl, inr, arith}
use Rattle.vote_poll.specs.PollContent.{option_count}
use Rattle.vote_count.specs.Laws.{CloneSetsAreIndependent, CondorcetWinnersWin, Except, FinalSetIsCloneproof, FinalSetIsInSmithSet, FinalSetIsOne, FinalSetIsPareto, FinalSetIsSchulze, Outside, RaisedWinnersWin}
use Rattle.vote_count.specs.Rules.{IsKept, PairwiseDefeats}
use Rattle.vote_count.specs.Sets.{has}
use Rattle.vote_count.proofs.Clones.{clone_law, others_same, set_law, set_others_same}
use Rattle.vote_count.proofs.Existence.{rounds_exist, rounds_of_options}
use Rattle.vote_count.proofs.Pareto.{pareto_law}
use Rattle.vote_count.proofs.Raising.{raised_wins}
use Rattle.vote_count.proofs.RoundLemmas.{final_same, rounds_unique}
use Rattle.vote_count.proofs.Schulze.{kept_below, kept_option, other_kept, schulze_law}
use Rattle.vote_count.proofs.Sizes.{row_of_mark}
use Rattle.vote_count.proofs.Tests.{both, equal, kept, marked, negated}
use Rattle.vote_count.proofs.Winners.{final_inside, winner_alone}

pub is_one : FinalSetIsOne
is_one poll m rs are o =
    let K = IsKept poll m in (
      λ i. (rs, are, i),
      λ left. final_same left.0 rs (rounds_unique K m left.0 rs (PairwiseDefeats K m) left.1 are) o left.2,
    )

pub condorcet : CondorcetWinnersWin
condorcet poll m winner options wins o =
    let rs = rounds_exist poll m options in (
      λ left. (winner_alone (IsKept poll m) m winner wins left.0 left.1 o).0 left.2,
      λ same. (rs.0, rs.1, (winner_alone (IsKept poll m) m winner wins rs.0 rs.1 o).1 same),
    )

pub smith : FinalSetIsInSmithSet
smith poll m a left set dominant =
    let K = IsKept poll m in
    final_inside K m set dominant left.0 (PairwiseDefeats K m) (λ x y d. d) dominant.defeats left.1 a left.2

pub schulze : FinalSetIsSchulze
schulze poll m a options =
    let rs = rounds_exist poll m options in
    let below = kept_below poll m in (
      λ left. (schulze_law (IsKept poll m) m (suc (option_count poll)) below left.0 left.1 a).0 left.2,
      λ wins. (rs.0, rs.1, (schulze_law (IsKept poll m) m (suc (option_count poll)) below rs.0 rs.1 a).1 wins),
    )

pub raised : RaisedWinnersWin
raised poll m w a is more left =
    let ss = rounds_exist poll w (omega (arith, is.options_min)) in
    (ss.0, ss.1, raised_wins poll is m w a more left.0 ss.0 left.1 ss.1 left.2)

pub pareto : FinalSetIsPareto
pareto poll ballots m a b of is apart unanimous left = pareto_law poll ballots m left.0 a b of left.1 is apart unanimous left.2

pub cloneproof : FinalSetIsCloneproof
cloneproof poll m c d clones =
    let K = IsKept poll m in
    let L = Except K d in
    let below = kept_below poll m in
    let options = (other_kept poll m c d clones.first clones.second clones.distinct).3 in
    let rs = rounds_exist poll m options in
    let ss = rounds_of_options L (λ o. both (kept poll m o) (negated (equal o d))) m (option_count poll) (λ o l. kept_option poll m options o l.0) in (
      λ x not_c not_d. (
        λ left. (ss.0, ss.1, (others_same K m (suc (option_count poll)) below c d clones left.0 ss.0 left.1 ss.1 x not_c not_d).0 left.2),
        λ left. (rs.0, rs.1, (others_same K m (suc (option_count poll)) below c d clones rs.0 left.0 rs.1 left.1 x not_c not_d).1 left.2),
      ),
      (
        λ left. elim ((clone_law K m (suc (option_count poll)) below c d clones rs.0 left.0 rs.1 left.1).0 left.2) [
          | inl first ↦ inl (rs.0, rs.1, first)
          | inr second ↦ inr (rs.0, rs.1, second)
        ],
        λ one. elim one [
          | inl left ↦ (ss.0, ss.1, (clone_law K m (suc (option_count poll)) below c d clones left.0 ss.0 left.1 ss.1).1 (inl left.2))
          | inr left ↦ (ss.0, ss.1, (clone_law K m (suc (option_count poll)) below c d clones left.0 ss.0 left.1 ss.1).1 (inr left.2))
        ],
      ),
    )

pub independent : CloneSetsAreIndependent
independent poll m clones removed c are within clone stays =
    let K = IsKept poll m in
    let L = Outside K removed in
    let below = kept_below poll m in
    let options : 1 ≤ option_count poll = omega (arith, (row_of_mark clones c clone).0, below c (are.members c clone)) in
    let rs = rounds_exist poll m options in
    let ss = rounds_of_options L (λ o. both (kept poll m o) (negated (marked (has removed o)))) m (option_count poll) (λ o l. kept_option poll m options o l.0) in (
      λ x other. (
        λ left. (ss.0, ss.1, (set_others_same K m (suc (option_count poll)) below clones removed are within c clone stays left.0 ss.0 left.1 ss.1 x other).0 left.2),
        λ left. (rs.0, rs.1, (set_others_same K m (suc (option_count poll)) below clones removed are within c clone stays rs.0 left.0 rs.1 left.1 x other).1 left.2),
      ),
      (
        λ some.
            let left = some.2 in
            let found = (set_law K m (suc (option_count poll)) below clones removed are within c clone stays left.0 ss.0 left.1 ss.1).0 (some.0, some.1, left.2) in
            (found.0, found.1, (ss.0, ss.1, found.2)),
        λ some.
            let left = some.2 in
            let found = (set_law K m (suc (option_count poll)) below clones removed are within c clone stays rs.0 left.0 rs.1 left.1).1 (some.0, some.1, left.2) in
            (found.0, found.1, (rs.0, rs.1, found.2)),
      ),
    )
