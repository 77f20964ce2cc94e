-- A count always leaves an option. Look at one option after another and hold the best so far: take the next option if it transitively defeats the option that is held. Transitive defeats are transitive, so the last option that is held is defeated only by options that it defeats (`some_final`). This needs a test of which option defeats which (`Tests`).
use Rattle.std.proofs.Common.{ℕ, List, inl, inr, refl, arith}
use Rattle.std.specs.Prelude.{IsTrue}
use Rattle.std.proofs.lemmas.Bool.{cases_eq}
use Rattle.vote_poll.specs.PollContent.{PollContent, option_count}
use Rattle.vote_count.specs.declared.rounds.Round.{Round}
use Rattle.vote_count.specs.Laws.{FinalSetIsNotEmpty, OneOrSeveralAreLeft}
use Rattle.vote_count.specs.Rounds.{AreRounds, final_set}
use Rattle.vote_count.specs.Rules.{IsKept, PairwiseDefeats}
use Rattle.vote_count.specs.Sets.{In, size}
use Rattle.vote_count.specs.Votes.{Votes}
use Rattle.vote_count.proofs.Existence.{rounds_exist}
use Rattle.vote_count.proofs.LawLemmas.{some_final}
use Rattle.vote_count.proofs.RoundLemmas.{rounds_same}
use Rattle.vote_count.proofs.Schulze.{kept_below}
use Rattle.vote_count.proofs.Sizes.{alone_from_size, size-alone, size_at}
use Rattle.vote_count.proofs.Tests.{defeat, defeater_option, kept, known}

pub some_left : (poll : PollContent) (m : Votes) (rs : List Round) → AreRounds (IsKept poll m) m (PairwiseDefeats (IsKept poll m) m) rs → (o : ℕ) × In (final_set rs) o
some_left poll m rs are =
    let K = IsKept poll m in
    let test = λ (a b : ℕ). (defeat poll m a b).0 in
    some_final K m (λ o. known (kept poll m o)) (option_count poll) (λ o k. omega (arith, kept_below poll m o k)) (option_count poll, inl refl) rs test
    (λ a b t. defeater_option poll m a b ((defeat poll m a b).1.0 t))
    (rounds_same K m (PairwiseDefeats K m) (λ a b. IsTrue (test a b)) (λ a b. (defeat poll m a b).1.1) (λ a b. (defeat poll m a b).1.0) rs are)

pub not_empty : FinalSetIsNotEmpty
not_empty poll m options =
    let rs = rounds_exist poll m options in
    let some = some_left poll m rs.0 rs.1 in
    (some.0, (rs.0, rs.1, some.1))

pub one_or_several : OneOrSeveralAreLeft
one_or_several poll m set casting decision options final is =
    let left = not_empty poll m options in
    let inside : In set left.0 = (final left.0).1 left.1 in
    elim (cases_eq (size set) 1) [
      | inl single ↦ let alone = alone_from_size set left.0 inside single in inl (left.0, alone, is.alone left.0 alone)
      | inr other ↦ inr (omega (arith, other, size_at set left.0 inside), is.several (λ o alone. other (size-alone set o alone)))
    ]
