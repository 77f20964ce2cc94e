-- The loop finds the cause of each option. Defeats and rounds are those of the kept options, so the verdict is an outcome.
use Rattle.std.proofs.Common.{◌≢◌, ℕ, ◌-◌, length, ◌<◌, ◌≤◌, inl, inr, sym, ◌∙◌, subst, arith}
use Rattle.std.proofs.lemmas.Grind.{common_steps, elements, moves, pieces}
use Rattle.std.proofs.lemmas.Bool.{cases_eq}
use Rattle.std.specs.Prelude.{◌↔◌, Option, None}
use Rattle.std.proofs.lemmas.List.{length-replicate, length-set}
use Rattle.vote_poll.specs.declared.TheConstants.{MAX_OPTIONS}
use Rattle.vote_count.specs.declared.rounds.Cause.{Cause}
use Rattle.vote_poll.specs.PollContent.{option_count}
use Rattle.vote_count.specs.Sets.{In, Pairs}
use Rattle.vote_count.specs.Rules.{IsKept, PairwiseDefeats}
use Rattle.vote_count.specs.Rounds.{AreRounds, HasCause}
use Rattle.vote_count.specs.Votes.{votes}
use Rattle.vote_poll.proofs.OptionLaws.{at_option-replicate, at_option-set, at_option-set_other}
use Rattle.vote_count.proofs.RoundLemmas.{final_kept, rounds_same, rounds_kept}
use Rattle.vote_count.proofs.Left.{some_left}
use Rattle.vote_count.proofs.LawLemmas.{default_law, default_alone_law}
use Rattle.vote_count.proofs.rounds.outcome.Goals as goal

pub loop-option-init : goal.loop-option-init
loop-option-init c = record {
  start = (omega arith, length-replicate {A = Option Cause} MAX_OPTIONS None);
  found = λ o is lt. absurd (omega (arith, is.0));
  later = λ o _. at_option-replicate {X = Option Cause} MAX_OPTIONS o None;
}

pub loop-option-preserved : goal.loop-option-preserved
loop-option-preserved c =
    let at = c.loop-option.option in
    let low : 1 ≤ at = c.loop-option.invariant.start.0 in
    let high : at ≤ length c.loop-option.causes = omega arith in
    record {
      start = (omega arith, length-set c.loop-option.causes (at - 1) c.dropped_for.result ∙ c.loop-option.invariant.start.1);
      found = λ o is lt.
          let P : ℕ → Option Cause → Type 0 = HasCause c.args.poll.now c.args.matrix.now in
          elim (cases_eq o at) [
            | inl same ↦ subst (P o) (sym (at_option-set c.loop-option.causes o at c.dropped_for.result None low high same)) (subst (λ (x : ℕ). P x c.dropped_for.result) (sym same) c.dropped_for.ensures)
            | inr other ↦ subst (P o) (sym (at_option-set_other c.loop-option.causes o at c.dropped_for.result None low other)) (c.loop-option.invariant.found o is (omega arith))
          ];
      later = λ o le. at_option-set_other c.loop-option.causes o at c.dropped_for.result None low (omega arith) ∙ c.loop-option.invariant.later o (omega arith);
    }

-- the defeats are those between the options that are kept
are_defeats : (c : goal.In_ok-rounds) (a b : ℕ) → Pairs c.of-defeats.result a b ↔ PairwiseDefeats (IsKept c.args.poll.now c.args.matrix.now) c.args.matrix.now a b
are_defeats c a b =
    let is = c.kept_with-standing.ensures.kept in
    let of = c.of-defeats.ensures a b in (
      λ p. let d = of.0 p in ((is a).0 d.0, (is b).0 d.1, d.2),
      λ d. of.1 ((is a).1 d.0, (is b).1 d.1, d.2),
    )

are_rounds : (c : goal.In_ok-rounds) → AreRounds (IsKept c.args.poll.now c.args.matrix.now) c.args.matrix.now (PairwiseDefeats (IsKept c.args.poll.now c.args.matrix.now) c.args.matrix.now) c.in_ok-rounds.rounds.items
are_rounds c =
    let kept = IsKept c.args.poll.now c.args.matrix.now in
    let standing = In c.kept_with-standing.result in
    let is = c.kept_with-standing.ensures.kept in
    rounds_same kept c.args.matrix.now (Pairs c.of-defeats.result) (PairwiseDefeats kept c.args.matrix.now) (λ a b. (are_defeats c a b).0) (λ a b. (are_defeats c a b).1)
    c.in_ok-rounds.rounds.items
    (rounds_kept standing kept c.args.matrix.now (λ o. (is o).0) (λ o. (is o).1) (Pairs c.of-defeats.result) c.in_ok-rounds.rounds.items c.in_ok-rounds.ensures)

pub returns-clause-outcome : goal.returns-clause-outcome
returns-clause-outcome c = record {
  causes = λ o is. grind arith;
  defeats = are_defeats c;
  rounds = are_rounds c;
}

pub returns-clause-kept : goal.returns-clause-kept
returns-clause-kept c = final_kept (IsKept c.args.poll.now c.args.matrix.now) c.args.matrix.now (PairwiseDefeats (IsKept c.args.poll.now c.args.matrix.now) c.args.matrix.now) c.in_ok-rounds.rounds.items (are_rounds c)

pub returns-clause-some : goal.returns-clause-some
returns-clause-some c = some_left c.args.poll.now c.args.matrix.now c.in_ok-rounds.rounds.items (are_rounds c)

-- a kept option has more votes than the default
more : (c : goal.In_ok-rounds) (o : ℕ) → IsKept c.args.poll.now c.args.matrix.now o → o ≢ option_count c.args.poll.now →
    votes c.args.matrix.now (option_count c.args.poll.now) o < votes c.args.matrix.now o (option_count c.args.poll.now)
more c o kept = c.kept_with-standing.ensures.more o ((c.kept_with-standing.ensures.kept o).1 kept)

pub returns-clause-default : goal.returns-clause-default
returns-clause-default c =
    default_law c.args.poll.now c.args.matrix.now (more c) c.in_ok-rounds.rounds.items (are_rounds c)

pub returns-clause-default_alone : goal.returns-clause-default_alone
returns-clause-default_alone c h =
    default_alone_law c.args.poll.now c.args.matrix.now (more c) c.in_ok-rounds.rounds.items (are_rounds c) h

pub invariant_of-result : goal.invariant_of-result
invariant_of-result c = grind (arith, common_steps, elements, moves, pieces)
