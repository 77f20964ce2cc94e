-- The set so far has the default option, and the options below the next option that are kept.
use Rattle.std.proofs.Common.{◌≡◌, ℕ, ◌<◌, inl, inr, sym, ◌∙◌, subst, arith}
use Rattle.std.proofs.lemmas.Bool.{both_ways}
use Rattle.vote_poll.specs.PollContent.{option_count}
use Rattle.vote_count.specs.Sets.{In}
use Rattle.vote_count.specs.Rules.{MeetsMajority, MeetsQuorum}
use Rattle.vote_count.specs.Votes.{votes}
use Rattle.vote_count.proofs.Filled.{other_left, other_taken}
use Rattle.vote_count.proofs.rules.kept_with.Goals.{then-has_quorum+then-meets_majority, else-has_quorum, else-has_quorum-via-then-has_quorum+else-meets_majority, else-has_quorum-via-else-has_quorum}
use Rattle.vote_count.proofs.rules.kept_with.Goals as goal

pub loop-option-init : goal.loop-option-init
loop-option-init c =
    let number = c.options-default.ensures.number in
    let alone : (o : ℕ) → In c.insert.new.self o → o ≡ option_count c.args.poll.now =
    λ o h. elim ((c.insert.ensures.options o).0 h) [ inl same ↦ same ∙ number | inr before ↦ absurd (both_ways _ (c.empty-standing.ensures o) before) ] in
    record {
      start = omega arith;
      kept = λ o. (
        λ h. inl (alone o h),
        λ h. (c.insert.ensures.options o).1 (elim h [ inl same ↦ inl (same ∙ sym number) | inr other ↦ absurd (omega (arith, other.0, other.1)) ]),
      );
      more = λ o h other. absurd (other (alone o h));
    }

pub loop-option-preserved : goal.loop-option-preserved
loop-option-preserved c =
    let poll = c.args.poll.now in
    let matrix = c.args.matrix.now in
    let option = c.loop-option.option in
    let P : ℕ → Type 0 = λ o. MeetsQuorum poll (votes matrix o (option_count poll)) × MeetsMajority poll matrix o in
    let R : ℕ → Type 0 = λ o. votes matrix (option_count poll) o < votes matrix o (option_count poll) in
    elim c.if-has_quorum.branch [
      | then-has_quorum+then-meets_majority w ↦
          let with_it = w.insert-then-meets_majority in
          rw w.standing-is (record {
            start = omega arith;
            kept = other_taken (In c.loop-option.standing) (In with_it.new.self) P (option_count poll) option c.loop-option.invariant.kept with_it.ensures.options c.loop-option.invariant.start
                (c.has_quorum.ensures.0 w.if-has_quorum.true, w.meets_majority.ensures.majority.0 w.if-meets_majority.true);
            more = λ o h other. elim ((with_it.ensures.options o).0 h) [
              | inl same ↦ subst R (sym same) (w.meets_majority.ensures.more w.if-meets_majority.true)
              | inr before ↦ c.loop-option.invariant.more o before other
            ];
          })
      | else-has_quorum w ↦ rw w.standing-is (record {
        start = omega arith;
        kept = other_left (In c.loop-option.standing) P (option_count poll) option c.loop-option.invariant.kept
            (λ passes. elim w.else-has_quorum.branch [
              | else-has_quorum-via-then-has_quorum+else-meets_majority w' ↦ both_ways _ w'.if-meets_majority.false (w'.meets_majority.ensures.majority.1 passes.1)
              | else-has_quorum-via-else-has_quorum w' ↦ both_ways _ w'.if-has_quorum.false (c.has_quorum.ensures.1 passes.0)
            ]);
        more = c.loop-option.invariant.more;
      })
    ]

pub returns-clause-kept : goal.returns-clause-kept
returns-clause-kept c o =
    let kept = c.loop-option.invariant.kept o in
    let number = c.options-default.ensures.number in (
      λ h. elim (kept.0 h) [ inl default ↦ inl default | inr other ↦ inr (other.0, omega (arith, other.1, c.loop-option.auto.option-end), other.2.0, other.2.1) ],
      λ h. kept.1 (elim h [ inl default ↦ inl default | inr other ↦ inr (other.0, omega (arith, other.1), (other.2, other.3)) ]),
    )

pub returns-clause-more : goal.returns-clause-more
returns-clause-more c = c.loop-option.invariant.more
