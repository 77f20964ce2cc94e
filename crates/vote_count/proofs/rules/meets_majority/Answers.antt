-- The votes for and against the option are compared in 64 bits; `P` says that they are a majority in a wording.
use Rattle.std.proofs.Common.{◌≡◌, ◌*◌, ◌≤◌, sym, ap, ◌∙◌, subst, arith}
use Rattle.std.proofs.lemmas.Bool.{le-leb, leb-true, lt-ltb, ltb-true}
use Rattle.std.proofs.Math.Nat.{mul-le-mul}
use Rattle.vote_poll.specs.PollContent.{option_count, ratio_of}
use Rattle.vote_poll.specs.declared.wording.Wording.{Wording}
use Rattle.vote_count.specs.Rules.{IsMajority}
use Rattle.vote_count.specs.Votes.{votes}
use Rattle.vote_count.proofs.rules.meets_majority.Goals as goal

pub returns-then-won-needed-clause-majority : goal.returns-then-won-needed-clause-majority
returns-then-won-needed-clause-majority c =
    let option = c.args.option in
    let default = option_count c.args.poll.now in
    let won : c.from-won.result ≡ votes c.args.matrix.now option default = c.from-won.ensures ∙ c.votes.ensures ∙ ap (votes c.args.matrix.now option) c.options-default.ensures.number in
    let lost : c.from-lost.result ≡ votes c.args.matrix.now default option = c.from-lost.ensures ∙ c.votes-2.ensures ∙ ap (λ d. votes c.args.matrix.now d option) c.options-default.ensures.number in
    let P : Wording → Type 0 = λ w. IsMajority w (ratio_of c.args.poll.now option) (votes c.args.matrix.now option default) (votes c.args.matrix.now default option) in
    let is = sym c.in-AtLeast.is ∙ c.wording.ensures in (
      λ more. subst P is (rw (c.from.ensures, c.ratio.ensures.ratio, lost, won) at c.if-won-needed.true, rw (lost, won) at (ltb-true _ _ more)),
      λ meets. lt-ltb _ _ (rw (lost, won) (subst P (sym is) meets).1),
    )

pub returns-then-won-needed-clause-more : goal.returns-then-won-needed-clause-more
returns-then-won-needed-clause-more c more =
    let option = c.args.option in
    let default = option_count c.args.poll.now in
    let won : c.from-won.result ≡ votes c.args.matrix.now option default = c.from-won.ensures ∙ c.votes.ensures ∙ ap (votes c.args.matrix.now option) c.options-default.ensures.number in
    let lost : c.from-lost.result ≡ votes c.args.matrix.now default option = c.from-lost.ensures ∙ c.votes-2.ensures ∙ ap (λ d. votes c.args.matrix.now d option) c.options-default.ensures.number in
    rw (lost, won) at (ltb-true _ _ more)

pub returns-else-won-needed-clause-majority : goal.returns-else-won-needed-clause-majority
returns-else-won-needed-clause-majority c =
    let option = c.args.option in
    let default = option_count c.args.poll.now in
    let won : c.from-won.result ≡ votes c.args.matrix.now option default = c.from-won.ensures ∙ c.votes.ensures ∙ ap (votes c.args.matrix.now option) c.options-default.ensures.number in
    let lost : c.from-lost.result ≡ votes c.args.matrix.now default option = c.from-lost.ensures ∙ c.votes-2.ensures ∙ ap (λ d. votes c.args.matrix.now d option) c.options-default.ensures.number in
    let P : Wording → Type 0 = λ w. IsMajority w (ratio_of c.args.poll.now option) (votes c.args.matrix.now option default) (votes c.args.matrix.now default option) in
    let is = sym c.in-AtLeast.is ∙ c.wording.ensures in (
      λ enough. absurd (omega (arith, leb-true _ _ enough, c.if-won-needed.false)),
      λ meets. le-leb _ _ (rw (c.from.ensures, c.ratio.ensures.ratio, lost, won) (subst P (sym is) meets).0),
    )

pub returns-else-won-needed-clause-more : goal.returns-else-won-needed-clause-more
returns-else-won-needed-clause-more c enough = absurd (omega (arith, leb-true _ _ enough, c.if-won-needed.false))

pub returns-in-MoreThan-clause-majority : goal.returns-in-MoreThan-clause-majority
returns-in-MoreThan-clause-majority c =
    let option = c.args.option in
    let default = option_count c.args.poll.now in
    let won : c.from-won.result ≡ votes c.args.matrix.now option default = c.from-won.ensures ∙ c.votes.ensures ∙ ap (votes c.args.matrix.now option) c.options-default.ensures.number in
    let lost : c.from-lost.result ≡ votes c.args.matrix.now default option = c.from-lost.ensures ∙ c.votes-2.ensures ∙ ap (λ d. votes c.args.matrix.now d option) c.options-default.ensures.number in
    let P : Wording → Type 0 = λ w. IsMajority w (ratio_of c.args.poll.now option) (votes c.args.matrix.now option default) (votes c.args.matrix.now default option) in
    let is = sym c.in-MoreThan.is ∙ c.wording.ensures in (
      λ more. subst P is (rw (c.from.ensures, c.ratio.ensures.ratio, lost, won) at (ltb-true (c.from.result * c.from-lost.result) c.from-won.result more)),
      λ meets. lt-ltb _ _ (rw (c.from.ensures, c.ratio.ensures.ratio, lost, won) (subst P (sym is) meets)),
    )

pub returns-in-MoreThan-clause-more : goal.returns-in-MoreThan-clause-more
returns-in-MoreThan-clause-more c more =
    let option = c.args.option in
    let default = option_count c.args.poll.now in
    let won : c.from-won.result ≡ votes c.args.matrix.now option default = c.from-won.ensures ∙ c.votes.ensures ∙ ap (votes c.args.matrix.now option) c.options-default.ensures.number in
    let lost : c.from-lost.result ≡ votes c.args.matrix.now default option = c.from-lost.ensures ∙ c.votes-2.ensures ∙ ap (λ d. votes c.args.matrix.now d option) c.options-default.ensures.number in
    let at_least_one : 1 ≤ c.from.result = omega (arith, c.from.ensures, c.ratio.ensures.range) in
    let whole : c.from-lost.result ≤ c.from-lost.result = omega arith in
    omega (arith, won, lost, ltb-true (c.from.result * c.from-lost.result) c.from-won.result more, mul-le-mul at_least_one whole)
