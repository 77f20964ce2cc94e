use Rattle.std.proofs.Common.{◌==◌, ◌||◌, ◌∙◌, [], ap, length, not, rules, tests, unwrap_or}
use Rattle.std.proofs.lemmas.Iterator.Consumers.{YieldsList-from_filter, YieldsList-at, nth_from_yields_List}
use Rattle.std.proofs.lemmas.Iterator.Splits.{YieldsList-from_slice_split}
use Rattle.std.proofs.lemmas.Option.{unwrap_or-slice_get}
use Rattle.vote_explain_poll.proofs.full_lines.full_line.Goals as goal

pub returns : goal.returns
returns c =
    let at = nth_from_yields_List _ _ c.args.place c.nth.ensures.ran
    (YieldsList-from_filter _ (λ line. not (length line == 0))
    (YieldsList-at c.filter-lines.ensures.source (YieldsList-from_slice_split _ (λ b. b == 10 || b == 13) _ (c.split-parts.ensures.rest ∙ c.unmarked.ensures) c.split-parts.ensures.done c.split-parts.ensures.closure (λ x r q k. search (rules, tests))))
    c.filter-lines.ensures.closure (λ x r q k. search (rules, tests))) in
    ap (λ line. unwrap_or line []) at ∙ unwrap_or-slice_get _ c.args.place []
