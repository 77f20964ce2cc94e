use Rattle.std.proofs.Common.{rules, tests, not, length, ◌==◌}
use Rattle.std.proofs.lemmas.Iterator.Adapters.{YieldsList-from_skip}
use Rattle.std.proofs.lemmas.Iterator.Consumers.{YieldsList-from_filter, YieldsList-at}
use Rattle.std.proofs.lemmas.Iterator.Search.{all_from_yields_List}
use Rattle.std.proofs.lemmas.Iterator.Splits.{YieldsList-from_slice_split}
use Rattle.vote_explain_ballots.specs.Tables.{is_quoted_rank, is_sign}
use Rattle.vote_explain_ballots.proofs.tables.has_only_quoted.Goals as goal

pub returns : goal.returns
returns c =
    all_from_yields_List is_quoted_rank _ _ _ c.all.ensures.ran
    (YieldsList-from_skip 1 (YieldsList-at c.skip.ensures.source (YieldsList-from_filter _ (λ word. not (length word == 0))
    (YieldsList-at c.filter-words.ensures.source (YieldsList-from_slice_split _ is_sign c.args.line.now c.split-parts.ensures.rest c.split-parts.ensures.done c.split-parts.ensures.closure (λ x r q k. search (rules, tests))))
    c.filter-words.ensures.closure (λ x r q k. search (rules, tests)))) c.skip.ensures.count) (λ x b q k. search (rules, tests))
