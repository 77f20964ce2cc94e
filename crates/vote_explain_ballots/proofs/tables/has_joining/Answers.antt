use Rattle.std.proofs.Common.{rules, tests, not, length, ◌==◌}
use Rattle.std.proofs.lemmas.Iterator.Consumers.{YieldsList-from_filter, YieldsList-at}
use Rattle.std.proofs.lemmas.Iterator.Search.{any_from_yields_List}
use Rattle.std.proofs.lemmas.Iterator.Splits.{YieldsList-from_slice_split}
use Rattle.vote_explain_ballots.specs.Tables.{is_joining, is_sign}
use Rattle.vote_explain_ballots.proofs.tables.has_joining.Goals as goal

pub returns : goal.returns
returns c =
    any_from_yields_List is_joining _ _ _ c.any.ensures.ran
    (YieldsList-from_filter _ (λ word. not (length word == 0))
    (YieldsList-at c.filter-words.ensures.source (YieldsList-from_slice_split _ is_sign c.args.line.now c.split-parts.ensures.rest c.split-parts.ensures.done c.split-parts.ensures.closure (λ x r q k. search (rules, tests))))
    c.filter-words.ensures.closure (λ x r q k. search (rules, tests))) (λ x b q k. search (rules, tests))
