use Rattle.std.proofs.Common.{rules, tests, not, length, ◌==◌, ◌∙◌, [], ap, get_or, unwrap_or}
use Rattle.std.proofs.lemmas.Iterator.Consumers.{YieldsList-from_filter, YieldsList-at, nth_from_yields_List}
use Rattle.std.proofs.lemmas.Iterator.Splits.{YieldsList-from_slice_split}
use Rattle.std.proofs.lemmas.Option.{unwrap_or-slice_get}
use Rattle.vote_explain_ballots.specs.Tables.{is_sign, words_of}
use Rattle.vote_explain_ballots.proofs.tables.first_word.Goals as goal

pub returns : goal.returns
returns c =
    let at = nth_from_yields_List _ _ 0 c.nth.ensures.ran
    (YieldsList-from_filter _ (λ word. not (length word == 0))
    (YieldsList-at c.filter-words.ensures.source (YieldsList-from_slice_split _ is_sign c.unmarked.result.now c.split-parts.ensures.rest c.split-parts.ensures.done c.split-parts.ensures.closure (λ x r q k. search (rules, tests))))
    c.filter-words.ensures.closure (λ x r q k. search (rules, tests))) in
    ap (λ o. unwrap_or o []) at ∙ unwrap_or-slice_get (words_of c.unmarked.result.now) 0 [] ∙ ap (λ text. get_or (words_of text) 0 []) c.unmarked.ensures
