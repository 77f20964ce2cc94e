use Rattle.std.proofs.Common.{◌&&◌, ◌+◌, ◌==◌, ap₂, arith, refl, rules, tests}
use Rattle.std.proofs.lemmas.Iterator.{YieldsList-from_range}
use Rattle.std.proofs.lemmas.Iterator.Search.{all_from_yields_List}
use Rattle.std.specs.List.{list_any}
use Rattle.vote_explain_ballots.specs.Tables.{later_words, number_of}
use Rattle.vote_explain_ballots.proofs.tables.has_each_rank.Goals as goal

pub returns : goal.returns
returns c =
    let all = all_from_yields_List (λ option. list_any (λ word. number_of word == option) (later_words c.args.line.now)) _ _ _ c.all-has_all.ensures.ran
    (YieldsList-from_range 1 (c.args.options + 1) c.args.options refl (omega arith)) (λ x b q k. search (rules, tests)) in
    ap₂ (λ n r. (n == c.args.options + 1) && r) c.word_count.ensures all
