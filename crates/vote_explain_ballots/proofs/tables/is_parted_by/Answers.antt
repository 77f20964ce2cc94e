use Rattle.std.proofs.Common.{rules, tests, length, nat_le, ◌==◌}
use Rattle.std.proofs.lemmas.Iterator.Search.{all_from_yields_List}
use Rattle.std.proofs.lemmas.Iterator.Splits.{YieldsList-from_slice_split}
use Rattle.vote_explain_ballots.specs.Tables.{words_of}
use Rattle.vote_explain_ballots.proofs.tables.is_parted_by.Goals as goal

pub returns : goal.returns
returns c =
    all_from_yields_List (λ part. nat_le (length (words_of part)) 1) _ _ _ c.all.ensures.ran
    (YieldsList-from_slice_split _ (λ b. b == c.args.sign) c.args.line.now c.split-parts.ensures.rest c.split-parts.ensures.done c.split-parts.ensures.closure (λ x r q k. search (rules, tests)))
    (λ x b q k. search (rules, tests))
