use Rattle.std.proofs.Common.{◌≡◌, ◌+◌, ◌<◌, ◌++◌, ◌∷◌, ◌∙◌, ℕ, List, add-one, ap, append_assoc, arith, suc, drop, drop-cons, get_or, length, string_bytes, sym}
use Rattle.vote_count.specs.declared.rounds.Round.{Round}
use Rattle.vote_sheet.specs.Sheet.{Text, round_text, rounds_from}
use Rattle.vote_sheet.proofs.sheet_text.push_rounds.Goals as goal

-- the text of a round comes before the texts of the later rounds
one_round_more : (before now : Text) (options index : ℕ) (rounds : List Round) (round : Round) → index < length rounds → round ≡ get_or rounds index round
    → now ≡ before ++ round_text options (index + 1) round
    → now ++ rounds_from options (index + 1 + 1) (drop (index + 1) rounds) ≡ before ++ rounds_from options (index + 1) (drop index rounds)
one_round_more before now options index rounds round within is added =
    let next : drop index rounds ≡ round ∷ drop (index + 1) rounds = rw add-one (drop-cons rounds index round within ∙ ap (λ r. r ∷ drop (suc index) rounds) (sym is)) in
    rw (added, next) (append_assoc before (round_text options (index + 1) round) _)

pub loop-index-preserved : goal.loop-index-preserved
loop-index-preserved c =
    one_round_more (string_bytes c.loop-index.text) (string_bytes c.push_round.new.text) c.args.options c.loop-index.index c.args.rounds.now c.index-rounds-index.result (omega arith) c.index-rounds-index.is c.in_ok-push_round.ensures
    ∙ c.loop-index.invariant
