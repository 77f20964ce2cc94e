use Rattle.std.proofs.Common.{◌≡◌, ◌++◌, ◌∙◌, Bool, List, ap, append_assoc, string_bytes}
use Rattle.std.proofs.lemmas.Result.{on_ok_weaker}
use Rattle.vote_count.specs.Rounds.{final_set}
use Rattle.vote_sheet.specs.Counted.{shared_text}
use Rattle.vote_sheet.specs.Sheet.{Text, decision_text}
use Rattle.vote_sheet.proofs.sheet.push_sheet.Goals as goal

pub returns : goal.returns
returns c =
    let poll = c.args.poll.now in
    let count = c.args.count.now in
    let old = string_bytes c.args.text.now in
    let last : Text = decision_text poll.options (final_set count.verdict.rounds) c.args.decision in
    let shared = string_bytes c.push_shared.new.text in
    let P = string_bytes c.push_decision.new.text ≡ shared ++ decision_text poll.options c.final_set.result c.args.decision in
    on_ok_weaker c.push_decision.result (λ (is : P). is
    ∙ ap (λ (set : List Bool). shared ++ decision_text poll.options set c.args.decision) c.final_set.ensures
    ∙ ap (λ t. t ++ last) c.in_ok-push_shared.ensures
    ∙ append_assoc old (shared_text poll count) last) c.push_decision.ensures
