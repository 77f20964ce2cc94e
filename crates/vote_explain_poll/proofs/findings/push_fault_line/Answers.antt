use Rattle.vote_explain_poll.proofs.Words.{◌≡◌, ◌++◌, codes, refl, rules, string_bytes, three}
use Rattle.vote_poll_keys.specs.FaultWords.{fault_words}
use Rattle.vote_hints.proofs.HintLaws.{hint_line_is}
use Rattle.vote_explain_poll.proofs.findings.push_fault_line.Goals as goal

pub returns : goal.returns
returns c =
    let head = codes "poll: " ++ fault_words c.args.fault ++ codes ": " in
    let told : string_bytes c.write.new.self ≡ string_bytes c.args.text.now ++ head = search rules in
    let (shown, is, added) = c.in_ok-push_line_at.ensures in
    (_, (_, shown, c.in_ok-words.ensures, hint_line_is _, is, refl), three head _ shown _ _ _ _ told (rw c.as_bytes.ensures.value at c.in_ok-push_hint_line.ensures.words) added)
