use Rattle.vote_explain_poll.proofs.Words.{◌∙◌, codes, key_head, path_of, refl, three}
use Rattle.vote_poll_text.specs.Shown.{shown}
use Rattle.vote_explain_poll.proofs.findings.push_key_line.Goals as goal

pub returns : goal.returns
returns c =
    let shows = rw (c.deref.ensures.value ∙ c.in_ok-path.ensures) at c.in_ok-push_shown.ensures in
    let head = three (codes "poll: key ") (shown 60 (path_of c.args.key.now)) (codes " is not read") _ _ _ _ c.in_ok-push_str.ensures.bytes shows c.in_ok-push_str-2.ensures.bytes in
    let (remark, is, added) = c.in_ok-push_remark.ensures in
    (_, (remark, is, refl), three (key_head (path_of c.args.key.now)) remark _ _ _ _ _ head added c.in_ok-push_str-3.ensures.bytes)
