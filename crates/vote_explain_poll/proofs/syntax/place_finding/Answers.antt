use Rattle.vote_explain_poll.proofs.Words.{arith, refl}
use Rattle.vote_explain_poll.proofs.syntax.place_finding.Goals as goal

pub returns : goal.returns
returns c =
    let (hint, is_hint, told) = c.in_ok-push_hint_line.ensures.line in
    let (shown, is_shown, added) = c.in_ok-push_excerpt.ensures in
    (c.min-at.result, hint, shown, omega arith, is_hint, is_shown, rw (added, told, c.in_ok-push_place.ensures, c.new-finding.ensures.bytes, c.split_at.ensures.front) refl)
