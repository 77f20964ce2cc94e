-- No fault was found, so each key has a value of its kind, and the limits hold. Field by field the poll is then the one that the keys mean.
use Rattle.std.proofs.Common.{◌∙◌, [], List, ℕ, Bor, ap, map, nat_abs, subst, sym, unwrap_or}
use Rattle.vote_poll_keys.specs.FoundView.{found_view}
use Rattle.vote_poll.specs.PollContent.{IsPoll}
use Rattle.vote_poll.specs.PollFile.{poll_of}
use Rattle.vote_poll.specs.PollView.{content}
use Rattle.vote_poll.proofs.Assembly.{same_poll, text_given, whole_if_judged}
use Rattle.vote_poll.proofs.poll.Poll.of_keys.Goals as goal

pub ratios_of-requires : goal.ratios_of-requires
ratios_of-requires c =
    let whole = whole_if_judged c.requires.0 (found_view c.args.keys.now) c.requires.1 in
    rw c.numbers_or_none.ensures whole.ratios

pub roll_of-requires : goal.roll_of-requires
roll_of-requires c =
    let whole = whole_if_judged c.requires.0 (found_view c.args.keys.now) c.requires.1 in
    rw c.texts_or_none-2.ensures whole.roll

pub invariant_of-result : goal.invariant_of-result
invariant_of-result c =
    let f = found_view c.args.keys.now in
    let whole = whole_if_judged c.requires.0 f c.requires.1 in
    let made = same_poll (content record { title = c.in_ok-from_str.field-0; options = c.in_ok-copies_of.field-0; ratios = c.in_ok-ratios_of.field-0; quorum_multiple = c.quorum_of.result; roll = c.in_ok-roll_of.field-0; last_envelope = c.last_envelope_of.result; wording = c.wording_of.result }) (poll_of f)
    (c.in_ok-from_str.ensures.ok ∙ ap (λ (t : Bor (List ℕ)). t.now) c.unwrap_or.ensures ∙ text_given c.args.keys.now.title _ (poll_of f).title whole.title)
    (c.in_ok-copies_of.ensures ∙ c.texts_or_none.ensures ∙ ap (λ list. unwrap_or list []) c.in_ok-option_names.ensures)
    (c.in_ok-ratios_of.ensures ∙ ap (map nat_abs) c.numbers_or_none.ensures)
    c.quorum_of.ensures
    (c.in_ok-roll_of.ensures ∙ c.texts_or_none-2.ensures)
    c.last_envelope_of.ensures
    c.wording_of.ensures in
    subst IsPoll (sym made) whole.poll

pub returns : goal.returns
returns c =
    let f = found_view c.args.keys.now in
    let whole = whole_if_judged c.requires.0 f c.requires.1 in
    same_poll (content record { title = c.in_ok-from_str.field-0; options = c.in_ok-copies_of.field-0; ratios = c.in_ok-ratios_of.field-0; quorum_multiple = c.quorum_of.result; roll = c.in_ok-roll_of.field-0; last_envelope = c.last_envelope_of.result; wording = c.wording_of.result }) (poll_of f)
    (c.in_ok-from_str.ensures.ok ∙ ap (λ (t : Bor (List ℕ)). t.now) c.unwrap_or.ensures ∙ text_given c.args.keys.now.title _ (poll_of f).title whole.title)
    (c.in_ok-copies_of.ensures ∙ c.texts_or_none.ensures ∙ ap (λ list. unwrap_or list []) c.in_ok-option_names.ensures)
    (c.in_ok-ratios_of.ensures ∙ ap (map nat_abs) c.numbers_or_none.ensures)
    c.quorum_of.ensures
    (c.in_ok-roll_of.ensures ∙ c.texts_or_none-2.ensures)
    c.last_envelope_of.ensures
    c.wording_of.ensures
