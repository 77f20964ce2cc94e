use Rattle.vote_explain_poll.proofs.Words.{◌≡◌, ◌∙◌, [], ap, append-nil, inr, refl, sym, key_named}
use Rattle.vote_explain_poll.proofs.findings.Hints.push_remark.Goals as goal

pub returns-in-None-2 : goal.returns-in-None-2
returns-in-None-2 c =
    let name : c.key.inside.name.now ≡ c.args.key.now.name = cc in
    ([], rw (ap key_named (sym name) ∙ sym c.named.ensures ∙ c.in-None.is) (inr refl), sym (append-nil _))
