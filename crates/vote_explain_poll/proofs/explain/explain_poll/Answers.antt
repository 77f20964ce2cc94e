use Rattle.vote_explain_poll.proofs.Words.{refl, rules}
use Rattle.vote_poll.specs.PollFile.{poll_in}
use Rattle.vote_poll_keys.proofs.KeysLaws.{document-table, document-refused}
use Rattle.vote_explain_poll.proofs.explain.explain_poll.Goals as goal

pub returns-in-Ok : goal.returns-in-Ok
unfolding poll_in
returns-in-Ok c = rw (document-table _ _ c.in-Ok.ensures.ok.0 c.in-Ok.ensures.ok.1) c.explain_table.ensures

pub returns-in_ok-syntax_finding-in-Err-2 : goal.returns-in_ok-syntax_finding-in-Err-2
unfolding poll_in
returns-in_ok-syntax_finding-in-Err-2 c =
    rw (document-refused _ (c.in-Err.ensures.refused (λ memory. cc (c.is_memory.ensures.1 memory)))) (record { findings = c.in_ok-syntax_finding-in-Err-2.ensures; outcome = refl; known = search rules })
