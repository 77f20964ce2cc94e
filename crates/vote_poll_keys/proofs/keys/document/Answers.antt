use Rattle.std.proofs.Common.{◌≡◌, ◌∙◌, sym, true, true≢false}
use Rattle.vote_poll_keys.proofs.KeysLaws.{document-table, document-refused}
use Rattle.vote_poll_keys.proofs.keys.document.Goals as goal

pub returns-in-Ok : goal.returns-in-Ok
returns-in-Ok c = document-table _ _ c.in-Ok.ensures.ok.0 c.in-Ok.ensures.ok.1

pub returns-else-is_memory : goal.returns-else-is_memory
returns-else-is_memory c = document-refused _ (c.in-Err.ensures.refused (λ memory. let is : c.is_memory.result ≡ true = c.is_memory.ensures.1 memory in true≢false (sym is ∙ c.if-is_memory.false)))
