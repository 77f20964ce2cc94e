use Rattle.vote_explain_poll.proofs.Words.{refl, sym, table_view, SaysKey}
use Rattle.vote_hints.proofs.Lines.{one_more}
use Rattle.vote_explain_poll.proofs.explain.findings_of.Goals as goal

pub loop-fault-preserved : goal.loop-fault-preserved
loop-fault-preserved c = one_more _ c.args.faults.now c.loop-fault.fault-index _ _ _ _ _ c.loop-fault-test.true refl c.loop-fault.invariant c.in_ok-push_fault_line.ensures

pub loop-key-preserved : goal.loop-key-preserved
loop-key-preserved c =
    one_more (SaysKey (table_view c.in_ok-hints.hints.file.now)) c.deref-key-items.result.now c.loop-key.key-index c.key-item.result c.key-item.result _ _ _ c.loop-key-test.true (sym c.key-item.is) c.loop-key.invariant
    c.in_ok-push_key_line.ensures
