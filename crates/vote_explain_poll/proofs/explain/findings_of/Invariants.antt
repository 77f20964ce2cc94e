use Rattle.vote_explain_poll.proofs.Words.{string_bytes, take, table_view, Adding, AreLinesFor, SaysFault, SaysKey}
use Rattle.vote_poll_keys.specs.FoundView.{found_view}
use Rattle.vote_explain_poll.specs.Findings.{size_of_roll}
use Rattle.vote_explain_poll.proofs.explain.findings_of.Given as goal

abbrev pub invariant-loop-fault : goal.invariant-loop-fault
invariant-loop-fault l = Adding (AreLinesFor (SaysFault (size_of_roll (found_view l.hints.keys.now))) (take l.fault-index l.faults)) (string_bytes l.initial.findings) (string_bytes l.findings)

abbrev pub invariant-loop-key : goal.invariant-loop-key
invariant-loop-key l = Adding (AreLinesFor (SaysKey (table_view l.hints.file.now)) (take l.key-index l.key-items)) (string_bytes l.initial.findings) (string_bytes l.findings)
