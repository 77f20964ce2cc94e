use Rattle.vote_desks_box.proofs.entry.cast_and_note.Goals as goal

pub invariant_of-held-in-Err-StampUsed : goal.invariant_of-held-in-Err-StampUsed
invariant_of-held-in-Err-StampUsed g c = rw c.in-Err-StampUsed.ensures.err c.held.invariant
