-- What the fault line says if the votes are not taken.
use Rattle.std.specs.Prelude.{ℕ, ◌++◌, List, codes, decimal}
use Rattle.vote_desks_box.specs.declared.fault.DeskFault.TheVariants as gathering
use Rattle.vote_audit.specs.declared.fault.VoteFault.{VoteFault}
use Rattle.vote_audit.specs.declared.fault.VoteFault.TheVariants.{Memory, Thread, Gate, Enter, Desk, Audit}

-- the words of each fault
abbrev pub fault_words : VoteFault → List ℕ
fault_words Memory = codes "out of memory"
fault_words Thread = codes "a desk could not be started"
fault_words (Gate desk) = codes "desk " ++ decimal desk ++ codes " stopped at its gate"
fault_words (Enter desk fault) = codes "desk " ++ decimal desk ++ codes " was refused by the box"
fault_words (Desk gathering.MissingDesk) = codes "the desks could not be gathered"
fault_words (Desk gathering.Memory) = codes "out of memory"
fault_words (Audit fault) = codes "audit failed"
