-- Faults that are appended to a list, one part after another.
use Rattle.std.proofs.Common.{◌≡◌, ◌++◌, ◌∙◌, List, Bool, Result, Ok, Err, OnOk, ap, append_assoc}
use Rattle.vote_poll_keys.specs.KeyFaults.{fault_unless}
use Rattle.vote_poll_keys.specs.declared.fault.PollFault.{PollFault}

-- the fault was judged, and appended if there is one
pub judged : (right : Bool) (e : PollFault) (faults before after : List PollFault) → fault_unless right e ≡ faults → after ≡ before ++ fault_unless right e → after ≡ before ++ faults
judged right e faults before after is added = added ∙ ap (λ es. before ++ es) is

pub add_then : (xs ys before between after : List PollFault) → between ≡ before ++ xs → after ≡ between ++ ys → after ≡ before ++ (xs ++ ys)
add_then xs ys before between after first more = more ∙ ap (λ es. es ++ ys) first ∙ append_assoc before xs ys

pub on_last : {X E : Type 0} (r : Result X E) (right : Bool) (e : PollFault) (xs faults before between after : List PollFault) → between ≡ before ++ xs → fault_unless right e ≡ faults
    → OnOk r (after ≡ between ++ fault_unless right e) → OnOk r (after ≡ before ++ (xs ++ faults))
on_last (Ok x) right e xs faults before between after first is added = add_then xs faults before between after first (judged right e faults between after is added)
on_last (Err x) right e xs faults before between after first is added = tt
