use Rattle.std.proofs.Common.{◌≡◌, ℕ, ◌+◌, ◌<◌, None, length, get_or, vec_len}
use Rattle.std.specs.List.{All}
use Rattle.std.specs.Vec.Iter.{into_iter_items}
use Rattle.vote_desks.specs.Back.{AreHandedIn}
use Rattle.vote_desks.specs.Workers.{IsWorkerAt}
use Rattle.vote_desks.proofs.votes.hand_in.Given as goal

-- after as many desks as are handed in, the results that are left go on in order
abbrev pub invariant-loop-desk : goal.invariant-loop-desk
invariant-loop-desk g l =
    let rest = into_iter_items l.all in
    record {
      few : vec_len l.desks + length rest ≡ l.tray.passes;
      back : (k index : ℕ) (any : _) → k < length rest → index ≡ vec_len l.desks + k → IsWorkerAt l.tray index (get_or rest k any).desk.number (get_or rest k any).pass;
      done : All (λ worked. worked.stopped ≡ None) rest;
      so_far : AreHandedIn l.tray (vec_len l.desks) l.desks.items l.joined;
    }

abbrev pub decreases-loop-desk : goal.decreases-loop-desk
decreases-loop-desk g l = length (into_iter_items l.all)
