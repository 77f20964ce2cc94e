use Rattle.std.proofs.Common.{◌≡◌, ℕ, ◌+◌, ◌<◌, length, get_or, vec_len}
use Rattle.vote_tray.specs.Passes.{PassState, new_pass}
use Rattle.vote_desks_box.specs.Desks.{DeskState, fresh_desk}
use Rattle.vote_desks.specs.Workers.{ArePromised}
use Rattle.vote_desks.proofs.work.start_all.Given as goal

-- after as many desks as there are handles, the desks and the passes that are left go on in order
abbrev pub invariant-loop-desks : goal.invariant-loop-desks
invariant-loop-desks g l = record {
  same : vec_len l.passes ≡ vec_len l.desks;
  len : vec_len l.handles + vec_len l.desks ≡ vec_len l.fn.desks;
  desks : (k index : ℕ) (any : DeskState) → k < vec_len l.desks → index ≡ vec_len l.handles + k → get_or l.desks.items k any ≡ fresh_desk (length l.workplace.lines.now) (index + 1);
  passes : (k index : ℕ) (any : PassState) → k < vec_len l.passes → index ≡ vec_len l.handles + k → get_or l.passes.items k any ≡ new_pass l.workplace.tray.now index;
  promised : ArePromised l.workplace.tray.now l.handles.items;
}

abbrev pub decreases-loop-desks : goal.decreases-loop-desks
decreases-loop-desks g l = vec_len l.desks
