-- What a close leaves unchanged.
use Rattle.std.proofs.Common.{◌≡◌, Result, Ok, Err, OnOk, OnErr, ap}
use Rattle.vote_steps.specs.History.{valid, refused}
use Rattle.vote_steps.specs.Boxes.{BoxState}

-- a count that stays if the close succeeds also stays if the box was closed before
pub valid_kept : {A E : Type 0} (r : Result A E) (old new : BoxState) → OnOk r (valid new.last_in_time new.steps ≡ valid old.last_in_time old.steps) → OnErr r (new ≡ old)
    → valid new.last_in_time new.steps ≡ valid old.last_in_time old.steps
valid_kept (Ok x) old new ok err = ok
valid_kept (Err e) old new ok err = ap (λ (b : BoxState). valid b.last_in_time b.steps) err

pub refused_kept : {A E : Type 0} (r : Result A E) (old new : BoxState) → OnOk r (refused new.last_in_time new.steps ≡ refused old.last_in_time old.steps) → OnErr r (new ≡ old)
    → refused new.last_in_time new.steps ≡ refused old.last_in_time old.steps
refused_kept (Ok x) old new ok err = ok
refused_kept (Err e) old new ok err = ap (λ (b : BoxState). refused b.last_in_time b.steps) err
