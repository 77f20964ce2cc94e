-- What two stretches of the steps say about all steps.
use Rattle.std.proofs.Common.{◌≡◌, ℕ, ◌+◌, List, ◌∷◌, ◌++◌, length, sym, ap, ◌∙◌, subst, append_assoc, arith}
use Rattle.std.proofs.lemmas.List.Elements.{All-append}
use Rattle.std.proofs.lemmas.List.{length-append}
use Rattle.vote_poll.specs.PollContent.{PollContent}
use Rattle.vote_poll.specs.Readings.{readings}
use Rattle.vote_steps.specs.declared.Step.{Step}
use Rattle.vote_steps.specs.Recasts.{HasOwnReading}
use Rattle.vote_audit.specs.Audit.{HasOwnReadings, DiffersFirst}

pub own_in_both : (poll : PollContent) (lines : List (List ℕ)) (steps front back : List Step) → steps ≡ front ++ back
    → HasOwnReadings poll lines front → HasOwnReadings poll lines back → HasOwnReadings poll lines steps
own_in_both poll lines steps front back whole f b =
    subst (HasOwnReadings poll lines) (sym whole) (All-append (HasOwnReading (readings poll lines)) front back f b)

pub differs_in_back : (poll : PollContent) (lines : List (List ℕ)) (steps front back : List Step) (number : ℕ) → steps ≡ front ++ back
    → HasOwnReadings poll lines front → DiffersFirst poll lines back number → DiffersFirst poll lines steps (number + length front)
differs_in_back poll lines steps front back number whole f h =
    record {
      before = front ++ h.before;
      step = h.step;
      after = h.after;
      here = whole ∙ ap (λ xs. front ++ xs) h.here ∙ sym (append_assoc front h.before (h.step ∷ h.after));
      number_is = (let len = length-append front h.before in let is = h.number_is in omega arith);
      so_far = All-append (HasOwnReading (readings poll lines)) front h.before f h.so_far;
      differs = h.differs;
    }
