use Rattle.std.proofs.Common.{subst, arith}
use Rattle.std.proofs.lemmas.Grind.{common_steps, elements, moves, pieces}
use Rattle.std.specs.Prelude.{MatchOption}
use Rattle.vote_audit.specs.Audit.{HasOwnReadings, DiffersFirst}
use Rattle.vote_audit.proofs.StretchLemmas.{own_in_both, differs_in_back}
use Rattle.vote_audit.proofs.auditing.+stretches.Goals as goal

pub returns-in-None-Some : goal.returns-in-None-Some
returns-in-None-Some g t c =
    let poll = c.args.poll.now in
    let lines = c.args.lines.now in
    let front = c.split_at.result.0.now in
    let back = c.split_at.result.1.now in
    let own : HasOwnReadings poll lines front = subst (λ r. MatchOption r (HasOwnReadings poll lines front) (DiffersFirst poll lines front)) c.in-None-Some.is-0 c.join-first.ensures.first in
    let other : DiffersFirst poll lines back c.in-None-Some.number = subst (λ r. MatchOption r (HasOwnReadings poll lines back) (DiffersFirst poll lines back)) c.in-None-Some.is-1 c.join-first.ensures.second in
    differs_in_back poll lines c.args.steps.now front back c.in-None-Some.number c.split_at.ensures.by_index.0 own other

pub returns-in-None-None : goal.returns-in-None-None
returns-in-None-None g t c =
    let poll = c.args.poll.now in
    let lines = c.args.lines.now in
    let front = c.split_at.result.0.now in
    let back = c.split_at.result.1.now in
    let own : HasOwnReadings poll lines front = subst (λ r. MatchOption r (HasOwnReadings poll lines front) (DiffersFirst poll lines front)) c.in-None-None.is-0 c.join-first.ensures.first in
    let others : HasOwnReadings poll lines back = subst (λ r. MatchOption r (HasOwnReadings poll lines back) (DiffersFirst poll lines back)) c.in-None-None.is-1 c.join-first.ensures.second in
    own_in_both poll lines c.args.steps.now front back c.split_at.ensures.by_index.0 own others

pub returns-in-Some-default : goal.returns-in-Some-default
returns-in-Some-default g t c = grind (arith, common_steps, elements, moves, pieces)
