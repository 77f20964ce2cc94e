use Rattle.std.proofs.Common.{ap, Ok, sym, ◌∙◌}
use Rattle.vote_poll_keys.specs.FoundView.{found_view}
use Rattle.vote_poll.proofs.PollFaultsLaws.{fails_first, is_poll, nothing_wrong}
use Rattle.vote_poll.proofs.poll.Poll.unless_faulty.Goals as goal

pub returns-in-Some : goal.returns-in-Some
returns-in-Some c = λ table judged. fails_first table (found_view c.args.keys.now) c.args.faults.now c.in-Some.fault.now judged (sym c.in-Some.ensures.value)

pub of_keys-requires : goal.of_keys-requires
of_keys-requires c = (c.requires.0, nothing_wrong c.requires.0 (found_view c.args.keys.now) c.args.faults.now c.requires.1 (sym c.in-None.ensures.value))

pub returns-in_ok-of_keys-in-None : goal.returns-in_ok-of_keys-in-None
returns-in_ok-of_keys-in-None c = λ table judged.
    let keys = found_view c.args.keys.now in
    is_poll table keys (nothing_wrong table keys c.args.faults.now judged (sym c.in-None.ensures.value)) ∙ ap Ok (sym c.in_ok-of_keys-in-None.ensures)
