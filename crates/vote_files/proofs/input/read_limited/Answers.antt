-- Each read leaves the rest of the source and takes the next answer of its list. So after an end, a fault or a byte above the limit nothing more was asked for.
use Rattle.std.proofs.Common.{rules, ◌≡◌, ◌-◌, ◌≤◌, vec_len}
use Rattle.std.proofs.KnownBytes.{Consumes-trans}
use Rattle.vote_files.proofs.Asking.{asks_no_more, leaves_rest}
use Rattle.vote_files.proofs.input.read_limited.Goals as goal

pub returns-in_err-count-clause-no_more : goal.returns-in_err-count-clause-no_more
returns-in_err-count-clause-no_more g c =
    let before = c.loop-bytes.invariant.answers in
    asks_no_more g.R.Source.answers c.args.source.now c.loop-bytes.source c.get.new.self c.args.limit _ before.0 _ before.1 before.2 c.get.ensures.told

pub returns-then-count-eq0-clause-no_more : goal.returns-then-count-eq0-clause-no_more
returns-then-count-eq0-clause-no_more g c =
    let before = c.loop-bytes.invariant.answers in
    asks_no_more g.R.Source.answers c.args.source.now c.loop-bytes.source c.get.new.self c.args.limit _ before.0 _ before.1 before.2 c.get.ensures.told

pub returns-then-count-limit-clause-no_more : goal.returns-then-count-limit-clause-no_more
returns-then-count-limit-clause-no_more g c =
    let before = c.loop-bytes.invariant.answers in
    asks_no_more g.R.Source.answers c.args.source.now c.loop-bytes.source c.get.new.self c.args.limit _ before.0 _ before.1 before.2 c.get.ensures.told

pub returns-in_err-extend_from_slice-clause-no_more : goal.returns-in_err-extend_from_slice-clause-no_more
returns-in_err-extend_from_slice-clause-no_more g c =
    let before = c.loop-bytes.invariant.answers in
    asks_no_more g.R.Source.answers c.args.source.now c.loop-bytes.source c.get.new.self c.args.limit _ before.0 _ before.1 before.2 c.get.ensures.told

pub loop-bytes-preserved : goal.loop-bytes-preserved
loop-bytes-preserved g c =
    let before = c.loop-bytes.invariant.answers in
    let room = c.args.limit - vec_len c.loop-bytes.bytes in
    let some : 1 ≤ c.in_ok-count.count = search rules in
    let fits : c.in_ok-count.count ≤ room = search rules in
    let rest : room - c.in_ok-count.count ≡ c.args.limit - vec_len c.extend_from_slice.new.self = search rules in
    record {
      within = search rules;
      front = search (rules, Consumes-trans);
      faults = search rules;
      reads = search rules;
      answers = leaves_rest g.R.Source.answers c.args.source.now c.loop-bytes.source c.get.new.self c.args.limit room before.0 _ _ before.1 before.2 some fits rest c.in_ok-count.ensures.told;
    }

pub returns-then-count-limit-clause-whole : goal.returns-then-count-limit-clause-whole
returns-then-count-limit-clause-whole g c = search rules

pub returns-then-count-limit-clause-within : goal.returns-then-count-limit-clause-within
returns-then-count-limit-clause-within g c = search rules

pub returns-then-count-limit-clause-device : goal.returns-then-count-limit-clause-device
returns-then-count-limit-clause-device g c = search rules
