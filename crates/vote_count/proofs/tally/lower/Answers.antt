use Rattle.std.proofs.Common.{nat_lt, get_or, inl, inr, arith}
use Rattle.std.proofs.lemmas.Bool.{cases_Bool, ltb-true}
use Rattle.vote_count.proofs.tally.lower.Goals as goal

pub overflow_sub-row : goal.overflow_sub-row
overflow_sub-row c =
    let option = c.loop-option.option in
    let same = c.loop-option.invariant.waiting option (omega arith) in
    elim (cases_Bool (nat_lt c.args.key (get_or c.args.keys.now option 0))) [
      | inl behind ↦ let one = rw behind at c.from.ensures in let room = c.requires.some option (omega arith) (ltb-true _ _ behind) in omega arith
      | inr not_behind ↦ let none = rw not_behind at c.from.ensures in omega arith
    ]
