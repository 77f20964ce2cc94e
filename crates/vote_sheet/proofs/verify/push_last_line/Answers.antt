use Rattle.vote_sheet.proofs.Winners.{final_is_option}
use Rattle.vote_sheet.proofs.verify.push_last_line.Goals as goal

pub push_decision-requires : goal.push_decision-requires
push_decision-requires c o wins = final_is_option c.args.poll.now c.args.count.now c.requires o (c.decide-decision.ensures.winner o wins)
