use Rattle.std.proofs.Common.{[]}
use Rattle.vote_steps.specs.Boxes.{box_of}
use Rattle.tests_from_desks.proofs.desks.acted_at_once.Given as goal

abbrev pub ghosts-act_at_once-VL-Ledger : goal.ghosts-act_at_once-VL-Ledger
ghosts-act_at_once-VL-Ledger g a = record { name = a.valid.name; parts = a.valid.parts }

abbrev pub ghosts-act_at_once-VL-Tally : goal.ghosts-act_at_once-VL-Tally
ghosts-act_at_once-VL-Tally g a = record { desks = a.valid.parts; opened = box_of a.poll.now 100 [] }

abbrev pub ghosts-act_at_once-RL-Ledger : goal.ghosts-act_at_once-RL-Ledger
ghosts-act_at_once-RL-Ledger g a = record { name = a.refused.name; parts = a.refused.parts }

abbrev pub ghosts-act_at_once-RL-Tally : goal.ghosts-act_at_once-RL-Tally
ghosts-act_at_once-RL-Tally g a = record { desks = a.refused.parts; opened = box_of a.poll.now 100 [] }
