use Rattle.std.proofs.Common.{[]}
use Rattle.vote_steps.specs.Boxes.{box_of}
use Rattle.tests_from_desks.proofs.desks.acted.Given as goal

abbrev pub ghosts-act-VL-Ledger : goal.ghosts-act-VL-Ledger
ghosts-act-VL-Ledger g a = record { name = a.valid.name; parts = a.valid.parts }

abbrev pub ghosts-act-VL-Tally : goal.ghosts-act-VL-Tally
ghosts-act-VL-Tally g a = record { desks = a.valid.parts; opened = box_of a.poll.now 2 [] }

abbrev pub ghosts-act-RL-Ledger : goal.ghosts-act-RL-Ledger
ghosts-act-RL-Ledger g a = record { name = a.refused.name; parts = a.refused.parts }

abbrev pub ghosts-act-RL-Tally : goal.ghosts-act-RL-Tally
ghosts-act-RL-Tally g a = record { desks = a.refused.parts; opened = box_of a.poll.now 2 [] }
