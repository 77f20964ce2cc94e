use Rattle.std.proofs.Common.{[]}
use Rattle.vote_steps.specs.Boxes.{box_of}
use Rattle.tests_from_desks.proofs.desks.numbers_of_two.Given as goal

abbrev pub ghosts-open_two-VL-Ledger : goal.ghosts-open_two-VL-Ledger
ghosts-open_two-VL-Ledger g a = record { name = a.valid.name; parts = a.valid.parts }

abbrev pub ghosts-open_two-VL-Tally : goal.ghosts-open_two-VL-Tally
ghosts-open_two-VL-Tally g a = record { desks = a.valid.parts; opened = box_of a.poll.now 2 [] }

abbrev pub ghosts-open_two-RL-Ledger : goal.ghosts-open_two-RL-Ledger
ghosts-open_two-RL-Ledger g a = record { name = a.refused.name; parts = a.refused.parts }

abbrev pub ghosts-open_two-RL-Tally : goal.ghosts-open_two-RL-Tally
ghosts-open_two-RL-Tally g a = record { desks = a.refused.parts; opened = box_of a.poll.now 2 [] }
