-- The counts of a box.
use Rattle.vote_steps.specs.Boxes.{BoxState, refused_in, valid_in, voters_in}
use Rattle.vote_steps.specs.declared.ballot_box.Totals.{Totals}

abbrev pub totals_of : BoxState → Totals
totals_of b = record { valid = valid_in b; refused = refused_in b; voters = voters_in b }
