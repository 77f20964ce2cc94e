use Rattle.vote_explain_ballots.proofs.Words.{◌≡◌, drop, list_any, is_title}
use Rattle.vote_explain_ballots.proofs.whole_file.has_title.Given as goal

abbrev pub invariant-loop-place : goal.invariant-loop-place
invariant-loop-place l = list_any is_title (drop l.place l.lines) ≡ list_any is_title l.lines
