use Rattle.std.proofs.Common.{◌==◌, ◌∷◌, ◌+◌, take, ap, sym, ◌∙◌, length, arith}
use Rattle.std.specs.List.{slice_split}
use Rattle.std.proofs.lemmas.List.{take_rest, length-drop}
use Rattle.vote_poll_text.proofs.LinesLaws.{feed-found, feed-none}
use Rattle.vote_poll_text.proofs.lines.split_at_feed.Goals as goal

pub returns : goal.returns
returns c =
    let text = c.args.text.now in
    let end = c.in_ok-end.end in
    let first = c.in_ok-end.ensures in
    let after = take_rest c.args.text.now (c.in_ok-end.end + 1) in
    record {
      found = feed-found text end first.0.high first.0.before first.1 ∙ ap (λ rest. take end text ∷ slice_split (λ byte. byte == 10) rest) (sym after);
      shorter = omega (arith, ap length after, length-drop (c.in_ok-end.end + 1) c.args.text.now, first.0.high);
      none = tt;
    }

pub returns-in_err-end-clause-none : goal.returns-in_err-end-clause-none
returns-in_err-end-clause-none c = rw (c.from_residual.ensures) (feed-none c.args.text.now c.in_err-end.ensures)
