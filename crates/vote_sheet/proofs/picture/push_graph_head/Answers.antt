use Rattle.std.proofs.Common.{◌≡◌, ◌++◌, append_assoc, codes, string_bytes}
use Rattle.vote_poll_text.specs.Texts.{Text}
use Rattle.vote_sheet.specs.Picture.{graph_head, graph_style, quoted}
use Rattle.vote_sheet.proofs.picture.push_graph_head.Goals as goal

-- the three pieces that are written
pieces : (old title : Text) → ((old ++ codes "digraph \"") ++ quoted title) ++ codes "\" {\n  rankdir=LR;\n  node [shape=box];\n" ≡ old ++ graph_head title
unfolding graph_head graph_style
pieces old title = simp append_assoc

pub returns : goal.returns
returns c =
    rw (← pieces (string_bytes c.args.text.now) c.args.poll.now.title, ← c.title.ensures, ← c.in_ok-push_str.ensures.bytes, ← c.in_ok-push_quoted.ensures)
    c.write.ensures.bytes
