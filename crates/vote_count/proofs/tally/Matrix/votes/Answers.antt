use Rattle.std.proofs.Common.{sym, ap, ◌∙◌}
use Rattle.vote_count.specs.Votes.{Votes, votes}
use Rattle.vote_count.proofs.Cells.{votes_at}
use Rattle.vote_count.proofs.tally.Matrix.votes.Goals as goal

pub returns : goal.returns
returns c =
    let whole : Votes = record { options = c.self.inside.options; rows = c.self.inside.counts } in
    sym (votes_at whole c.args.a c.args.b c.requires.a.0 c.requires.b.0) ∙ ap (λ (m : Votes). votes m c.args.a c.args.b) c.self.view_is
