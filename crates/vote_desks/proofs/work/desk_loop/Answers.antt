use Rattle.std.proofs.Common.{replicate, rules, arith}
use Rattle.std.proofs.lemmas.Grind.{common_steps, elements, moves, pieces}
use Rattle.std.specs.List.{All}
use Rattle.std.proofs.lemmas.List.Elements.{All-replicate}
use Rattle.vote_poll.specs.declared.reading.Reading.TheVariants.{Bad}
use Rattle.vote_poll.specs.declared.reading.LineFault.TheVariants.{Shape}
use Rattle.vote_desks.specs.declared.batch.TheConstants.{BATCH}
use Rattle.vote_desks_box.specs.Desks.{FitsBox}
use Rattle.vote_desks.proofs.work.desk_loop.Goals as goal

pub loop-stamps-init : goal.loop-stamps-init
loop-stamps-init g c =
    let fit : All (FitsBox c.args.workplace.now.shared.now.opened) (replicate BATCH (Bad Shape)) = All-replicate (FitsBox c.args.workplace.now.shared.now.opened) BATCH (Bad Shape) tt in
    search rules
