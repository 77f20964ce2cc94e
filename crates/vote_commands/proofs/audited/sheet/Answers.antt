use Rattle.vote_commands.proofs.HeldLines.{audited_holds}
use Rattle.vote_commands.proofs.audited.sheet.Goals as goal

pub sheet_of_box-requires-clause-held : goal.sheet_of_box-requires-clause-held
sheet_of_box-requires-clause-held c =
    audited_holds c.args.poll.now c.args.lines.now c.ballot_box.result.now c.args.audited.now.ballot_box c.args.audited.now.slips_by_desk c.ballot_box.ensures c.requires.audited

pub returns : goal.returns
returns c = let printed = c.in_ok-text.ensures in (_, printed.1, printed.2)
