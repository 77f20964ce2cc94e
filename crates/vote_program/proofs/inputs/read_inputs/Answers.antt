use Rattle.std.proofs.Common.{◌∙◌}
use Rattle.vote_request.specs.Requests.{ballot_file, poll_file, sheet_file}
use Rattle.vote_program.proofs.Readings.{ballots_unread, poll_unread, sheet_unread}
use Rattle.vote_program.proofs.inputs.read_inputs.Goals as goal

pub returns-in-Err-clause-fault : goal.returns-in-Err-clause-fault
returns-in-Err-clause-fault g c =
    let request = c.args.request.now in
    poll_unread g.S.Sources.file_readings _ _ c.args.files.now c.read_named.new.files (poll_file request).now (ballot_file request) (sheet_file request)
    (rw c.poll.ensures at c.in-Err.ensures.fault)

pub returns-in-Err-read_if_named-clause-fault : goal.returns-in-Err-read_if_named-clause-fault
returns-in-Err-read_if_named-clause-fault g c =
    let request = c.args.request.now in
    ballots_unread g.S.Sources.file_readings _ _ c.args.files.now c.read_named.new.files c.read_if_named.new.files
    (poll_file request).now _ (ballot_file request) (sheet_file request) _ c.in-Ok.ensures.kept
    (rw c.poll.ensures at c.in-Ok.ensures.whole)
    (rw c.poll.ensures at c.in-Ok.ensures.read) (rw c.ballots.ensures at c.in-Err-read_if_named.ensures.fault)

pub returns-in-Err-read_if_named-2-clause-fault : goal.returns-in-Err-read_if_named-2-clause-fault
returns-in-Err-read_if_named-2-clause-fault g c =
    let request = c.args.request.now in
    sheet_unread g.S.Sources.file_readings _ _ c.args.files.now c.read_named.new.files c.read_if_named.new.files c.read_if_named-2.new.files
    (poll_file request).now _ _ (ballot_file request) (sheet_file request) _ _ c.in-Ok.ensures.kept (c.in-Ok-read_if_named.ensures.kept ∙ c.in-Ok.ensures.kept)
    (rw c.poll.ensures at c.in-Ok.ensures.whole) (rw c.ballots.ensures at c.in-Ok-read_if_named.ensures.whole)
    (rw c.poll.ensures at c.in-Ok.ensures.read) (rw c.ballots.ensures at c.in-Ok-read_if_named.ensures.read)
    (rw c.sheet.ensures at c.in-Err-read_if_named-2.ensures.fault)
