-- Requests on files. A file is known by its name or by its bytes.
use Rattle.std.specs.Prelude.{◌≤◌, Option, Some, None, option_map}
use Rattle.vote_request.specs.declared.TheConstants.{MAX_DESKS}
use Rattle.vote_request.specs.declared.request.Purpose.{Purpose}
use Rattle.vote_request.specs.declared.request.Purpose.TheVariants as purpose
use Rattle.vote_request.specs.declared.request.Request.{Request}
use Rattle.vote_request.specs.declared.request.Request.TheVariants as request

-- the number of desks of a count is in range
abbrev pub DesksFit : {T : Type 0} → Request T → Type 0
DesksFit (request.Count poll ballots desks casting made_for) = (1 ≤ desks) × (desks ≤ MAX_DESKS)
DesksFit other = Unit {0}

-- the poll file
abbrev pub poll_file : {T : Type 0} → Request T → T
poll_file (request.Count poll ballots desks casting made_for) = poll
poll_file (request.List poll ballots listed) = poll
poll_file (request.Check poll) = poll
poll_file (request.Explain poll ballots file poll_name) = poll

-- the ballot file, if there is one
abbrev pub ballot_file : {T : Type 0} → Request T → Option T
ballot_file (request.Count poll ballots desks casting made_for) = Some ballots
ballot_file (request.List poll ballots listed) = Some ballots
ballot_file (request.Check poll) = None
ballot_file (request.Explain poll ballots file poll_name) = ballots

-- the published sheet, if one is compared
abbrev pub sheet_file : {T : Type 0} → Request T → Option T
sheet_file (request.Count poll ballots desks casting (purpose.Verification sheet)) = Some sheet
sheet_file other = None

-- the same purpose; if a sheet is compared, with this sheet instead
abbrev pub purpose_on : {T U : Type 0} → Purpose T → U → Purpose U
purpose_on purpose.Sheet sheet = purpose.Sheet
purpose_on purpose.Picture sheet = purpose.Picture
purpose_on (purpose.Verification other) sheet = purpose.Verification sheet

-- the same request on these files
abbrev pub request_on : {T U : Type 0} → Request T → U → U → U → Request U
request_on (request.Count old_poll old_ballots desks casting made_for) poll ballots sheet = request.Count poll ballots desks casting (purpose_on made_for sheet)
request_on (request.List old_poll old_ballots listed) poll ballots sheet = request.List poll ballots listed
request_on (request.Check old_poll) poll ballots sheet = request.Check poll
request_on (request.Explain old_poll given file poll_name) poll ballots sheet = request.Explain poll (option_map (λ name. ballots) given) file poll_name
