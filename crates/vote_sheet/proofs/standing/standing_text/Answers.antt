-- The text so far, and the lines of the voters that are left, are the whole text. The next voter's ballot is the last valid one of the lines, by the law `last_lines_stand`.
use Rattle.std.proofs.Common.{◌≡◌, ℕ, ◌+◌, ◌++◌, [], None, append_assoc, ap, drop, get_or, subst, sym, ◌∙◌, arith, string_bytes, take}
use mathlib.Core.List.{append-nil}
use Rattle.std.proofs.lemmas.List.{drop_all}
use Rattle.std.proofs.lemmas.List.FromFn.{get_or-map-range_with_len, length-map-range_with_len}
use Rattle.vote_poll_text.specs.Lines.{text_of_lines}
use Rattle.vote_poll.specs.PollContent.{elector_count}
use Rattle.vote_poll.specs.Readings.{readings}
use Rattle.vote_count.specs.Ballots.{IsBallotOf}
use Rattle.vote_steps.specs.Recasts.{last_ballot}
use Rattle.vote_steps.specs.LastBallots.{last_valid_ballots, readings_in_time}
use Rattle.vote_sheet.specs.Standing.{ballot_line, ballot_lines}
use Rattle.vote_sheet.proofs.BallotTexts.{one_ballot_more}
use Rattle.vote_sheet.proofs.standing.standing_text.Goals as goal

pub push_ballot-requires-clause-ballot : goal.push_ballot-requires-clause-ballot
push_ballot-requires-clause-ballot c = let P : ℕ → Type 0 = λ n. IsBallotOf n c.standing.result in subst P c.in_ok-ballot_box.ensures.held.sizes.0 c.standing.ensures.fits

pub loop-voter-preserved : goal.loop-voter-preserved
loop-voter-preserved c =
    let poll = c.args.poll.now in
    let lines = c.args.lines.now in
    let k = c.loop-voter.voter in
    let box = c.in_ok-ballot_box.ballot_box in
    let ballots = last_valid_ballots poll lines in
    let held = c.in_ok-ballot_box.ensures.held in
    let within = c.loop-voter-test.true in
    let stands : c.standing.result ≡ get_or ballots k None =
    c.standing.ensures.ranks ∙ c.last_lines_stand.ensures poll lines box k held
    ∙ ap (λ n. last_ballot (take n (readings poll lines)) k) held.sizes.3
    ∙ sym (get_or-map-range_with_len (last_ballot (readings_in_time poll lines)) 0 (elector_count poll) k k None (omega arith) (omega arith)) in
    let rest = text_of_lines (ballot_lines (drop (k + 1) poll.roll) (drop (k + 1) ballots)) in
    let long = length-map-range_with_len (last_ballot (readings_in_time poll lines)) 0 (elector_count poll) in
    ap (λ t. t ++ rest) c.in_ok-push_ballot.ensures
    ∙ append_assoc (string_bytes c.loop-voter.text) (text_of_lines (ballot_line (get_or poll.roll k []) c.standing.result)) rest
    ∙ ap (λ b. string_bytes c.loop-voter.text ++ (text_of_lines (ballot_line (get_or poll.roll k []) b) ++ rest)) stands
    ∙ ap (λ t. string_bytes c.loop-voter.text ++ t) (sym (one_ballot_more poll.roll ballots k (omega arith) (omega (arith, long))))
    ∙ c.loop-voter.invariant

pub returns : goal.returns
returns c =
    let all : drop c.loop-voter.voter c.args.poll.now.roll ≡ [] = drop_all c.loop-voter.voter c.args.poll.now.roll (omega arith) in
    sym (append-nil (string_bytes c.loop-voter.text)) ∙ (rw all at c.loop-voter.invariant)
