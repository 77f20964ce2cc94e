use Rattle.vote_explain_ballots.proofs.Words.{◌≡◌, ◌+◌, ◌∷◌, ◌&&◌, ◌||◌, ◌∙◌, Bool, None, ap, arith, drop, drop_more, gets, nat_tests, false, true, list_any, rules, sym, is_head, is_of_ranks, refusing_at}
use Rattle.vote_explain_ballots.proofs.Ballots.{ballot_is_no_head}
use Rattle.vote_explain_ballots.proofs.BoxReplies.{replies_of_box}
use Rattle.vote_explain_ballots.specs.Tables.{has_head}
use Rattle.vote_explain_ballots.proofs.tables.has_head.Goals as goal

turn : (h r d any has all : Bool) → (h && r) ≡ false → ((h && (r || any)) || ((d && any) || has)) ≡ all → (((h || d) && any) || has) ≡ all
turn h r d any has all e i = grind (arith, nat_tests)

-- below a line of ranks a line that is no head changes nothing
skip : (h d head r any all : Bool) (has : Bool → Bool) → h ≡ false → d ≡ true → head ≡ false → ((h && (r || any)) || ((head && any) || has (d || r))) ≡ all → ((h && any) || has d) ≡ all
skip false true false r any all has eh ed en i = i
skip false true true r any all has eh ed en i = cc
skip false false head r any all has eh ed en i = cc
skip true d head r any all has eh ed en i = cc

pub loop-place-preserved : goal.loop-place-preserved
loop-place-preserved c =
    let lines = c.args.file.now.lines.now in
    let left : drop c.loop-place.place lines ≡ c.line-line.result.now ∷ drop (c.loop-place.place + 1) lines = grind (arith, drop_more, gets) in
    let seen = rw left at c.loop-place.invariant in
    let not = rw c.is_of_ranks-is_of_ranks.ensures at c.if-has_one-is_of_ranks.false in
    rw (c.in_ok-has_one.ensures, c.is_of_ranks-is_of_ranks.ensures) (turn c.loop-place.has_one (is_of_ranks c.line-line.result.now) (is_head c.args.file.now.poll.now c.loop-place.is_below c.line-line.result.now) _ _ _ not seen)

pub loop-place-preserved-then-is_none : goal.loop-place-preserved-then-is_none
loop-place-preserved-then-is_none c =
    let file = c.args.file.now in
    let lines = file.lines.now in
    let line = c.line-line.result.now in
    let place = c.loop-place.place in
    let left : drop place lines ≡ line ∷ drop (place + 1) lines = grind (arith, drop_more, gets) in
    let seen = rw left at c.loop-place.invariant in
    let told = c.refusing_at.ensures ∙ ap (λ steps. refusing_at steps place) c.steps.ensures.steps ∙ replies_of_box file.poll.now lines file.ballot_box.now c.requires.held c.requires.in_order place line c.line-line.ensures in
    let none : c.refusing_at.result ≡ None = search rules in
    let no = ballot_is_no_head c.each_line_is_read.ensures file.poll.now c.loop-place.is_below line (place + 1) (sym told ∙ none) in
    skip c.loop-place.has_one c.loop-place.is_below (is_head file.poll.now c.loop-place.is_below line) (is_of_ranks line) (list_any is_of_ranks (drop (place + 1) lines)) (has_head file.poll.now false lines) (λ d. has_head file.poll.now d (drop (place + 1) lines)) c.if-not-has_one.true c.if-is_below.true no seen
