use Rattle.std.proofs.Common.{◌≡◌, ◌++◌, ◌∷◌, ◌∙◌, [], false, map, take, ap, arith, string_bytes}
use Rattle.std.specs.List.{list_any}
use Rattle.std.specs.Str.{bytes_eq}
use Rattle.std.specs.String.{string_eq}
use Rattle.std.proofs.lemmas.List.{length-map, map-append, take_all}
use Rattle.vote_poll_text.specs.Names.{is_voter_name}
use Rattle.vote_poll.proofs.FirstBad.{copied_more, first_bad_new, list_any-strings, name_here, now}
use Rattle.vote_poll.proofs.poll_file.roll_of.Goals as goal

pub loop-name-preserved : goal.loop-name-preserved
loop-name-preserved c =
    let names = c.args.names.now in
    let i = c.loop-name.name-index in
    let voter = c.in_ok-from_str.field-0 in
    let new : list_any (string_eq voter) c.loop-name.roll.keys ≡ false =
    list_any-strings (bytes_eq (string_bytes voter)) c.loop-name.roll.keys
    ∙ ap (λ keys. list_any (bytes_eq (string_bytes voter)) keys) c.loop-name.invariant
    ∙ ap (λ name. list_any (bytes_eq name) (take i (map now names))) (c.in_ok-from_str.ensures.ok ∙ name_here names i c.loop-name-test.true)
    ∙ first_bad_new is_voter_name (map now names) c.requires i (omega (arith, length-map names now, c.loop-name-test.true)) in
    let keys : c.insert.new.self.keys ≡ c.loop-name.roll.keys ++ voter ∷ [] = c.in_ok-insert.ensures.keys ∙ rw new in
    rw (keys, map-append, c.in_ok-from_str.ensures.ok) (copied_more names i (map string_bytes c.loop-name.roll.keys) c.loop-name-test.true c.loop-name.invariant)

pub returns : goal.returns
returns c = c.loop-name.invariant ∙ take_all c.loop-name.name-index (map now c.args.names.now) (omega (arith, length-map c.args.names.now now, c.loop-name-test.false))
