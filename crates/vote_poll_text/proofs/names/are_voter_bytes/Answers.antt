use Rattle.std.proofs.Common.{◌∙◌, ap, sym}
use Rattle.std.specs.List.{list_all}
use Rattle.std.proofs.lemmas.List.{take_all}
use Rattle.std.proofs.lemmas.List.Folds.{list_all_at, list_all_more}
use Rattle.vote_poll_text.specs.Names.{is_voter_byte}
use Rattle.vote_poll_text.proofs.names.are_voter_bytes.Goals as goal

pub returns-then-not-is_voter_byte : goal.returns-then-not-is_voter_byte
returns-then-not-is_voter_byte c = sym (list_all_at is_voter_byte c.args.text.now c.loop-byte.byte-index 0 c.loop-byte-test.true (sym c.is_voter_byte.ensures ∙ c.if-not-is_voter_byte.true))

pub loop-byte-preserved : goal.loop-byte-preserved
loop-byte-preserved c =
    list_all_more is_voter_byte c.args.text.now c.loop-byte.byte-index 0 c.loop-byte-test.true ∙ rw (c.loop-byte.invariant, ← c.is_voter_byte.ensures, c.if-not-is_voter_byte.false)

pub returns : goal.returns
returns c = sym (ap (list_all is_voter_byte) (sym (take_all c.loop-byte.byte-index c.args.text.now c.loop-byte-test.false)) ∙ c.loop-byte.invariant)
