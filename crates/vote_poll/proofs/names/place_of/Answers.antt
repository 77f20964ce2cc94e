use Rattle.std.proofs.Common.{◌≡◌, ◌∙◌, ℕ, List, Bool, String, Global, ap, sym, string_bytes}
use Rattle.std.specs.Str.{bytes_eq}
use Rattle.vote_poll.proofs.FirstFound.{found-at, found-nowhere, none-more}
use Rattle.vote_poll.proofs.names.place_of.Goals as goal

abbrev is_name : List ℕ → String Global → Bool
is_name name option = bytes_eq name (string_bytes option)

-- the test of an option is the test of its bytes
same_test : (name bytes : List ℕ) (option there : String Global) (equal b : Bool) → option ≡ there → bytes ≡ string_bytes option → equal ≡ bytes_eq name bytes → equal ≡ b → is_name name there ≡ b
same_test name bytes option there equal b at read told is = ap (is_name name) (sym at) ∙ ap (bytes_eq name) (sym read) ∙ sym told ∙ is

pub returns-then-eq : goal.returns-then-eq
returns-then-eq c =
    sym (found-at (is_name c.args.name.now) c.args.options.now c.loop-place.place c.index-options-place.result c.loop-place-test.true c.loop-place.invariant
    (same_test c.args.name.now _ c.index-options-place.result _ c.eq.result _ c.index-options-place.is c.as_bytes.ensures.value c.eq.ensures c.if-eq.true))

pub loop-place-preserved : goal.loop-place-preserved
loop-place-preserved c =
    none-more (is_name c.args.name.now) c.args.options.now c.loop-place.place c.index-options-place.result c.loop-place-test.true c.loop-place.invariant
    (same_test c.args.name.now _ c.index-options-place.result _ c.eq.result _ c.index-options-place.is c.as_bytes.ensures.value c.eq.ensures c.if-eq.false)

pub returns : goal.returns
returns c = sym (found-nowhere (is_name c.args.name.now) c.args.options.now c.loop-place.place c.loop-place-test.false c.loop-place.invariant)
