use Rattle.std.proofs.Common.{◌≡◌, ◌==◌, ◌∷◌, ◌∙◌, [], ℕ, List, false, length, get_or, cond, refl, ap, sym, arith}
use Rattle.std.proofs.lemmas.Bool.{ne_eqb}
use Rattle.vote_poll.specs.Readings.{rank_in}
use Rattle.vote_poll.proofs.reading.parse_rank.Goals as goal

one_byte : (text : List ℕ) → length text ≡ 1 → text ≡ get_or text 0 0 ∷ []
one_byte [] one = absurd (omega arith)
one_byte (a ∷ []) one = refl
one_byte (a ∷ b ∷ rest) one = absurd (omega arith)

two_bytes : (text : List ℕ) → length text ≡ 2 → text ≡ get_or text 0 0 ∷ get_or text 1 0 ∷ []
two_bytes [] two = absurd (omega arith)
two_bytes (a ∷ []) two = absurd (omega arith)
two_bytes (a ∷ b ∷ []) two = refl
two_bytes (a ∷ b ∷ c ∷ rest) two = absurd (omega arith)

pub returns-then-text-eq1 : goal.returns-then-text-eq1
returns-then-text-eq1 c = c.spelled_key.ensures ∙ ap rank_in (sym (one_byte c.args.text.now c.if-text-eq1.true))

pub returns : goal.returns
returns c =
    let second : (get_or c.args.text.now 1 0 == 44) ≡ false = ne_eqb _ 44 c.if-text-eq44.false in
    c.spelled_key-2.ensures ∙ ap (λ t. rank_in (cond t (get_or c.args.text.now 0 0 ∷ []) (get_or c.args.text.now 0 0 ∷ get_or c.args.text.now 1 0 ∷ []))) second
    ∙ ap rank_in (sym (two_bytes c.args.text.now c.if-text-ne2.false))
