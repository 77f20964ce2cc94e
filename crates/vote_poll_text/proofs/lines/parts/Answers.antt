use Rattle.std.proofs.Common.{ℕ, List, [], ◌∷◌, ◌++◌, map, Bor, ap, sym, ◌∙◌}
use Rattle.vote_poll_text.proofs.LinesLaws.{more-parts}
use Rattle.std.proofs.lemmas.List.{map-append}
use Rattle.vote_poll_text.proofs.lines.parts.Goals as goal

abbrev now : Bor (List ℕ) → List ℕ
now part = part.now

pub loop-part-preserved : goal.loop-part-preserved
loop-part-preserved c =
    rw (c.in_ok-push.ensures.items)
    (more-parts now c.loop-part.parts.items c.in-Some.part c.loop-part.rest.now c.in-Some.after.now c.args.text.now c.loop-part.invariant c.in-Some.ensures.found)

pub returns : goal.returns
returns c =
    ap (map now) c.in_ok-push-2.ensures.items ∙ map-append now c.loop-part.parts.items (c.loop-part.rest ∷ [])
    ∙ ap (λ xs. map now c.loop-part.parts.items ++ xs) (sym c.in_default.ensures.none) ∙ c.loop-part.invariant
