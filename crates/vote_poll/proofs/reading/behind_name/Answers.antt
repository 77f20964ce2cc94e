use Rattle.std.proofs.Common.{◌≡◌, ◌+◌, ◌++◌, ◌∷◌, ℕ, List, [], Bor, Option, Some, None, IfSome, true, take, drop, length, ap, ap₂, sym, ◌∙◌}
use Rattle.std.specs.Option.{MatchOption}
use Rattle.std.specs.Cmp.Lexicographic.{bytes_decides}
use Rattle.std.specs.Str.{bytes_eq}
use Rattle.std.proofs.lemmas.List.{take-append-drop}
use Rattle.vote_poll.proofs.reading.behind_name.Goals as goal

-- the text after the space, if a space follows the name
behind_space : (line name rest : List ℕ) (Other : Type 0) (o : Option (Bor (List ℕ))) → line ≡ name ++ rest
    → MatchOption o Other (λ text. (bytes_eq (take 1 rest) (32 ∷ []) ≡ true) × (text.now ≡ drop 1 rest) × (length text.now + 1 ≡ length rest)) → IfSome o (λ text. line ≡ name ++ 32 ∷ text.now)
behind_space line name rest Other None whole h = tt
behind_space line name rest Other (Some text) whole h =
    let space : take 1 rest ≡ 32 ∷ [] = (bytes_decides (take 1 rest) (32 ∷ [])).0 h.0 in
    whole ∙ ap (λ t. name ++ t) (sym (take-append-drop 1 rest) ∙ ap₂ ◌++◌ space (sym h.1))

pub returns-in_err-strip_prefix : goal.returns-in_err-strip_prefix
returns-in_err-strip_prefix c = rw c.from_residual.ensures tt

pub returns : goal.returns
returns c =
    let front : take (length c.args.name.now) c.args.line.now ≡ c.args.name.now = (bytes_decides (take (length c.args.name.now) c.args.line.now) c.args.name.now).0 c.in_ok-strip_prefix.ensures.cases.0 in
    behind_space c.args.line.now c.args.name.now c.in_ok-strip_prefix.field-0.now _ c.strip_prefix-2.result
    (sym (take-append-drop (length c.args.name.now) c.args.line.now) ∙ ap₂ ◌++◌ front (sym c.in_ok-strip_prefix.ensures.cases.1)) c.strip_prefix-2.ensures.cases
