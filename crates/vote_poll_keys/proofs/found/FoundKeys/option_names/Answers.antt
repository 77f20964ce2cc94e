use Rattle.std.proofs.Common.{◌≡◌, ◌∷◌, ◌++◌, [], ℕ, List, Option, Some, None, Bor, map, refl, ap, ◌∙◌}
use Rattle.std.specs.Option.{MatchOption, option_copied, option_to_list}
use Rattle.std.proofs.lemmas.List.{map-append}
use Rattle.vote_poll_keys.proofs.found.FoundKeys.option_names.Goals as goal

abbrev now : Bor (List ℕ) → List ℕ
now text = text.now

as_list : (option : Option (Bor (List ℕ))) (names : List (Bor (List ℕ))) → MatchOption option (names ≡ []) (λ name. names ≡ name ∷ []) → map now names ≡ option_to_list (option_copied option)
as_list None names none = rw none refl
as_list (Some name) names one = rw one refl

pub returns : goal.returns
returns c =
    let there : c.args.self.now.options ≡ Some c.in-Some.options = cc in
    rw (there, c.in_ok-extend_from_slice.ensures.items, c.in_ok-names.ensures.items, c.deref.ensures.value)
    (ap Some (map-append now c.in-Some.options.items c.as_slice.result.now
    ∙ ap (λ t. map now c.in-Some.options.items ++ t) (as_list c.args.self.now.default_option c.as_slice.result.now c.as_slice.ensures)))
