-- The findings of refused lines, one after another, and the texts of options.
use Rattle.vote_explain_ballots.proofs.Words.{◌≡◌, ◌+◌, ◌++◌, ◌∷◌, ◌∙◌, ℕ, List, take, refl, ap, sym, subst, Option, Some, [], arith, add-one, slice_get, enumerate_from, flat_map, flat_map_more, take_more, get_or-enumerate_from}
use Rattle.vote_explain_ballots.proofs.Words.{length-enumerate_from, get_or_from_slice_get, slice_get_within, PollContent, last_in_time, reading, Text, AreLinesFor, Adding, Refusal, refusal_by, refusal_of, refusing_reply}
use Rattle.vote_hints.proofs.Lines.{lines_on}
use Rattle.vote_explain_ballots.specs.Explained.{each}
use Rattle.vote_steps.specs.declared.Reply.{Reply}

-- the text of the next number comes after the texts up to this number
pub each_one_more : (n : ℕ) (text : ℕ → Text) → each (n + 1) text ≡ each n text ++ text (n + 1)
each_one_more n text = rw add-one refl

-- the refusals of the lines before a place
abbrev pub refusals_before : PollContent → ℕ → List Text → List Refusal
refusals_before poll place lines = flat_map (refusal_of poll) (take place (enumerate_from 1 lines))

-- what is said of the lines before a place was added, and then what is said of the one there
pub refusals_on : (Says : Refusal → Text → Type 0) (poll : PollContent) (lines : List Text) (place : ℕ) (bytes : Text) (reply : Option Reply) (t0 t1 t2 : Text) → slice_get lines place ≡ Some bytes
    → reply ≡ refusing_reply (last_in_time poll) (place + 1) (reading poll bytes) → Adding (AreLinesFor Says (refusals_before poll place lines)) t0 t1
    → Adding (AreLinesFor Says (refusal_by (place + 1) bytes reply)) t1 t2 → Adding (AreLinesFor Says (refusals_before poll (place + 1) lines)) t0 t2
refusals_on Says poll lines place bytes reply t0 t1 t2 at same first more =
    let numbered = enumerate_from 1 lines in
    let within = slice_get_within lines place bytes at in
    let number : 1 + place ≡ place + 1 = omega arith in
    let here = get_or-enumerate_from 1 lines place (0, bytes) within ∙ ap (λ line. (1 + place, line)) (get_or_from_slice_get lines place bytes bytes at) ∙ ap (λ n. (n, bytes)) number in
    let all = flat_map_more (refusal_of poll) [] (take place numbered) (place + 1, bytes)
    ∙ ap (λ line. flat_map (refusal_of poll) (take place numbered ++ line ∷ [])) (sym here)
    ∙ ap (flat_map (refusal_of poll)) (sym (take_more numbered place (0, bytes) (omega (arith, within, length-enumerate_from 1 lines)))) in
    subst (λ xs. Adding (AreLinesFor Says xs) t0 t2) (ap (λ r. refusals_before poll place lines ++ refusal_by (place + 1) bytes r) same ∙ all)
    (lines_on Says (refusals_before poll place lines) (refusal_by (place + 1) bytes reply) t0 t1 t2 first more)
