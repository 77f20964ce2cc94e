-- The text of a ballot, rank by rank, and the text of the ballots, voter by voter.
use Rattle.std.proofs.Common.{◌≡◌, ℕ, ◌+◌, ◌<◌, ◌≤◌, true, false, inl, inr, List, [], ◌∷◌, ◌++◌, Option, None, length, length-take-le, get_or, take, drop, map, refl, sym, ap, ◌∙◌, arith, append_assoc, codes}
use Rattle.std.specs.List.{join_with_byte, list_all}
use Rattle.std.specs.Str.{IsUtf8}
use Rattle.std.proofs.lemmas.Bool.{and_parts, cases_lt, le-leb, lt-leb, ne_eqb, true≢false}
use Rattle.std.proofs.lemmas.List.{drop_more, length-map, map-append, take_more}
use Rattle.std.proofs.lemmas.List.Concat.{flat_map-append}
use Rattle.std.proofs.lemmas.List.Elements.{All-weaker}
use Rattle.std.proofs.lemmas.List.Sums.{AllPass-from_list_all}
use Rattle.std.proofs.lemmas.Str.{IsUtf8-from_ascii}
use Rattle.std.proofs.lemmas.Str.Ascii.{IsAscii-from_all}
use Rattle.vote_poll.specs.BallotLine.{rank_text}
use Rattle.vote_poll_text.specs.Lines.{line_feed, text_of_lines}
use Rattle.vote_poll_text.specs.Names.{is_voter_byte, is_voter_name, is_within}
use Rattle.vote_poll.specs.Ranks.{rank_of}
use Rattle.vote_poll_text.specs.declared.TheConstants.{MAX_VOTER_NAME}
use Rattle.vote_poll.proofs.OptionLaws.{at_option-next}
use Rattle.vote_sheet.specs.Standing.{ballot_line, ballot_lines}

-- one more text after a comma
pub join_push : (comma : ℕ) (texts : List (List ℕ)) (text : List ℕ) → 1 ≤ length texts → join_with_byte comma (texts ++ text ∷ []) ≡ join_with_byte comma texts ++ comma ∷ text
join_push comma [] text some = absurd (omega arith)
join_push comma (first ∷ []) text some = refl
join_push comma (first ∷ next ∷ texts) text some =
    ap (λ t. first ++ comma ∷ t) (join_push comma (next ∷ texts) text (omega arith))
    ∙ sym (append_assoc first (comma ∷ join_with_byte comma (next ∷ texts)) (comma ∷ text))

pub one_rank_more : (ranks : List (Option ℕ)) (k : ℕ) (rank : Option ℕ) → 1 ≤ k → k < length ranks → rank ≡ rank_of ranks (k + 1)
    → join_with_byte 44 (map rank_text (take (k + 1) ranks)) ≡ (join_with_byte 44 (map rank_text (take k ranks)) ++ codes ",") ++ rank_text rank
one_rank_more ranks k rank some within is =
    let here : rank ≡ get_or ranks k None = is ∙ at_option-next ranks k None in
    let front = take k ranks in
    let more : take (k + 1) ranks ≡ front ++ get_or ranks k None ∷ [] = take_more ranks k None within in
    let long : length (map rank_text front) ≡ k = length-map front rank_text ∙ length-take-le k ranks (omega arith) in
    ap (λ rs. join_with_byte 44 (map rank_text rs)) more
    ∙ ap (join_with_byte 44) (map-append rank_text front (get_or ranks k None ∷ []))
    ∙ join_push 44 (map rank_text front) (rank_text (get_or ranks k None)) (omega arith)
    ∙ ap (λ r. join_with_byte 44 (map rank_text front) ++ 44 ∷ rank_text r) (sym here)
    ∙ sym (append_assoc (join_with_byte 44 (map rank_text front)) (44 ∷ []) (rank_text rank))

pub first_rank : (ranks : List (Option ℕ)) (rank : Option ℕ) → 1 ≤ length ranks → rank ≡ rank_of ranks 1 → rank_text rank ≡ join_with_byte 44 (map rank_text (take 1 ranks))
first_rank [] rank some is = absurd (omega arith)
first_rank (first ∷ ranks) rank some is = ap rank_text (is ∙ at_option-next (first ∷ ranks) 0 None)

pub after_comma : (t0 t1 t2 t3 front comma last whole : List ℕ) → t1 ≡ t0 ++ front → t2 ≡ t1 ++ comma → t3 ≡ t2 ++ last → whole ≡ (front ++ comma) ++ last → t3 ≡ t0 ++ whole
after_comma t0 t1 t2 t3 front comma last whole e1 e2 e3 e = rw (e3, e2, e1, e) (simp append_assoc)

-- the line of one voter, and the lines of the voters that are left
pub one_ballot_more : (voters : List (List ℕ)) (ballots : List (Option (List (Option ℕ)))) (k : ℕ) → k < length voters → k < length ballots
    → text_of_lines (ballot_lines (drop k voters) (drop k ballots))
    ≡ text_of_lines (ballot_line (get_or voters k []) (get_or ballots k None)) ++ text_of_lines (ballot_lines (drop (k + 1) voters) (drop (k + 1) ballots))
one_ballot_more voters ballots k of_voters of_ballots =
    rw (drop_more voters k [] of_voters, drop_more ballots k None of_ballots)
    (flat_map-append (λ line. line ++ line_feed) (ballot_line (get_or voters k []) (get_or ballots k None)) (ballot_lines (drop (k + 1) voters) (drop (k + 1) ballots)))

-- a voter's name is text
no_high_byte : (b : ℕ) → 128 ≤ b → is_voter_byte b ≡ false
no_high_byte b high =
    rw (
      le-leb 97 b (omega arith),
      lt-leb b 122 (omega arith),
      le-leb 48 b (omega arith),
      lt-leb b 57 (omega arith),
      ne_eqb b 46 (λ e. absurd (omega arith)),
      ne_eqb b 45 (λ e. absurd (omega arith)),
    ) refl

voter_byte_is_ascii : (b : ℕ) → is_voter_byte b ≡ true → b < 128
voter_byte_is_ascii b h =
    elim (cases_lt b 128) [
      | inl ascii ↦ ascii
      | inr high ↦ absurd (true≢false (sym h ∙ no_high_byte b high))
    ]

pub name_is_text : (name : List ℕ) → is_voter_name name ≡ true → IsUtf8 name
name_is_text name h =
    IsUtf8-from_ascii name (IsAscii-from_all name (All-weaker (λ b. is_voter_byte b ≡ true) (λ b. b < 128) voter_byte_is_ascii name
    (AllPass-from_list_all is_voter_byte name (and_parts (is_within 1 MAX_VOTER_NAME (length name)) (list_all is_voter_byte name) h).1)))
