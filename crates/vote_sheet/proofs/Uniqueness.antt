-- A poll, its lines and the casting vote have at most one sheet.
use Rattle.std.proofs.Common.{◌≡◌, ℕ, zero, suc, ◌+◌, ◌↔◌, Bool, eqb, cond, List, [], ◌∷◌, ◌++◌, Option, None, Some, inl, inr, length, refl, sym, ap, ◌∙◌, arith, codes, decimal}
use Rattle.std.specs.Prelude.{nat_lt}
use Rattle.std.specs.Cmp.{both_ways}
use Rattle.std.specs.List.{concat}
use Rattle.vote_poll.specs.Options.{IsOption}
use Rattle.vote_poll.specs.PollContent.{PollContent, elector_count, option_count}
use Rattle.vote_count.specs.declared.Decision.{Decision}
use Rattle.vote_count.specs.declared.Decision.TheVariants.{CastingOutside, Tie, Winner}
use Rattle.vote_count.specs.declared.Round.{Round}
use Rattle.vote_count.specs.Votes.{Votes, votes}
use Rattle.vote_count.specs.Sets.{In, IsAlone, Pairs, has, has_pair, size}
use Rattle.vote_count.specs.Rounds.{AreSameRounds, IsByCasting, IsDecision, IsSameRound, VerdictState, cause_of, final_set}
use Rattle.vote_count.specs.Laws.{AreSameOutcomes, DecisionsAreDetermined, HaveSameVotes, OutcomesAreDetermined}
use Rattle.vote_sheet.specs.Sheet.{Sheet, Text, casting_note, causes_text, count_text, counted_text, decision_text, defeat_line, defeat_lines, defeats_by, defeats_text, drop_line, dropped_line, dropped_text, drops_of, each, ending, head_text, line, name_of, numbers, options_text, or_none, right, round_text, rounds_from, row_text, sheet_text, table_head_text, table_text, tie_text, totals_text, votes_text, when, winner_text}
use Rattle.vote_sheet.specs.SheetOf.{IsSheetOf, SheetIsUnique}

pub each_same : (n : ℕ) (f g : ℕ → Text) → ((o : ℕ) → IsOption n o → f o ≡ g o) → each n f ≡ each n g
each_same zero f g same = refl
each_same (suc n) f g same =
    ap (λ front. front ++ f (suc n)) (each_same n f g (λ o is. same o (is.0, omega (arith, is.1))))
    ∙ ap (λ last. each n g ++ last) (same (suc n) (omega arith, omega arith))

numbers_same : (n : ℕ) (s t : List Bool) → ((o : ℕ) → has s o ≡ has t o) → numbers n s ≡ numbers n t
numbers_same n s t same =
    each_same n (λ o. when (has s o) (codes " " ++ decimal o)) (λ o. when (has t o) (codes " " ++ decimal o)) (λ o is. ap (λ b. when b (codes " " ++ decimal o)) (same o))

-- ---- the texts
pub same_has : (s t : List Bool) → ((o : ℕ) → In s o ↔ In t o) → (o : ℕ) → has s o ≡ has t o
same_has s t same o = both_ways (has s o) (has t o) (same o).0 (same o).1

pub same_pair : (s t : List (List Bool)) → ((a b : ℕ) → Pairs s a b ↔ Pairs t a b) → (a b : ℕ) → has_pair s a b ≡ has_pair t a b
same_pair s t same a b = both_ways (has_pair s a b) (has_pair t a b) (same a b).0 (same a b).1

votes_text_same : (n : ℕ) (m w : Votes) → HaveSameVotes n m w → (a b : ℕ) → IsOption n a → IsOption n b → votes_text m a b ≡ votes_text w a b
unfolding votes_text
votes_text_same n m w same a b is_a is_b = ap (λ v. right 6 (cond (eqb a b) (codes "-") (decimal v))) (same a b is_a is_b)

row_text_same : (n : ℕ) (m w : Votes) → m.options ≡ n → w.options ≡ n → HaveSameVotes n m w → (a : ℕ) → IsOption n a → row_text m a ≡ row_text w a
unfolding row_text
row_text_same n m w size_m size_w same a is =
    let row : Text → Text = λ cells. line (right 3 (decimal a) ∷ cells ∷ []) in
    ap row (ap (λ k. each k (votes_text m a)) size_m
    ∙ (each_same n (votes_text m a) (votes_text w a) (λ b is_b. votes_text_same n m w same a b is is_b)
    ∙ ap (λ k. each k (votes_text w a)) (sym size_w)))

table_text_same : (n : ℕ) (m w : Votes) → m.options ≡ n → w.options ≡ n → HaveSameVotes n m w → table_text m ≡ table_text w
unfolding table_text
table_text_same n m w size_m size_w same =
    ap (λ k. table_head_text k ++ each k (row_text m)) size_m
    ∙ (ap (λ rows. table_head_text n ++ rows) (each_same n (row_text m) (row_text w) (row_text_same n m w size_m size_w same))
    ∙ ap (λ k. table_head_text k ++ each k (row_text w)) (sym size_w))

dropped_text_same : (n : ℕ) (o u : VerdictState) → ((a : ℕ) → IsOption n a → cause_of o a ≡ cause_of u a) → dropped_text n o ≡ dropped_text n u
unfolding dropped_text causes_text
dropped_text_same n o u same =
    ap (λ lines. line (codes "Dropped:" ∷ []) ++ or_none lines)
    (each_same n (λ a. dropped_line a (cause_of o a)) (λ a. dropped_line a (cause_of u a)) (λ a is. ap (dropped_line a) (same a is)))

defeat_line_same : (n : ℕ) (m w : Votes) → HaveSameVotes n m w → (a b : ℕ) → IsOption n a → IsOption n b → defeat_line m a b ≡ defeat_line w a b
unfolding defeat_line
defeat_line_same n m w same a b is_a is_b =
    let text : ℕ → ℕ → Text = λ won lost. line (
    right 3 (decimal a) ∷ codes " over " ∷ decimal b
    ∷ codes " by " ∷ decimal won ∷ codes " to " ∷ decimal lost ∷ []) in
    ap (λ won. text won (votes m b a)) (same a b is_a is_b) ∙ ap (text (votes w a b)) (same b a is_b is_a)

defeats_by_same : (n : ℕ) (m w : Votes) (d e : List (List Bool)) → m.options ≡ n → w.options ≡ n → HaveSameVotes n m w → ((a b : ℕ) → has_pair d a b ≡ has_pair e a b)
    → (a : ℕ) → IsOption n a → defeats_by m d a ≡ defeats_by w e a
unfolding defeats_by
defeats_by_same n m w d e size_m size_w same same_defeats a is =
    let left : ℕ → Text = λ b. when (has_pair d a b) (defeat_line m a b) in
    let right_one : ℕ → Text = λ b. when (has_pair e a b) (defeat_line w a b) in
    ap (λ k. each k left) size_m
    ∙ (each_same n left right_one
    (λ b is_b. ap (λ test. when test (defeat_line m a b)) (same_defeats a b) ∙ ap (when (has_pair e a b)) (defeat_line_same n m w same a b is is_b))
    ∙ ap (λ k. each k right_one) (sym size_w))

defeats_text_same : (n : ℕ) (m w : Votes) (d e : List (List Bool)) → m.options ≡ n → w.options ≡ n → HaveSameVotes n m w → ((a b : ℕ) → has_pair d a b ≡ has_pair e a b)
    → defeats_text m d ≡ defeats_text w e
unfolding defeats_text defeat_lines
defeats_text_same n m w d e size_m size_w same same_defeats =
    ap (λ lines. line (codes "Defeats:" ∷ []) ++ or_none lines)
    (ap (λ k. each k (defeats_by m d)) size_m
    ∙ (each_same n (defeats_by m d) (defeats_by w e) (defeats_by_same n m w d e size_m size_w same same_defeats)
    ∙ ap (λ k. each k (defeats_by w e)) (sym size_w)))

drops_of_same : (n : ℕ) (d e : List (List Bool)) → ((a b : ℕ) → has_pair d a b ≡ has_pair e a b) → (a : ℕ) → drops_of n d a ≡ drops_of n e a
unfolding drops_of
drops_of_same n d e same a =
    each_same n (λ b. when (has_pair d a b) (drop_line a b)) (λ b. when (has_pair e a b) (drop_line a b)) (λ b is. ap (λ test. when test (drop_line a b)) (same a b))

round_text_same : (n number : ℕ) (r s : Round) → IsSameRound r s → round_text n number r ≡ round_text n number s
unfolding round_text
round_text_same n number r s same =
    let set = numbers_same n r.set s.set (same_has r.set s.set same.set) in
    let drops = each_same n (drops_of n r.removed) (drops_of n s.removed) (λ a is. drops_of_same n r.removed s.removed (same_pair r.removed s.removed same.removed) a) in
    ap (λ text. line (codes "Round " ∷ decimal number ∷ codes ":" ∷ text ∷ []) ++ each n (drops_of n r.removed)) set
    ∙ ap (λ text. line (codes "Round " ∷ decimal number ∷ codes ":" ∷ numbers n s.set ∷ []) ++ text) drops

rounds_from_same : (n number : ℕ) (rs ss : List Round) → AreSameRounds rs ss → rounds_from n number rs ≡ rounds_from n number ss
rounds_from_same n number [] [] h = refl
rounds_from_same n number [] (s ∷ ss) h = absurd h
rounds_from_same n number (r ∷ rs) [] h = absurd h
rounds_from_same n number (r ∷ rs) (s ∷ ss) h =
    ap (λ text. text ++ rounds_from n (number + 1) rs) (round_text_same n number r s h.0)
    ∙ ap (λ text. round_text n number s ++ text) (rounds_from_same n (number + 1) rs ss h.1)

pub final_same : (rs ss : List Round) → AreSameRounds rs ss → (o : ℕ) → In (final_set rs) o ↔ In (final_set ss) o
final_same [] [] h o = (λ i. i, λ i. i)
final_same [] (s ∷ ss) h o = absurd h
final_same (r ∷ rs) [] h o = absurd h
final_same (r ∷ []) (s ∷ []) h o = h.0.set o
final_same (r ∷ []) (s ∷ next ∷ later) h o = absurd h.1
final_same (r ∷ next ∷ later) (s ∷ []) h o = absurd h.1
final_same (r ∷ next ∷ later) (s ∷ next' ∷ later') h o = final_same (next ∷ later) (next' ∷ later') h.1 o

-- sheets of one poll and its lines have the same options in their final sets, whatever the casting votes
pub final_sets_are_same : OutcomesAreDetermined → (poll : PollContent) (lines : List Text) (casting other : Option ℕ) (s t : Sheet) → IsSheetOf poll lines casting s → IsSheetOf poll lines other t
    → (o : ℕ) → In (final_set s.outcome.rounds) o ↔ In (final_set t.outcome.rounds) o
final_sets_are_same outcomes poll lines casting other s t is_s is_t =
    let same : HaveSameVotes (option_count poll) s.matrix t.matrix = λ a b is_a is_b. is_s.counted a b is_a is_b ∙ sym (is_t.counted a b is_a is_b) in
    final_same s.outcome.rounds t.outcome.rounds (outcomes poll s.matrix t.matrix s.outcome t.outcome same is_s.outcome is_t.outcome).rounds

alone_of_same : (s t : List Bool) → ((o : ℕ) → In s o ↔ In t o) → (o : ℕ) → IsAlone t o → IsAlone s o
alone_of_same s t same o alone p = (λ is. (alone p).0 ((same p).0 is), λ is. (same p).1 ((alone p).1 is))

by_casting_of_same : (s t : List Bool) → ((o : ℕ) → In s o ↔ In t o) → (casting : Option ℕ) (d : Decision) → IsByCasting s casting d → IsByCasting t casting d
by_casting_of_same s t same None d is = is
by_casting_of_same s t same (Some choice) d is =
    elim is [
      | inl inside ↦ inl ((same choice).0 inside.0, inside.1)
      | inr outside ↦ inr ((λ is_in. outside.0 ((same choice).1 is_in)), outside.1)
    ]

-- a decision with one of two sets of the same options is a decision with the other
pub decision_of_same : (s t : List Bool) → ((o : ℕ) → In s o ↔ In t o) → (casting : Option ℕ) (d : Decision) → IsDecision s casting d → IsDecision t casting d
decision_of_same s t same casting d is = record {
  alone = λ o alone. is.alone o (alone_of_same s t same o alone);
  several = λ several. by_casting_of_same s t same casting d (is.several (λ o alone. several o (alone_of_same t s (λ p. ((same p).1, (same p).0)) o alone)));
}

casting_note_same : (s t : List Bool) → size s ≡ size t → casting_note s ≡ casting_note t
unfolding casting_note
casting_note_same s t many = ap (λ k. when (nat_lt 1 k) (codes " by casting vote")) many

winner_text_same : (names : List Text) (s t : List Bool) → size s ≡ size t → (o : ℕ) → winner_text names s o ≡ winner_text names t o
unfolding winner_text
winner_text_same names s t many o =
    ap (λ note. concat (codes "Winner: " ∷ decimal o ∷ codes " " ∷ name_of names o ∷ note ∷ [])) (casting_note_same s t many)

tie_text_same : (n : ℕ) (s t : List Bool) → ((o : ℕ) → In s o ↔ In t o) → tie_text n s ≡ tie_text n t
unfolding tie_text
tie_text_same n s t same = ap (λ text. codes "Tie:" ++ text) (numbers_same n s t (same_has s t same))

ending_same : (names : List Text) (s t : List Bool) → ((o : ℕ) → In s o ↔ In t o) → size s ≡ size t → (d : Decision) → ending names s d ≡ ending names t d
ending_same names s t same many (Winner o) = winner_text_same names s t many o
ending_same names s t same many Tie = tie_text_same (length names) s t same
ending_same names s t same many (CastingOutside c) =
    ap (λ text. concat (text ∷ codes ", casting option " ∷ decimal c ∷ codes " is not among them" ∷ [])) (tie_text_same (length names) s t same)

decision_text_same : (names : List Text) (s t : List Bool) → ((o : ℕ) → In s o ↔ In t o) → (d e : Decision) → (size s ≡ size t) × (d ≡ e) → decision_text names s d ≡ decision_text names t e
unfolding decision_text
decision_text_same names s t same d e is =
    ap (λ text. line (text ∷ [])) (ending_same names s t same is.0 d ∙ ap (ending names t) is.1)

parts_same : (a a' b b' c c' d d' : Text) → a ≡ a' → b ≡ b' → c ≡ c' → d ≡ d' → concat (a ∷ b ∷ c ∷ d ∷ []) ≡ concat (a' ∷ b' ∷ c' ∷ d' ∷ [])
parts_same a a' b b' c c' d d' is_a is_b is_c is_d = cc

totals_text_same : (lines : ℕ) (last : Option ℕ) (v v' r r' u u' : ℕ) → v ≡ v' → r ≡ r' → u ≡ u' → totals_text lines last v r u ≡ totals_text lines last v' r' u'
totals_text_same lines last v v' r r' u u' is_v is_r is_u = cc

count_text_same : DecisionsAreDetermined → (n : ℕ) (names : List Text) → length names ≡ n → (m w : Votes) → m.options ≡ n → w.options ≡ n → HaveSameVotes n m w
    → (o u : VerdictState) → AreSameOutcomes n o u → (casting : Option ℕ) (d e : Decision) → IsDecision (final_set o.rounds) casting d → IsDecision (final_set u.rounds) casting e
    → count_text names m o d ≡ count_text names w u e
unfolding count_text counted_text
count_text_same decisions n names long m w size_m size_w same o u outcome casting d e is_d is_e =
    let final = final_same o.rounds u.rounds outcome.rounds in
    let dropped : dropped_text (length names) o ≡ dropped_text (length names) u = rw long (dropped_text_same n o u outcome.causes) in
    let table = table_text_same n m w size_m size_w same in
    let defeats = defeats_text_same n m w o.defeats u.defeats size_m size_w same (same_pair o.defeats u.defeats outcome.defeats) in
    let rounds = rounds_from_same (length names) 1 o.rounds u.rounds outcome.rounds in
    let decision = decision_text_same names (final_set o.rounds) (final_set u.rounds) final d e (decisions (final_set o.rounds) (final_set u.rounds) casting d e final is_d is_e) in
    cc

same_sheet : OutcomesAreDetermined → DecisionsAreDetermined → (poll : PollContent) (lines : List Text) (casting : Option ℕ) (s t : Sheet) → IsSheetOf poll lines casting s → IsSheetOf poll lines casting t
    → sheet_text poll lines s ≡ sheet_text poll lines t
same_sheet outcomes decisions poll lines casting s t is_s is_t =
    let n = option_count poll in
    let same : HaveSameVotes n s.matrix t.matrix = λ a b is_a is_b. is_s.counted a b is_a is_b ∙ sym (is_t.counted a b is_a is_b) in
    let outcome = outcomes poll s.matrix t.matrix s.outcome t.outcome same is_s.outcome is_t.outcome in
    let quorum : s.quorum_votes ≡ t.quorum_votes = omega (arith, is_s.quorum.1 t.quorum_votes is_t.quorum.0, is_t.quorum.1 s.quorum_votes is_s.quorum.0) in
    let head : ℕ → Text = λ votes. head_text poll.title (elector_count poll) poll.quorum_multiple votes poll.wording in
    let totals : Sheet → Text = λ s. totals_text (length lines) poll.last_envelope s.valid s.refused s.voters in
    let options = options_text poll.options poll.ratios in
    let count : Sheet → Text = λ s. count_text poll.options s.matrix s.outcome s.decision in
    parts_same (head s.quorum_votes) (head t.quorum_votes) (totals s) (totals t) options options (count s) (count t)
    (ap head quorum)
    (totals_text_same (length lines) poll.last_envelope s.valid t.valid s.refused t.refused s.voters t.voters
    (is_s.valid ∙ sym is_t.valid) (is_s.refused ∙ sym is_t.refused) (is_s.voters ∙ sym is_t.voters))
    refl
    (count_text_same decisions n poll.options refl s.matrix t.matrix is_s.size is_t.size same s.outcome t.outcome outcome casting s.decision t.decision is_s.decision is_t.decision)

pub sheet_is_unique_lem : OutcomesAreDetermined → DecisionsAreDetermined → SheetIsUnique
sheet_is_unique_lem outcomes decisions poll lines casting text other h k = h.2 ∙ (same_sheet outcomes decisions poll lines casting h.0 k.0 h.1 k.1 ∙ sym k.2)
