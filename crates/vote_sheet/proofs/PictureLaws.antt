-- A poll, its lines and the casting vote have one picture.
use Rattle.std.proofs.Common.{◌≡◌, ℕ, ◌+◌, Bool, true, false, cond, eqb, List, [], ◌∷◌, ◌++◌, Option, None, Some, length, refl, sym, ap, ◌∙◌, codes, decimal}
use Rattle.vote_poll.specs.Options.{IsOption}
use Rattle.vote_poll.specs.PollContent.{PollContent, option_count}
use Rattle.vote_count.specs.declared.Decision.{Decision}
use Rattle.vote_count.specs.declared.Decision.TheVariants.{CastingOutside, Tie, Winner}
use Rattle.vote_count.specs.declared.Round.{Round}
use Rattle.vote_count.specs.Votes.{Votes, votes}
use Rattle.vote_count.specs.Sets.{In, Pairs, has, has_pair}
use Rattle.vote_count.specs.Rounds.{AreSameRounds, IsDecision, VerdictState, cause_of, final_set}
use Rattle.vote_count.specs.Laws.{AreSameOutcomes, DecisionsAreDetermined, HaveSameVotes, OutcomesAreDetermined}
use Rattle.vote_sheet.specs.Picture.{PictureExists, PictureIsUnique, decided_style, dropped_style, edge_line, edge_lines, edges_by, label_text, node_lines, node_of, picture_text, quoted, removal_text, removing_round, style_text}
use Rattle.vote_sheet.specs.Sheet.{Sheet, each, line, name_of, when}
use Rattle.vote_sheet.specs.SheetOf.{IsSheetOf, SheetExists}
use Rattle.vote_poll_text.specs.Texts.{Text}
use Rattle.vote_sheet.proofs.Uniqueness.{each_same, final_same, same_has, same_pair}

-- ---- options
decided_same : (s t : List Bool) → ((o : ℕ) → has s o ≡ has t o) → (d : Decision) (o : ℕ) → decided_style s d o ≡ decided_style t d o
decided_same s t same (Winner winner) o = refl
decided_same s t same Tie o = ap (λ test. when test (codes ", style=bold")) (same o)
decided_same s t same (CastingOutside option) o = ap (λ test. when test (codes ", style=bold")) (same o)

label_same : (names : List Text) (v u : VerdictState) (o : ℕ) → cause_of v o ≡ cause_of u o → label_text names v o ≡ label_text names u o
unfolding label_text
label_same names v u o same = cc

style_same : (v u : VerdictState) (d : Decision) (o : ℕ) → cause_of v o ≡ cause_of u o → ((a : ℕ) → has (final_set v.rounds) a ≡ has (final_set u.rounds) a)
    → style_text v d o ≡ style_text u d o
unfolding style_text
style_same v u d o same final =
    ap (λ cause. dropped_style cause ++ decided_style (final_set v.rounds) d o) same
    ∙ ap (λ style. dropped_style (cause_of u o) ++ style) (decided_same (final_set v.rounds) (final_set u.rounds) final d o)

node_same : (names : List Text) (v u : VerdictState) (d : Decision) (o : ℕ) → cause_of v o ≡ cause_of u o
    → ((a : ℕ) → has (final_set v.rounds) a ≡ has (final_set u.rounds) a) → node_of names v d o ≡ node_of names u d o
unfolding node_of
node_same names v u d o same final =
    let node : Text → Text → Text = λ label style. line (codes "  " ∷ decimal o ∷ codes " [label=" ∷ label ∷ style ∷ codes "];" ∷ []) in
    ap (λ label. node label (style_text v d o)) (label_same names v u o same) ∙ ap (node (label_text names u o)) (style_same v u d o same final)

nodes_same : (n : ℕ) (names : List Text) → length names ≡ n → (v u : VerdictState) → AreSameOutcomes n v u → (d : Decision) → node_lines names v d ≡ node_lines names u d
unfolding node_lines
nodes_same n names long v u same d =
    let final = same_has (final_set v.rounds) (final_set u.rounds) (final_same v.rounds u.rounds same.rounds) in
    ap (λ k. each k (node_of names v d)) long
    ∙ (each_same n (node_of names v d) (node_of names u d) (λ o is. node_same names v u d o (same.causes o is) final)
    ∙ ap (λ k. each k (node_of names u d)) (sym long))

-- ---- defeats
removing_same : (number : ℕ) (rs ss : List Round) → AreSameRounds rs ss → (a b : ℕ) → removing_round number rs a b ≡ removing_round number ss a b
removing_same number [] [] same a b = refl
removing_same number [] (s ∷ ss) same a b = absurd same
removing_same number (r ∷ rs) [] same a b = absurd same
removing_same number (r ∷ rs) (s ∷ ss) same a b =
    ap (λ test. cond test (Some number) (removing_round (number + 1) rs a b)) (same_pair r.removed s.removed same.0.removed a b)
    ∙ ap (λ later. cond (has_pair s.removed a b) (Some number) later) (removing_same (number + 1) rs ss same.1 a b)

edge_same : (n : ℕ) (m w : Votes) → HaveSameVotes n m w → (rs ss : List Round) → AreSameRounds rs ss → (a b : ℕ) → IsOption n a → IsOption n b
    → edge_line m rs a b ≡ edge_line w ss a b
unfolding edge_line
edge_same n m w same rs ss rounds a b is_a is_b =
    let edge : ℕ → ℕ → Option ℕ → Text = λ won lost round. line (
    codes "  " ∷ decimal a ∷ codes " -> " ∷ decimal b
    ∷ codes " [label=\"" ∷ decimal won ∷ codes " : " ∷ decimal lost ∷ removal_text round ∷ []) in
    ap (λ won. edge won (votes m b a) (removing_round 1 rs a b)) (same a b is_a is_b)
    ∙ (ap (λ lost. edge (votes w a b) lost (removing_round 1 rs a b)) (same b a is_b is_a)
    ∙ ap (edge (votes w a b) (votes w b a)) (removing_same 1 rs ss rounds a b))

edges_by_same : (n : ℕ) (m w : Votes) → m.options ≡ n → w.options ≡ n → HaveSameVotes n m w → (v u : VerdictState) → AreSameOutcomes n v u
    → (a : ℕ) → IsOption n a → edges_by m v a ≡ edges_by w u a
unfolding edges_by
edges_by_same n m w size_m size_w same v u outcome a is =
    let left : ℕ → Text = λ b. when (has_pair v.defeats a b) (edge_line m v.rounds a b) in
    let right : ℕ → Text = λ b. when (has_pair u.defeats a b) (edge_line w u.rounds a b) in
    ap (λ k. each k left) size_m
    ∙ (each_same n left right (λ b is_b.
    ap (λ test. when test (edge_line m v.rounds a b)) (same_pair v.defeats u.defeats outcome.defeats a b)
    ∙ ap (when (has_pair u.defeats a b)) (edge_same n m w same v.rounds u.rounds outcome.rounds a b is is_b))
    ∙ ap (λ k. each k right) (sym size_w))

edges_same : (n : ℕ) (m w : Votes) → m.options ≡ n → w.options ≡ n → HaveSameVotes n m w → (v u : VerdictState) → AreSameOutcomes n v u → edge_lines m v ≡ edge_lines w u
unfolding edge_lines
edges_same n m w size_m size_w same v u outcome =
    ap (λ k. each k (edges_by m v)) size_m
    ∙ (each_same n (edges_by m v) (edges_by w u) (edges_by_same n m w size_m size_w same v u outcome)
    ∙ ap (λ k. each k (edges_by w u)) (sym size_w))

-- ---- the whole
same_picture : OutcomesAreDetermined → DecisionsAreDetermined → (poll : PollContent) (lines : List Text) (casting : Option ℕ) (s t : Sheet) → IsSheetOf poll lines casting s
    → IsSheetOf poll lines casting t → (picture_text poll s ≡ picture_text poll t) × (s.decision ≡ t.decision)
same_picture outcomes decisions poll lines casting s t is_s is_t =
    let n = option_count poll in
    let same : HaveSameVotes n s.matrix t.matrix = λ a b is_a is_b. is_s.counted a b is_a is_b ∙ sym (is_t.counted a b is_a is_b) in
    let outcome = outcomes poll s.matrix t.matrix s.outcome t.outcome same is_s.outcome is_t.outcome in
    let final = final_same s.outcome.rounds t.outcome.rounds outcome.rounds in
    let decided = (decisions (final_set s.outcome.rounds) (final_set t.outcome.rounds) casting s.decision t.decision final is_s.decision is_t.decision).1 in
    let nodes = nodes_same n poll.options refl s.outcome t.outcome outcome s.decision ∙ ap (node_lines poll.options t.outcome) decided in
    let edges = edges_same n s.matrix t.matrix is_s.size is_t.size same s.outcome t.outcome outcome in (cc, decided)

pub picture_is_unique : OutcomesAreDetermined → DecisionsAreDetermined → PictureIsUnique
picture_is_unique outcomes decisions poll lines casting text other decision second h k =
    let same = same_picture outcomes decisions poll lines casting h.0 k.0 h.1 k.1 in
    (h.2 ∙ (same.0 ∙ sym k.2), h.3 ∙ (same.1 ∙ sym k.3))

pub picture_exists : SheetExists → PictureExists
picture_exists exists file poll lines casting meant =
    let found = exists file poll lines casting meant in
    let sheet = found.1.0 in (picture_text poll sheet, sheet.decision, (sheet, found.1.1, refl, refl))
