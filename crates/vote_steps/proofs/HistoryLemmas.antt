-- How the definitions on histories change with one more step.
use Rattle.std.proofs.Common.{◌≡◌, ℕ, ◌+◌, ◌<◌, ◌≤◌, Bool, true, false, ◌||◌, cond, eqb, ltb, not, List, [], ◌∷◌, ◌++◌, Option, Some, None, length, get_or, set, refl, sym, ap, ◌∙◌, ⊎_elim, arith, append-nil, length-set}
use Rattle.std.specs.Prelude.{option_map}
use Rattle.std.specs.List.{list_any, cons_option, filter_map, count_by}
use Rattle.std.proofs.Math.Bool.{or-false}
use Rattle.std.proofs.lemmas.Bool.{eq-eqb, ne_eqb, lt-ltb, le-ltb, cases_eq, cases_Bool}
use Rattle.std.proofs.lemmas.Bool.Decides.{nat_tests}
use Rattle.std.proofs.lemmas.List.{ext_get_or, get_or-set_same, get_or-set_other}
use Rattle.std.proofs.lemmas.List.Elements.{filter_map-append}
use Rattle.std.proofs.lemmas.List.Folds.{list_any-append}
use Rattle.std.proofs.lemmas.List.FromFn.{length-map-range_with_len, get_or-map-range_with_len}
use Rattle.std.proofs.lemmas.List.Sums.{sum_by_push}
use Rattle.vote_poll.specs.declared.Reading.{Reading}
use Rattle.vote_poll.specs.declared.Reading.TheVariants.{Ballot, Bad}
use Rattle.vote_count.proofs.Counts.{count-cons}
use Rattle.vote_steps.specs.declared.step.Received.{Received}
use Rattle.vote_steps.specs.declared.step.Reply.{Reply}
use Rattle.vote_steps.specs.declared.step.Reply.TheVariants.{BoxClosed, Late}
use Rattle.vote_steps.specs.declared.step.Step.{Step}
use Rattle.vote_steps.specs.declared.step.Step.TheVariants.{Cast, Close}
use Rattle.vote_steps.specs.Receiving.{after_ballot}
use Rattle.vote_steps.specs.History.{is_close, is_cast, is_ballot, is_refused, is_closed, before_close, after_close, stamp_of, stamps, is_used, is_late, ranks_read, ballot_of, later, latest, standing, reply_beside, reply_in_time, reply_to, is_valid, roll, valid, refused}

-- the ballots of a voter that came before the close and are not late
abbrev pub ballots : ℕ → List Step → ℕ → List Received
ballots last_in_time steps voter = filter_map (ballot_of last_in_time voter) (before_close steps)

-- all steps of an open history are before its close
pub before_close-append_open : (steps more : List Step) → is_closed steps ≡ false → before_close (steps ++ more) ≡ steps ++ before_close more
before_close-append_open [] more h = refl
before_close-append_open (Cast d n r p ∷ steps) more h = ap (λ xs. Cast d n r p ∷ xs) (before_close-append_open steps more h)
before_close-append_open (Close ∷ steps) more h = cc

pub before_close-append_closed : (steps more : List Step) → is_closed steps ≡ true → before_close (steps ++ more) ≡ before_close steps
before_close-append_closed [] more h = cc
before_close-append_closed (Cast d n r p ∷ steps) more h = ap (λ xs. Cast d n r p ∷ xs) (before_close-append_closed steps more h)
before_close-append_closed (Close ∷ steps) more h = refl

pub before_close_open : (steps : List Step) → is_closed steps ≡ false → before_close steps ≡ steps
before_close_open [] h = refl
before_close_open (Cast d n r p ∷ steps) h = ap (λ xs. Cast d n r p ∷ xs) (before_close_open steps h)
before_close_open (Close ∷ steps) h = cc

-- one more ballot
later-after_ballot : (x : Received) (o : Option Received) (b : Received) → later x (Some (after_ballot o b)) ≡ Some (after_ballot (later x o) b)
later-after_ballot x None b = grind (arith, nat_tests)
later-after_ballot x (Some other) b = grind (arith, nat_tests)

pub latest-append : (xs : List Received) (b : Received) → latest (xs ++ b ∷ []) ≡ Some (after_ballot (latest xs) b)
latest-append [] b = refl
latest-append (x ∷ xs) b = ap (later x) (latest-append xs b) ∙ later-after_ballot x (latest xs) b

-- a voter's ballots after one more step of an open box
pub ballots-append_open : (last : ℕ) (steps : List Step) (step : Step) (v : ℕ) → is_closed steps ≡ false
    → ballots last (steps ++ step ∷ []) v ≡ ballots last steps v ++ filter_map (ballot_of last v) (before_close (step ∷ []))
ballots-append_open last steps step v h =
    rw (before_close-append_open steps (step ∷ []) h, before_close_open steps h)
    (filter_map-append (ballot_of last v) steps (before_close (step ∷ [])))

pub standing-append_closed : (last : ℕ) (steps : List Step) (step : Step) (v : ℕ) → is_closed steps ≡ true → standing last (steps ++ step ∷ []) v ≡ standing last steps v
standing-append_closed last steps step v h = ap (λ xs. latest (filter_map (ballot_of last v) xs)) (before_close-append_closed steps (step ∷ []) h)

-- the ballot that stands after a step, which may be a ballot of the voter
abbrev pub after_step : Option Received → Option Received → Option Received
after_step old None = old
after_step old (Some ballot) = Some (after_ballot old ballot)

latest-append_option : (xs : List Received) (o : Option Received) → latest (xs ++ cons_option o []) ≡ after_step (latest xs) o
latest-append_option xs None = ap latest (append-nil xs)
latest-append_option xs (Some b) = latest-append xs b

pub standing-append_open : (last : ℕ) (steps : List Step) (step : Step) (v : ℕ) → is_closed steps ≡ false
    → standing last (steps ++ step ∷ []) v ≡ after_step (standing last steps v) (ballot_of last v step)
standing-append_open last steps (Cast d n r p) v h =
    ap latest (ballots-append_open last steps (Cast d n r p) v h) ∙ latest-append_option (ballots last steps v) (ballot_of last v (Cast d n r p))
standing-append_open last steps Close v h = ap latest (ballots-append_open last steps Close v h) ∙ ap latest (append-nil (ballots last steps v))

-- the close
pub is_closed-append : (steps : List Step) (step : Step) → is_closed (steps ++ step ∷ []) ≡ (is_closed steps || is_close step)
is_closed-append steps step = list_any-append is_close steps (step ∷ []) ∙ ap (λ b. is_closed steps || b) (or-false (is_close step))

-- the counts after one more step
pub count_by-push : (test : Step → Bool) (steps : List Step) (step : Step) → count_by test (steps ++ step ∷ []) ≡ count_by test steps + cond (test step) 1 0
count_by-push test steps step = sum_by_push (λ x. cond (test x) 1 0) steps step

only_casts : (steps : List Step) → count_by is_cast (before_close steps) ≡ length (before_close steps)
only_casts [] = refl
only_casts (Close ∷ steps) = refl
only_casts (Cast desk stamp reading reply ∷ steps) =
    omega (arith, count-cons is_cast (Cast desk stamp reading reply) (before_close steps), only_casts steps)

-- if the only close is the last step, all other steps are casts
pub casts_before : (steps : List Step) → steps ≡ before_close steps ++ Close ∷ [] → count_by is_cast steps ≡ length (before_close steps)
casts_before steps last = omega (arith, ap (count_by is_cast) last, count_by-push is_cast (before_close steps) Close, only_casts steps)

pub valid-append_open : (last : ℕ) (steps : List Step) (step : Step) → is_closed steps ≡ false → valid last (steps ++ step ∷ []) ≡ valid last steps + cond (is_ballot last step) 1 0
valid-append_open last steps (Cast d n r p) h =
    rw (before_close-append_open steps (Cast d n r p ∷ []) h, before_close_open steps h) (count_by-push (is_ballot last) steps (Cast d n r p))
valid-append_open last steps Close h = rw (before_close-append_open steps (Close ∷ []) h, before_close_open steps h, append-nil steps) (omega arith)

pub valid-append_closed : (last : ℕ) (steps : List Step) (step : Step) → is_closed steps ≡ true → valid last (steps ++ step ∷ []) ≡ valid last steps
valid-append_closed last steps step h = ap (count_by (is_ballot last)) (before_close-append_closed steps (step ∷ []) h)

-- each cast is valid or refused
ballot_or_refused : (last : ℕ) (step : Step) → cond {A = ℕ} (is_ballot last step) 1 0 + cond {A = ℕ} (is_refused last step) 1 0 ≡ cond {A = ℕ} (is_cast step) 1 0
ballot_or_refused last Close = refl
ballot_or_refused last (Cast d n (Bad f) p) = refl
ballot_or_refused last (Cast d n (Ballot v r) p) = grind (arith, nat_tests)

ballots_and_refused : (last : ℕ) (steps : List Step) → count_by (is_ballot last) steps + count_by (is_refused last) steps ≡ count_by is_cast steps
ballots_and_refused last [] = refl
ballots_and_refused last (step ∷ steps) =
    omega (arith, count-cons (is_ballot last) step steps, count-cons (is_refused last) step steps, count-cons is_cast step steps, ballot_or_refused last step, ballots_and_refused last steps)

casts_around : (steps : List Step) → count_by is_cast (before_close steps) + count_by is_cast (after_close steps) ≡ count_by is_cast steps
casts_around [] = refl
casts_around (Close ∷ steps) = omega (arith, count-cons is_cast Close steps)
casts_around (Cast d n r p ∷ steps) =
    omega (arith, count-cons is_cast (Cast d n r p) steps, count-cons is_cast (Cast d n r p) (before_close steps), casts_around steps)

pub valid-refused : (last : ℕ) (steps : List Step) → valid last steps + refused last steps ≡ count_by is_cast steps
valid-refused last steps = omega (arith, ballots_and_refused last (before_close steps), casts_around steps)

-- the numbers that are used after one more step
pub is_used-cast : (steps : List Step) (d n : ℕ) (r : Reading) (p : Reply) (stamp : ℕ) → is_used (steps ++ Cast d n r p ∷ []) stamp ≡ (is_used steps stamp || eqb n stamp)
is_used-cast steps d n r p stamp =
    ap (list_any (λ used. eqb used stamp)) (filter_map-append stamp_of steps (Cast d n r p ∷ []))
    ∙ list_any-append (λ used. eqb used stamp) (stamps steps) (n ∷ []) ∙ ap (λ b. is_used steps stamp || b) (or-false (eqb n stamp))

pub is_used-close : (steps : List Step) (stamp : ℕ) → is_used (steps ++ Close ∷ []) stamp ≡ is_used steps stamp
is_used-close steps stamp =
    ap (list_any (λ used. eqb used stamp)) (filter_map-append stamp_of steps (Close ∷ []) ∙ append-nil (stamps steps))

-- the ballot with this stamp and these ranks
abbrev pub stamped : ℕ → Option (List (Option ℕ)) → Option Received
stamped n ranks = option_map (λ ranks. record { stamp = n; ranks = ranks }) ranks

-- the ballot that a line gives a voter
abbrev pub ballot_read : ℕ → ℕ → Reading → Option Received
ballot_read v n r = stamped n (ranks_read v r)

-- the ballot that a cast gives
pub late_gives_none : (last v d n : ℕ) (r : Reading) (p : Reply) → last < n → ballot_of last v (Cast d n r p) ≡ None
late_gives_none last v d n r p h = ap (λ t. cond t None (ballot_read v n r)) (lt-ltb last n h)

pub in_time_gives : (last v d n : ℕ) (r : Reading) (p : Reply) → n ≤ last → ballot_of last v (Cast d n r p) ≡ ballot_read v n r
in_time_gives last v d n r p h = ap (λ t. cond t None (ballot_read v n r)) (le-ltb last n h)

pub none_either : (t : Bool) → cond {A = Option Received} t None None ≡ None
none_either true = refl
none_either false = refl

-- the roll after one more step
pub length-roll : (last : ℕ) (steps : List Step) (electors : ℕ) → length (roll last steps electors) ≡ electors
length-roll last steps electors = length-map-range_with_len (standing last steps) 0 electors

pub get_or-roll : (last : ℕ) (steps : List Step) (electors v : ℕ) → v < electors → get_or (roll last steps electors) v None ≡ standing last steps v
get_or-roll last steps electors v h = get_or-map-range_with_len (standing last steps) 0 electors v v None h (omega arith)

pub roll-same : (last : ℕ) (steps more : List Step) (electors : ℕ) → ((v : ℕ) → standing last more v ≡ standing last steps v) → roll last more electors ≡ roll last steps electors
roll-same last steps more electors same =
    ext_get_or None (roll last more electors) (roll last steps electors) (length-roll last more electors ∙ sym (length-roll last steps electors))
    (λ v h. let inside : v < electors = omega (arith, h, length-roll last more electors) in
    get_or-roll last more electors v inside ∙ same v ∙ sym (get_or-roll last steps electors v inside))

pub roll-closed : (last : ℕ) (steps : List Step) (step : Step) (electors : ℕ) → is_closed steps ≡ true → roll last (steps ++ step ∷ []) electors ≡ roll last steps electors
roll-closed last steps step electors h = roll-same last steps (steps ++ step ∷ []) electors (λ v. standing-append_closed last steps step v h)

-- a step that gives no voter a ballot does not change the roll
pub roll-none : (last : ℕ) (steps : List Step) (step : Step) (electors : ℕ) → is_closed steps ≡ false → ((v : ℕ) → ballot_of last v step ≡ None)
    → roll last (steps ++ step ∷ []) electors ≡ roll last steps electors
roll-none last steps step electors h none =
    roll-same last steps (steps ++ step ∷ []) electors (λ v. standing-append_open last steps step v h ∙ ap (after_step (standing last steps v)) (none v))

pub roll-close : (last : ℕ) (steps : List Step) (electors : ℕ) → is_closed steps ≡ false → roll last (steps ++ Close ∷ []) electors ≡ roll last steps electors
roll-close last steps electors h = roll-none last steps Close electors h (λ v. refl)

ballot_of_same : (last d : ℕ) (b : Received) (w v : ℕ) (p : Reply) → b.stamp ≤ last → w ≡ v → ballot_of last v (Cast d b.stamp (Ballot w b.ranks) p) ≡ Some b
ballot_of_same last d b w v p early same = in_time_gives last v d b.stamp (Ballot w b.ranks) p early ∙ ap (λ t. stamped b.stamp (cond t (Some b.ranks) None)) (eq-eqb w v same)

ballot_of_other : (last d : ℕ) (b : Received) (w v : ℕ) (p : Reply) → b.stamp ≤ last → (w ≡ v → ⊥) → ballot_of last v (Cast d b.stamp (Ballot w b.ranks) p) ≡ None
ballot_of_other last d b w v p early other = in_time_gives last v d b.stamp (Ballot w b.ranks) p early ∙ ap (λ t. stamped b.stamp (cond t (Some b.ranks) None)) (ne_eqb w v other)

pub roll-ballot : (last : ℕ) (steps : List Step) (d : ℕ) (b : Received) (w : ℕ) (p : Reply) (electors : ℕ) → is_closed steps ≡ false → b.stamp ≤ last → w < electors
    → roll last (steps ++ Cast d b.stamp (Ballot w b.ranks) p ∷ []) electors ≡ set (roll last steps electors) w (Some (after_ballot (get_or (roll last steps electors) w None) b))
roll-ballot last steps d b w p electors h early inside =
    let step : Step = Cast d b.stamp (Ballot w b.ranks) p in
    let more : List Step = steps ++ step ∷ [] in
    let old : List (Option Received) = roll last steps electors in
    let new : Option Received = Some (after_ballot (get_or old w None) b) in
    ext_get_or None (roll last more electors) (set old w new)
    (length-roll last more electors ∙ sym (length-set old w new ∙ length-roll last steps electors))
    (λ v lt. let vin : v < electors = omega (arith, lt, length-roll last more electors) in
    get_or-roll last more electors v vin ∙ standing-append_open last steps step v h
    ∙ ⊎_elim
    (λ (same : w ≡ v).
    ap (λ o. after_step (standing last steps v) o) (ballot_of_same last d b w v p early same)
    ∙ ap (λ o. Some (after_ballot o b)) (sym (ap (λ k. get_or old k None) same ∙ get_or-roll last steps electors v vin))
    ∙ sym (ap (λ k. get_or (set old w new) k None) (sym same) ∙ get_or-set_same old w new None (omega (arith, inside, length-roll last steps electors))))
    (λ (other : w ≡ v → ⊥).
    ap (λ o. after_step (standing last steps v) o) (ballot_of_other last d b w v p early other)
    ∙ sym (get_or-set_other old w v new None (λ e. other (sym e)) ∙ get_or-roll last steps electors v vin))
    (cases_eq w v))

-- the reply says how a cast is counted
is_valid_beside : (o : Option Received) (n : ℕ) → is_valid (reply_beside o n) ≡ true
is_valid_beside None n = refl
is_valid_beside (Some b) n = grind (arith, nat_tests)

pub is_ballot_late : (last d n : ℕ) (r : Reading) (p : Reply) → ltb last n ≡ true → is_ballot last (Cast d n r p) ≡ false
is_ballot_late last d n (Bad f) p late = refl
is_ballot_late last d n (Ballot v ranks) p late = ap not late

is_valid_in_time : (last : ℕ) (steps : List Step) (d n : ℕ) (r : Reading) (p : Reply) → ltb last n ≡ false → is_valid (reply_in_time last steps n r) ≡ is_ballot last (Cast d n r p)
is_valid_in_time last steps d n (Bad f) p early = refl
is_valid_in_time last steps d n (Ballot v ranks) p early = is_valid_beside (standing last steps v) n ∙ sym (ap not early)

pub is_valid_closed : (last : ℕ) (steps : List Step) (n : ℕ) (r : Reading) → is_closed steps ≡ true → is_valid (reply_to last steps n r) ≡ false
is_valid_closed last steps n r h = ap (λ t. is_valid (cond t BoxClosed (cond (is_late last n) Late (reply_in_time last steps n r)))) h

pub is_valid_open : (last : ℕ) (steps : List Step) (d n : ℕ) (r : Reading) (p : Reply) → is_closed steps ≡ false → is_valid (reply_to last steps n r) ≡ is_ballot last (Cast d n r p)
is_valid_open last steps d n r p h =
    ap (λ t. is_valid (cond t BoxClosed (cond (is_late last n) Late (reply_in_time last steps n r)))) h
    ∙ ⊎_elim
    (λ (late : ltb last n ≡ true). ap (λ t. is_valid (cond t Late (reply_in_time last steps n r))) late ∙ sym (is_ballot_late last d n r p late))
    (λ (early : ltb last n ≡ false). ap (λ t. is_valid (cond t Late (reply_in_time last steps n r))) early ∙ is_valid_in_time last steps d n r p early)
    (cases_Bool (ltb last n))

pub valid-cast : (last : ℕ) (steps : List Step) (d n : ℕ) (r : Reading) (p : Reply) → p ≡ reply_to last steps n r
    → valid last (steps ++ Cast d n r p ∷ []) ≡ valid last steps + cond (is_valid p) 1 0
valid-cast last steps d n r p e =
    ⊎_elim
    (λ (t : is_closed steps ≡ true).
    let none : is_valid p ≡ false = ap is_valid e ∙ is_valid_closed last steps n r t in
    omega (arith, valid-append_closed last steps (Cast d n r p) t, ap (λ u. cond {A = ℕ} u 1 0) none))
    (λ (t : is_closed steps ≡ false).
    let same : is_valid p ≡ is_ballot last (Cast d n r p) = ap is_valid e ∙ is_valid_open last steps d n r p t in
    valid-append_open last steps (Cast d n r p) t ∙ sym (ap (λ u. valid last steps + cond {A = ℕ} u 1 0) same))
    (cases_Bool (is_closed steps))

pub refused-cast : (last : ℕ) (steps : List Step) (d n : ℕ) (r : Reading) (p : Reply) → p ≡ reply_to last steps n r
    → refused last (steps ++ Cast d n r p ∷ []) ≡ refused last steps + cond (is_valid p) 0 1
refused-cast last steps d n r p e =
    let one : cond {A = ℕ} (is_valid p) 1 0 + cond {A = ℕ} (is_valid p) 0 1 ≡ 1 = grind (arith, nat_tests) in
    omega (arith, valid-cast last steps d n r p e, valid-refused last steps, valid-refused last (steps ++ Cast d n r p ∷ []), count_by-push is_cast steps (Cast d n r p))

pub valid-close : (last : ℕ) (steps : List Step) → valid last (steps ++ Close ∷ []) ≡ valid last steps
valid-close last steps =
    ⊎_elim (λ (t : is_closed steps ≡ true). valid-append_closed last steps Close t) (λ (t : is_closed steps ≡ false). omega (arith, valid-append_open last steps Close t)) (cases_Bool (is_closed steps))

pub refused-close : (last : ℕ) (steps : List Step) → refused last (steps ++ Close ∷ []) ≡ refused last steps
refused-close last steps = omega (arith, valid-close last steps, valid-refused last steps, valid-refused last (steps ++ Close ∷ []), count_by-push is_cast steps Close)
