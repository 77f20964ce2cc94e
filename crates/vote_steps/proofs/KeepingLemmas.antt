-- How the fields of a ballot box keep its history through one more step.
use Rattle.std.proofs.Common.{◌≡◌, ℕ, ◌+◌, ◌-◌, ◌<◌, ◌≤◌, Bool, true, false, ◌||◌, cond, ltb, List, [], ◌∷◌, ◌++◌, Some, None, length, get_or, set, refl, sym, ap, ◌∙◌, ⊎_elim, arith, replicate, Vec, vec_len, vec_capacity, Global}
use Rattle.std.specs.Vec.{with_item}
use Rattle.std.proofs.Math.Bool.{or-false}
use Rattle.std.proofs.lemmas.Bool.{eq-eqb, ne_eqb, or_right, lt-ltb, le-ltb, cases_Bool, cases_eq, cases_lt}
use Rattle.std.proofs.lemmas.List.{ext_get_or, get_or_past, get_or-replicate, length-replicate, get_or-set_same, get_or-set_other}
use Rattle.vote_poll.specs.declared.Reading.{Reading}
use Rattle.vote_poll.specs.declared.Reading.TheVariants.{Ballot, Bad}
use Rattle.vote_count.proofs.Counts.{one_at_most}
use Rattle.vote_steps.specs.declared.ballot_box.BallotBox.TheInside.{Inside}
use Rattle.vote_steps.specs.declared.roll.Roll.{Roll}
use Rattle.vote_steps.specs.declared.step.Received.{Received}
use Rattle.vote_steps.specs.declared.step.Reply.{Reply}
use Rattle.vote_steps.specs.declared.step.Step.{Step}
use Rattle.vote_steps.specs.declared.step.Step.TheVariants.{Cast, Close}
use Rattle.vote_steps.specs.Receiving.{after_ballot, ballots_given, reply_given, with_reading}
use Rattle.vote_steps.specs.History.{is_closed, is_used, is_valid, standing, reply_to, roll, valid, refused}
use Rattle.vote_poll.specs.Readings.{ReadingFits}
use Rattle.vote_poll_text.specs.declared.lines.TheConstants.{MAX_LINES}
use Rattle.vote_steps.specs.declared.TheConstants.{MAX_DESKS}
use Rattle.vote_steps.specs.Boxes.{MayBeCast}
use Rattle.vote_steps.specs.Keeping.{state_of, KeepsHistory}
use Rattle.vote_steps.proofs.HistoryLemmas.{is_closed-append, valid-cast, valid-close, refused-cast, refused-close, valid-refused, is_used-cast, is_used-close, get_or-roll, length-roll, late_gives_none, none_either, roll-closed, roll-close, roll-none, roll-ballot}
use Rattle.vote_steps.proofs.LegalLemmas.{casts_within, casts_below, length-steps}
use Rattle.vote_steps.proofs.BoxLemmas.{IsLegal-append, standing_past}

-- the roll's entry of a voter, and None after its end
pub standing_at : (a : Inside) (v : ℕ) → KeepsHistory a → get_or a.roll.ballots.items v None ≡ standing a.last_in_time a.steps.items v
standing_at a v k =
    ⊎_elim
    (λ (inside : v < vec_len a.roll.ballots). ap (λ xs. get_or xs v None) k.roll_is ∙ get_or-roll a.last_in_time a.steps.items (vec_len a.roll.ballots) v inside)
    (λ (past : vec_len a.roll.ballots ≤ v).
    get_or_past a.roll.ballots.items v None (omega (arith, past, a.roll.ballots.ok.0)) ∙ sym (standing_past (state_of a) v k.legal past))
    (cases_lt v (vec_len a.roll.ballots))

-- the reply by the marks and the roll of a box is the one that its steps call for
pub answer_is : (a : Inside) (n : ℕ) (r : Reading) → KeepsHistory a → reply_given a.closed (ltb a.last_in_time n) a.roll.ballots.items n r ≡ reply_to a.last_in_time a.steps.items n r
answer_is a n (Bad f) k = rw k.closed refl
answer_is a n (Ballot v ranks) k = rw (k.closed, standing_at a v k) refl

-- the ballots that stand after a cast
in_time : (a : Inside) (d n : ℕ) (r : Reading) (p : Reply) → KeepsHistory a → ReadingFits a.roll.matrix.options (vec_len a.roll.ballots) r → is_closed a.steps.items ≡ false → n ≤ a.last_in_time
    → with_reading a.roll.ballots.items n r ≡ roll a.last_in_time (a.steps.items ++ Cast d n r p ∷ []) (vec_len a.roll.ballots)
in_time a d n (Bad f) p k fits t early = k.roll_is ∙ sym (roll-none a.last_in_time a.steps.items (Cast d n (Bad f) p) (vec_len a.roll.ballots) t (λ v. none_either (ltb a.last_in_time n)))
in_time a d n (Ballot v ranks) p k fits t early =
    let b : Received = record { stamp = n; ranks = ranks } in
    ap (λ xs. set xs v (Some (after_ballot (get_or xs v None) b))) k.roll_is ∙ sym (roll-ballot a.last_in_time a.steps.items d b v p (vec_len a.roll.ballots) t early fits.0)

pub roll-cast : (a : Inside) (d n : ℕ) (r : Reading) (p : Reply) → KeepsHistory a → ReadingFits a.roll.matrix.options (vec_len a.roll.ballots) r
    → ballots_given a.closed (ltb a.last_in_time n) a.roll.ballots.items n r ≡ roll a.last_in_time (a.steps.items ++ Cast d n r p ∷ []) (vec_len a.roll.ballots)
roll-cast a d n r p k fits =
    ⊎_elim
    (λ (t : is_closed a.steps.items ≡ true). rw (k.closed ∙ t) (k.roll_is ∙ sym (roll-closed a.last_in_time a.steps.items (Cast d n r p) (vec_len a.roll.ballots) t)))
    (λ (t : is_closed a.steps.items ≡ false).
    ⊎_elim
    (λ (late : a.last_in_time < n). rw (k.closed ∙ t, lt-ltb a.last_in_time n late) (k.roll_is ∙ sym (roll-none a.last_in_time a.steps.items (Cast d n r p) (vec_len a.roll.ballots) t (λ v. late_gives_none a.last_in_time v d n r p late))))
    (λ (early : n ≤ a.last_in_time). rw (k.closed ∙ t, le-ltb a.last_in_time n early) (in_time a d n r p k fits t early))
    (cases_lt a.last_in_time n))
    (cases_Bool (is_closed a.steps.items))

-- a number that is not marked has not been used, so there is room for its step
pub unused : (a : Inside) (n : ℕ) → KeepsHistory a → 1 ≤ n → n ≤ a.limit → get_or a.used.items (n - 1) false ≡ false → is_used a.steps.items n ≡ false
unused a n k low high mark =
    let same : n - 1 + 1 ≡ n = omega arith in
    sym (ap (is_used a.steps.items) same) ∙ sym (k.used_is (n - 1) (omega arith)) ∙ mark

-- a number is left, so not all casts are made
steps_left : (a : Inside) (n : ℕ) → KeepsHistory a → 1 ≤ n → n ≤ a.limit → get_or a.used.items (n - 1) false ≡ false → length a.steps.items ≤ a.limit
steps_left a n k low high mark =
    let less = casts_below (state_of a) n k.legal low high (unused a n k low high mark) in
    omega (arith, less, length-steps (state_of a) k.legal, one_at_most (is_closed a.steps.items))

pub totals_within : (a : Inside) → KeepsHistory a → a.valid + a.refused ≤ a.limit
totals_within a k = omega (arith, k.valid_is, k.refused_is, valid-refused a.last_in_time a.steps.items, casts_within (state_of a) k.legal)

mark_is : (a : Inside) (d n : ℕ) (r : Reading) (p : Reply) → KeepsHistory a → 1 ≤ n → n ≤ a.limit → (place : ℕ) → place < a.limit
    → get_or (set a.used.items (n - 1) true) place false ≡ is_used (a.steps.items ++ Cast d n r p ∷ []) (place + 1)
mark_is a d n r p k low high place lt =
    let len : length a.used.items ≡ a.limit = sym a.used.ok.0 ∙ k.places in
    ⊎_elim
    (λ (same : n ≡ place + 1).
    let at : place ≡ n - 1 = omega arith in
    ap (λ i. get_or (set a.used.items (n - 1) true) i false) at ∙ get_or-set_same a.used.items (n - 1) true false (omega arith)
    ∙ sym (is_used-cast a.steps.items d n r p (place + 1) ∙ ap (λ b. is_used a.steps.items (place + 1) || b) (eq-eqb n (place + 1) same) ∙ or_right (is_used a.steps.items (place + 1)) true refl))
    (λ (other : n ≡ place + 1 → ⊥).
    get_or-set_other a.used.items (n - 1) place true false (λ e. other (omega arith)) ∙ k.used_is place lt
    ∙ sym (is_used-cast a.steps.items d n r p (place + 1) ∙ ap (λ b. is_used a.steps.items (place + 1) || b) (ne_eqb n (place + 1) other) ∙ or-false (is_used a.steps.items (place + 1))))
    (cases_eq n (place + 1))

pub steps_below : (a : Inside) (n : ℕ) → KeepsHistory a → 1 ≤ n → n ≤ a.limit → get_or a.used.items (n - 1) false ≡ false → vec_len a.steps < vec_capacity a.steps
steps_below a n k low high mark = let left = steps_left a n k low high mark in omega (arith, left, k.room, a.steps.ok.0)

pub keeps_cast : (a : Inside) (new : Roll) (v w : ℕ) (steps : Vec Step Global) (d n : ℕ) (r : Reading) (p : Reply) → KeepsHistory a
    → (1 ≤ d) × (d ≤ MAX_DESKS) → 1 ≤ n → n ≤ a.limit → ReadingFits a.roll.matrix.options (vec_len a.roll.ballots) r → get_or a.used.items (n - 1) false ≡ false
    → p ≡ reply_to a.last_in_time a.steps.items n r → new.ballots.items ≡ ballots_given a.closed (ltb a.last_in_time n) a.roll.ballots.items n r
    → new.matrix.options ≡ a.roll.matrix.options → vec_len new.ballots ≡ vec_len a.roll.ballots → v ≡ a.valid + cond (is_valid p) 1 0 → w ≡ a.refused + cond (is_valid p) 0 1
    → steps.items ≡ a.steps.items ++ Cast d n r p ∷ [] → vec_capacity a.steps ≤ vec_capacity steps
    → KeepsHistory (record a { roll = new; valid = v; refused = w; used = with_item a.used (n - 1) true; steps = steps })
keeps_cast a new v w steps d n r p k desk low high fits mark answered ballots options electors valid_more refused_more items more =
    let may : MayBeCast (state_of a) a.steps.items d n r p =
    record { desk_fits = desk; stamp_fits = (low, high); stamp_new = unused a n k low high mark; reading_fits = fits; answered = answered } in
    record {
      legal = rw (options, electors, items) (IsLegal-append (state_of a) (Cast d n r p) k.legal may);
      closed = k.closed ∙ sym (ap is_closed items ∙ is_closed-append a.steps.items (Cast d n r p) ∙ or-false (is_closed a.steps.items));
      roll_is = rw (items, electors) (ballots ∙ roll-cast a d n r p k fits);
      valid_is = rw items (omega (arith, k.valid_is, valid-cast a.last_in_time a.steps.items d n r p answered));
      refused_is = rw items (omega (arith, k.refused_is, refused-cast a.last_in_time a.steps.items d n r p answered));
      used_is = λ place lt. rw items (mark_is a d n r p k low high place lt);
      places = k.places;
      limit_fits = k.limit_fits;
      last_fits = k.last_fits;
      room = omega (arith, k.room);
    }

-- a box that is not closed has room for its close
pub close_below : (a : Inside) → KeepsHistory a → a.closed ≡ false → vec_len a.steps < vec_capacity a.steps
close_below a k h = omega (arith, k.room, a.steps.ok.0, length-steps (state_of a) k.legal, casts_within (state_of a) k.legal, ap (λ t. cond {A = ℕ} t 1 0) (sym k.closed ∙ h))

pub keeps_close : (a : Inside) (new : Vec Step Global) → KeepsHistory a → a.closed ≡ false
    → new.items ≡ a.steps.items ++ Close ∷ [] → vec_len new ≡ vec_len a.steps + 1 → vec_capacity a.steps ≤ vec_capacity new
    → KeepsHistory (record a { steps = new; closed = true })
keeps_close a new k h items len more =
    let open' : is_closed a.steps.items ≡ false = sym k.closed ∙ h in
    let grown = IsLegal-append (state_of a) Close k.legal open' in
    record {
      legal = rw items grown;
      closed = sym (ap is_closed items ∙ is_closed-append a.steps.items Close ∙ or_right (is_closed a.steps.items) true refl);
      roll_is = rw items (k.roll_is ∙ sym (roll-close a.last_in_time a.steps.items (vec_len a.roll.ballots) open'));
      valid_is = rw items (k.valid_is ∙ sym (valid-close a.last_in_time a.steps.items));
      refused_is = rw items (k.refused_is ∙ sym (refused-close a.last_in_time a.steps.items));
      used_is = λ place lt. rw items (k.used_is place lt ∙ sym (is_used-close a.steps.items (place + 1)));
      places = k.places;
      limit_fits = k.limit_fits;
      last_fits = k.last_fits;
      room = omega (arith, more, k.room);
    }

-- a new box
is_false : (n : ℕ) (d : Bool) (k : ℕ) → k < n → get_or (replicate n false) k d ≡ false
is_false n d k h = get_or-replicate n k false d h

roll-empty : (last n : ℕ) → roll last [] n ≡ replicate n None
roll-empty last n = ext_get_or None (roll last [] n) (replicate n None) (length-roll last [] n ∙ sym (length-replicate n None))
    (λ k h. get_or-roll last [] n k (omega (arith, h, length-roll last [] n)) ∙ sym (get_or-replicate n k None None (omega (arith, h, length-roll last [] n))))

nothing : (before after : List Step) (step : Step) → [] ≡ before ++ step ∷ after → ⊥
nothing [] after step e = cc
nothing (x ∷ before) after step e = cc

pub keeps_new : (a : Inside) → a.steps.items ≡ [] → a.limit + 1 ≤ vec_capacity a.steps → a.closed ≡ false → a.valid ≡ 0 → a.refused ≡ 0
    → a.used.items ≡ replicate a.limit false → a.roll.ballots.items ≡ replicate (vec_len a.roll.ballots) None → vec_len a.used ≡ a.limit → a.limit ≤ MAX_LINES → a.last_in_time ≤ MAX_LINES → KeepsHistory a
keeps_new a steps room closed valid refused used ballots places few last =
    record {
      legal = λ before after step e. absurd (nothing before after step (sym steps ∙ e));
      closed = closed ∙ sym (ap is_closed steps);
      roll_is = rw steps (ballots ∙ sym (roll-empty a.last_in_time (vec_len a.roll.ballots)));
      valid_is = rw steps valid;
      refused_is = rw steps refused;
      used_is = λ place lt. rw (steps, used) (is_false a.limit false place lt);
      places = places;
      limit_fits = few;
      last_fits = last;
      room = room;
    }
