-- The rows before this one have the votes of the running matrix, the sums of its settled parts and its changes. The others are still 0.
use Rattle.std.proofs.Common.{◌≡◌, ℕ, ◌-◌, ◌<◌, [], get_or, length, replicate, ap, sym, ◌∙◌, arith}
use Rattle.std.proofs.lemmas.List.{get_or-replicate, length-replicate, length-set}
use Rattle.vote_poll.specs.declared.TheConstants.{MAX_OPTIONS}
use Rattle.vote_count.specs.Votes.{Votes, votes}
use Rattle.vote_count.specs.Changes.{sum_at}
use Rattle.vote_count.proofs.Cells.{rows_done, rows_wide, votes_at}
use Rattle.vote_count.proofs.RunningLemmas.{sum-seen-at}
use Rattle.vote_count.proofs.running_matrix.RunningMatrix.matrix.Goals as goal

pub loop-row-init : goal.loop-row-init
loop-row-init c = record {
  long = length-replicate MAX_OPTIONS (replicate {A = ℕ} MAX_OPTIONS 0);
  wide = λ i within. ap length (get_or-replicate MAX_OPTIONS i (replicate {A = ℕ} MAX_OPTIONS 0) [] within) ∙ length-replicate {A = ℕ} MAX_OPTIONS 0;
  filled = λ i j none. absurd (omega (arith, none));
}

pub loop-row-preserved : goal.loop-row-preserved
loop-row-preserved c =
    let row = c.loop-row.row in
    let counts = c.loop-row.counts in
    let filled = c.fill_row.new.counts in
    let within : row < length counts = omega (arith, c.loop-row.invariant.long, c.self.invariant.few) in
    record {
      long = length-set counts row filled ∙ c.loop-row.invariant.long;
      wide = rows_wide counts row filled within MAX_OPTIONS MAX_OPTIONS c.loop-row.invariant.wide c.fill_row.ensures.long;
      filled = λ i j before in_j. rows_done counts row filled within (λ i r. get_or r j 0 ≡ sum_at c.self.inside.settled c.self.inside.changes i j)
          (λ i earlier. c.loop-row.invariant.filled i j earlier in_j) (c.fill_row.ensures.votes j in_j) i before;
    }

pub returns-clause-votes : goal.returns-clause-votes
returns-clause-votes c a b of_a of_b =
    let same : c.self.inside.options ≡ c.args.self.now.options = ap (λ (m : Votes). m.options) c.self.view_is in
    let whole : Votes = record { options = c.self.inside.options; rows = c.loop-row.counts } in
    ap (λ (m : Votes). votes m a b) c.of_rows.ensures
    ∙ votes_at whole a b of_a.0 of_b.0
    ∙ c.loop-row.invariant.filled (a - 1) (b - 1) (omega (arith, of_a)) (omega (arith, of_b))
    ∙ sym (sum-seen-at c.self.inside a b (of_a.0, omega (arith, of_a.1, c.self.invariant.few)) (of_b.0, omega (arith, of_b.1, c.self.invariant.few)))
    ∙ ap (λ (m : Votes). votes m a b) c.self.view_is
