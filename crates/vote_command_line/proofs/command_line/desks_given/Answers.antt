use Rattle.std.proofs.Common.{◌≡◌, ◌∙◌, arith, ap, codes, inl, inr, sym, unwrap_or}
use Rattle.std.specs.Str.Parse.{ExplainsUnsignedError, HasUnsignedDigitsIfOk, ParsesUnsigned}
use Rattle.clap.specs.Words.{found_of}
use Rattle.vote_command_line.proofs.ArgLemmas.{no_number_read, number_read}
use Rattle.vote_command_line.proofs.command_line.desks_given.Goals as goal

pub returns-in_err-desks-clause-none : goal.returns-in_err-desks-clause-none
returns-in_err-desks-clause-none c = rw c.from_residual.ensures (λ desks has.
    no_number_read (λ bs r. ParsesUnsigned 8 10 bs r × ExplainsUnsignedError 10 bs r × HasUnsignedDigitsIfOk bs r) (λ text r h. h.0)
    (found_of c.args.given.now) (codes "desks") desks c.get_one.result (omega (arith, has.1)) (λ e. (let none = c.in_err-desks.was in cc)) c.get_one.ensures.value has.2)

pub returns-then-desks-le-MAX_DESKS-clause-found : goal.returns-then-desks-le-MAX_DESKS-clause-found
returns-then-desks-le-MAX_DESKS-clause-found c = (
  c.if-desks-ge1.true,
  c.if-desks-le-MAX_DESKS.true,
  number_read (λ bs r. ParsesUnsigned 8 10 bs r × ExplainsUnsignedError 10 bs r × HasUnsignedDigitsIfOk bs r) (λ text n h. (h.0.0.0, h.0.1))
      (found_of c.args.given.now) (codes "desks") c.in_ok-desks.desks c.get_one.result c.in_ok-desks.was c.get_one.ensures.none c.get_one.ensures.value,
)

pub returns-else-desks-ge1-clause-none : goal.returns-else-desks-ge1-clause-none
returns-else-desks-ge1-clause-none c desks has =
    no_number_read (λ bs r. ParsesUnsigned 8 10 bs r × ExplainsUnsignedError 10 bs r × HasUnsignedDigitsIfOk bs r) (λ text r h. h.0)
    (found_of c.args.given.now) (codes "desks") desks c.get_one.result (omega (arith, has.1))
    (λ e.
    let same : c.in_ok-desks.desks ≡ desks = ap (λ o. unwrap_or o 0) (sym c.in_ok-desks.was ∙ e) in
    elim c.else-desks-ge1.either [ inl many ↦ absurd (omega (arith, many.1, has.1)) | inr none ↦ absurd (omega (arith, has.0)) ])
    c.get_one.ensures.value has.2
