use Rattle.std.proofs.Common.{◌≡◌, ℕ, ◌<◌, ◌^◌, List, Bool, sym, ap, ◌∙◌, arith}
use Rattle.vote_poll.specs.declared.TheConstants.{MAX_OPTIONS}
use Rattle.vote_count.specs.Bits.{mask_l, marks_of, mask_l-marks_of}
use Rattle.vote_count.proofs.options.OptionSetPartialEq.eq.Goals as goal

-- the marks of a set give its word
word_of : (n : ℕ) (marks : List Bool) → n < 2 ^ MAX_OPTIONS → marks_of MAX_OPTIONS n ≡ marks → mask_l marks ≡ n
word_of n marks h is = ap mask_l (sym is) ∙ mask_l-marks_of MAX_OPTIONS n h

pub returns : goal.returns
returns c = grind (arith, word_of)
