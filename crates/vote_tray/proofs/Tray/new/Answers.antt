use Rattle.std.proofs.Common.{All, arith, refl, sym, ap, subst, zero-le}
use Rattle.vote_tray.specs.Passes.{IsSound}
use Rattle.vote_tray.proofs.Deals.{all_sound}
use Rattle.vote_tray.proofs.Keeps.{opens, first_view-sound, some_range}
use Rattle.vote_tray.proofs.Tray.new.Goals as goal

pub of_words-requires : goal.of_words-requires
of_words-requires c = opens _

pub invariant_of-deal : goal.invariant_of-deal
invariant_of-deal c = let made = c.in_ok-table.ensures.4 in rw made (zero-le, refl, some_range _ _ (omega arith), first_view-sound _)

pub returns-clause-sound : goal.returns-clause-sound
returns-clause-sound c = subst (All IsSound) (sym c.in_ok-dealt.ensures.1) (all_sound _ c.args.passes (sym (ap (λ counts. counts.passes) c.in_ok-table.ensures.5)))
