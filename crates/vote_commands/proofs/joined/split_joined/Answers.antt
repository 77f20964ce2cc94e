use Rattle.std.proofs.Common.{◌≡◌, ◌∙◌, ap, arith, length, subst, sym, rules, take, drop}
use Rattle.std.proofs.lemmas.List.{take_rest}
use Rattle.vote_commands.specs.Joined.{AreParts, is_separator_at, joined_parts, parts_at}
use Rattle.vote_poll_text.specs.Texts.{Text}
use Rattle.vote_commands.proofs.FirstPlace.{first_place, no_place}
use Rattle.vote_commands.proofs.JoinedLaws.{inputs_are_parted}
use Rattle.vote_commands.proofs.joined.split_joined.Goals as goal

are_parts : (input : Text) (parts : Text × Text) → parts ≡ joined_parts input → AreParts input parts.0 parts.1
are_parts input parts same = subst (λ (found : Text × Text). AreParts input found.0 found.1) (sym same) (inputs_are_parted input)

pub returns-then-is_separator_at-clause-same : goal.returns-then-is_separator_at-clause-same
returns-then-is_separator_at-clause-same c =
    let found = first_place (is_separator_at c.args.input.now) (length c.args.input.now) c.loop-at.at (omega arith) c.loop-at.invariant (search rules) in
    ap (λ (rest : Text). let pair : Text × Text = (take c.loop-at.at c.args.input.now, rest) in pair)
    (c.bytes_from.ensures ∙ ap (drop 3) (take_rest c.args.input.now c.loop-at.at))
    ∙ ap (parts_at c.args.input.now) (sym found)

pub returns-then-is_separator_at-clause-parts : goal.returns-then-is_separator_at-clause-parts
returns-then-is_separator_at-clause-parts c = are_parts c.args.input.now (_, _) (returns-then-is_separator_at-clause-same c)

pub returns-clause-same : goal.returns-clause-same
returns-clause-same c =
    let none = no_place (is_separator_at c.args.input.now) (length c.args.input.now) (search rules) in
    ap (parts_at c.args.input.now) (sym none)

pub returns-clause-parts : goal.returns-clause-parts
returns-clause-parts c = are_parts c.args.input.now (_, _) (returns-clause-same c)
