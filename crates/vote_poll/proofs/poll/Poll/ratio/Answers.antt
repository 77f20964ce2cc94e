use Rattle.std.proofs.Common.{◌-◌, ◌<◌, ◌∙◌, Global, length, ap, sym, arith, string_bytes}
use Rattle.std.proofs.lemmas.List.{get_or_default, length-map}
use Rattle.vote_poll.specs.PollContent.{PollContent, option_count, ratio_of}
use Rattle.vote_poll.proofs.OptionLaws.{at_option-in}
use Rattle.vote_poll.proofs.poll.Poll.ratio.Goals as goal

pub returns-clause-ratio : goal.returns-clause-ratio
returns-clause-ratio c =
    let ratios = c.self.inside.ratios.items in
    let within : c.args.option - 1 < length c.self.inside.ratios.items =
    omega (arith, c.requires.first, c.requires.below_default, c.self.invariant.ratio_count, ap option_count c.self.view_is, length-map c.self.inside.options.items (string_bytes {Z = Global})) in
    c.index.ensures ∙ get_or_default ratios (c.args.option - 1) c.index.result.now 0 within ∙ sym (at_option-in ratios c.args.option 0 c.requires.first) ∙ ap (λ (poll : PollContent). ratio_of poll c.args.option) c.self.view_is

pub index-requires : goal.index-requires
index-requires c =
    omega (arith, c.requires.first, c.requires.below_default, c.self.invariant.ratio_count, ap option_count c.self.view_is, length-map c.self.inside.options.items (string_bytes {Z = Global}))
