use Rattle.std.proofs.Common.{◌≡◌, ◌++◌, ap, ◌∙◌, string_bytes}
use Rattle.std.specs.Str.{chars, encode_utf8_all}
use Rattle.std.proofs.lemmas.Iterator.{YieldsList-from_chars}
use Rattle.std.proofs.lemmas.Iterator.Consumers.{YieldsList-end}
use Rattle.vote_sheet.specs.Picture.{quoted}
use Rattle.vote_sheet.proofs.Quoting.{chars_spell, nothing_more, one_char_more, same_list}
use Rattle.vote_sheet.proofs.picture.push_quoted.Goals as goal

pub loop-character-init : goal.loop-character-init
loop-character-init c = nothing_more (string_bytes c.args.text.now)

pub loop-character-preserved : goal.loop-character-preserved
loop-character-preserved c =
    one_char_more (string_bytes c.args.text.now) c.loop-character.yielded c.in-Some.character (string_bytes c.loop-character.text) (string_bytes c.push_quoted_char.new.text)
    c.loop-character.invariant c.in_ok-push_quoted_char.ensures

pub returns : goal.returns
returns c =
    let t = YieldsList-end (YieldsList-from_chars c.args.name.now c.utf8.name cc) c.loop-character.yielded _ c.loop-character.yielded_by _ _ c.in-None.is c.next.ensures.steps in
    let all : c.loop-character.yielded ≡ chars c.args.name.now = same_list c.loop-character.yielded ∙ t.0 in
    c.loop-character.invariant ∙ ap (λ cs. string_bytes c.args.text.now ++ quoted (encode_utf8_all cs)) all ∙ ap (λ t. string_bytes c.args.text.now ++ quoted t) (chars_spell c.args.name.now c.utf8.name)
