use Rattle.std.proofs.Common.{◌≡◌, ◌∙◌, false, get_or}
use Rattle.std.specs.Str.{bytes_eq}
use Rattle.vote_poll_keys.specs.declared.fault.PollKey.{PollKey}
use Rattle.vote_poll_keys.specs.declared.fault.PollKey.TheVariants as key
use Rattle.vote_poll_keys.specs.Keys.{all_keys, key_name}
use Rattle.vote_poll_keys.proofs.KeyLaws.{found_later}
use Rattle.vote_poll_keys.proofs.fault.PollKey.named.Goals as goal

pub loop-key-preserved : goal.loop-key-preserved
loop-key-preserved c =
    let other : bytes_eq (key_name (get_or all_keys c.loop-key.key-index key.Title)) c.args.name.now ≡ false = cc in
    found_later (λ (key : PollKey). bytes_eq (key_name key) c.args.name.now) all_keys c.loop-key.key-index key.Title c.loop-key-test.true other ∙ c.loop-key.invariant
