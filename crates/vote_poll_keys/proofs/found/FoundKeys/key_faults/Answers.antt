use Rattle.vote_poll_keys.proofs.KeyLaws.{keys_all, keys_more}
use Rattle.vote_poll_keys.proofs.found.FoundKeys.key_faults.Goals as goal

pub loop-key-preserved : goal.loop-key-preserved
loop-key-preserved c = keys_more _ _ c.loop-key.key-index _ _ c.loop-key-test.true c.loop-key.invariant c.in_ok-push_key_fault.ensures

pub returns : goal.returns
returns c = keys_all _ _ c.loop-key.key-index _ c.loop-key-test.false c.loop-key.invariant
