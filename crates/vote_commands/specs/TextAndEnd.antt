-- The text that a run writes, and how the run ends.
use Rattle.vote_poll_text.specs.Texts.{Text}
use Rattle.vote_commands.specs.declared.fault.Ended.{Ended}

pub record TextAndEnd : Type 0 where
  pub text : Text
  pub end : Ended
