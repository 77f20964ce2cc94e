-- What the system gives the program.
use Rattle.std.specs.Prelude.{◌≡◌, ◌⊎◌, false}
use Rattle.vote_command_line.specs.declared.ArgsFault.{ArgsFault}
use Rattle.vote_command_line.specs.declared.ArgsFault.TheVariants.{NotUtf8, Memory}
use Rattle.vote_commands.specs.TakingVotes.{AreTakenAtDesks, Taking}

-- the words are not UTF-8, or there is no memory for them
abbrev pub AreNotGiven : ArgsFault → Type 0
AreNotGiven fault = (fault ≡ NotUtf8) ⊎ (fault ≡ Memory)

-- the votes are taken in threads, with no gate that may stop a desk
abbrev pub TakesInThreads : Taking
TakesInThreads poll lines desks taken = AreTakenAtDesks (λ desk. false) poll.now lines.now desks taken
