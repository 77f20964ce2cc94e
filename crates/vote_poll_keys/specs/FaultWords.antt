-- The words of a poll file's fault, in its fault line and in what `explain` says.
use Rattle.std.specs.Prelude.{ℕ, List, ◌++◌, codes, decimal}
use Rattle.vote_poll_keys.specs.Keys.{key_name}
use Rattle.vote_poll_keys.specs.declared.fault.PollFault.{PollFault}
use Rattle.vote_poll_keys.specs.declared.fault.PollFault.TheVariants as fault

-- the words after `poll refused: `, with which `explain` begins too
abbrev pub fault_words : PollFault → List ℕ
fault_words fault.Syntax = codes "syntax"
fault_words (fault.Key name) = codes "key " ++ key_name name
fault_words fault.Title = codes "title"
fault_words fault.OptionCount = codes "number of options"
fault_words (fault.OptionName option) = codes "name of option " ++ decimal option
fault_words fault.Ratio = codes "ratios"
fault_words fault.Quorum = codes "quorum"
fault_words fault.RollSize = codes "size of roll"
fault_words (fault.VoterName place) = codes "voter at position " ++ decimal place
fault_words fault.LastEnvelope = codes "last envelope"
fault_words fault.Wording = codes "wording"
fault_words fault.Memory = codes "out of memory"

-- the whole fault line, after `debvote: `; running out of memory does not refuse a poll
abbrev pub fault_line : PollFault → List ℕ
fault_line fault.Memory = fault_words fault.Memory
fault_line e = codes "poll refused: " ++ fault_words e
