-- The fault line of a ballot file's fault: the words after `debvote: `.
use Rattle.std.specs.Prelude.{ℕ, List, codes}
use Rattle.vote_poll_text.specs.declared.lines.LinesFault.{LinesFault}
use Rattle.vote_poll_text.specs.declared.lines.LinesFault.TheVariants as fault

abbrev pub fault_line : LinesFault → List ℕ
fault_line fault.TooMany = codes "ballots refused: too many lines"
fault_line fault.Memory = codes "out of memory"
