-- The words of a count.
use Rattle.std.specs.Prelude.{Bool, true, false, List, [], ◌∷◌, codes}
use Rattle.vote_poll_text.specs.Texts.{Text}

-- a casting vote for the option `B`, if there is one
abbrev pub casting_words : Bool → List Text
casting_words false = []
casting_words true = codes "--casting" ∷ codes "B" ∷ []

-- they ask for the sheet of the files `poll` and `ballots`
abbrev pub count_words : Bool → List Text
count_words casting = codes "count" ∷ codes "--poll" ∷ codes "poll" ∷ codes "--ballots" ∷ codes "ballots" ∷ casting_words casting
