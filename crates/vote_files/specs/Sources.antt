-- What is told of the readings of files and of standard input.
use Rattle.std.specs.Prelude.{◌≡◌, ℕ, List, ◌++◌, Option, Some, IfSome}
use Rattle.vote_files.specs.declared.input.ReadFault.{ReadFault}

-- one reading of a file: its name, and why it was not read, if it was not
pub record FileReading : Type 0 where
  pub name : List ℕ
  pub fault : Option ReadFault

-- from one state to the next just these readings are made, in this order, if readings are told
abbrev pub HasRead : {S A : Type 0} → (S → Option (List A)) → S → S → List A → Type 0
HasRead readings old new made = IfSome (readings old) (λ before. readings new ≡ Some (before ++ made))
