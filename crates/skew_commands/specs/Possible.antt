-- What a command can give whatever its files hold: what is due of some files, under some names.
use Rattle.std.specs.Prelude.{ℕ, List}
use Rattle.mt_port.specs.Port.{Files}
use Rattle.skew_answers.specs.declared.status.Status.{Status}
use Rattle.skew_words.specs.Words.{Word}

-- what is due of some files, under some name of the one that is read
pub record OfSomeFile (Due : Files → Word → List ℕ → Status → Type 0) (out : List ℕ) (s : Status) : Type 0 where
  pub files : Files
  pub name : Word
  pub due : Due files name out s

-- what is due of some files, under some names of the formula and the log
pub record OfSomeQuestion (Due : Files → Word → Word → List ℕ → Status → Type 0) (out : List ℕ) (s : Status) : Type 0 where
  pub files : Files
  pub formula : Word
  pub log : Word
  pub due : Due files formula log out s

-- what is due of some files, under some names of the formula, the log and a third file
pub record OfSomeThird (Due : Files → Word → Word → Word → List ℕ → Status → Type 0) (out : List ℕ) (s : Status) : Type 0 where
  pub files : Files
  pub formula : Word
  pub log : Word
  pub third : Word
  pub due : Due files formula log third out s
