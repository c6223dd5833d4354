-- Which files are opened, call by call.
use Rattle.std.proofs.Common.{◌≡◌, ◌≤◌, ℕ, zero, suc, List, [], ◌∷◌, length, take, Some, Ok, inl, inr}
use Rattle.mt_model.specs.Form.{Form}
use Rattle.mt_model.specs.Log.{Logged}
use Rattle.mt_port.specs.Port.{Files, Openings, Opens, file_of}
use Rattle.mtl_parse.specs.FormulaOf.{FormulaOf}
use Rattle.skew_words.specs.Words.{Word}
use Rattle.skew_commands.specs.declared.limits.TheConstants.{FORMULA_LIMIT}
use Rattle.skew_commands.specs.Openings.{OpensAtMost, OpensInTurn, OpensMoreOnly, PassesFormula, PassesHosts}
use Rattle.skew_commands.specs.Reads.{IsQuestion}

-- none of some names
pub none-opened : (names : List Word) (a : Openings) → OpensAtMost names a a
none-opened names a = (0, λ past h. h)

-- two names, and at most some others behind them
pub more-opened : (first second : Word) (names : List Word) (a b c : Openings) → Opens (first ∷ second ∷ []) a b → OpensAtMost names b c → OpensAtMost (first ∷ second ∷ names) a c
more-opened first second names a b c both more = (suc (suc more.0), λ past h. more.1 (second ∷ first ∷ past) (both past h))

so-many : (n : ℕ) (first second : Word) (names : List Word) (a b : Openings) → Opens (take n (first ∷ second ∷ [])) a b → OpensAtMost (first ∷ second ∷ names) a b
so-many zero first second names a b h = (0, h)
so-many (suc zero) first second names a b h = (1, h)
so-many (suc (suc zero)) first second names a b h = (2, h)
so-many (suc (suc (suc n))) first second names a b h = (2, h)

-- at most two names are at most these and others
pub two-of-more : (first second : Word) (names : List Word) (a b : Openings) → OpensAtMost (first ∷ second ∷ []) a b → OpensAtMost (first ∷ second ∷ names) a b
two-of-more first second names a b most = so-many most.0 first second names a b most.1

-- the log's turn, once the formula was read
pub formula-passed : (files : Files) (formula : Word) (text : List ℕ) (f : Form) → file_of files formula ≡ Some text → length text ≤ FORMULA_LIMIT → FormulaOf text (Ok f) → PassesFormula files formula
formula-passed files formula text f held within reads = record { text = text; held = held; within = within; f = f; reads = reads }

module _ (files : Files) (formula log : Word) where
  -- a formula and a log that were read have no third file opened after them
  pub question-opened : (a b : Openings) → OpensAtMost (formula ∷ log ∷ []) a b → OpensMoreOnly (formula ∷ []) (PassesFormula files formula) a b → OpensInTurn files formula log a b
  question-opened a b most second = record { second = second; third = inl most }

  -- or one whose turn it is
  pub third-opened : (text : List ℕ) (f : Form) (l : Logged) (a b c : Openings) → IsQuestion files formula log text f l → Opens (formula ∷ log ∷ []) a b
      → OpensMoreOnly [] (PassesHosts f l) b c → OpensInTurn files formula log a c
  third-opened text f l a b c q both (inl none) = record { second = inr (formula-passed files formula text f q.text_held q.text_within q.formula_read); third = inl (more-opened formula log [] a b c both none) }
  third-opened text f l a b c q both (inr passed) = record {
    second = inr (formula-passed files formula text f q.text_held q.text_within q.formula_read);
    third = inr (record { text = text; f = f; l = l; read = q; hosts = passed });
  }
