-- Clauses with the hints that cite them, and lines that derive.
use Rattle.std.specs.Prelude.{◌≡◌, ℕ, zero, suc, ◌+◌, ◌^◌, ◌<◌, Bool, true, false, IsTrue, List, [], ◌∷◌, ◌++◌, length, map, Some, All, slice_index_or}
use Rattle.mt_model.specs.Form.{Form}
use Rattle.mt_model.specs.Log.{Logged, IsLog}
use Rattle.clause_db.specs.declared.lit.Lit.{Lit}
use Rattle.clause_db.specs.Clauses.{clause_at}
use Rattle.axiom_rules.specs.declared.literal.Atom.{Atom}
use Rattle.axiom_rules.specs.declared.literal.Atom.TheVariants.{Order, Node, First, Same, Wit, Span, Gap}
use Rattle.axiom_rules.specs.declared.literal.Literal.{Literal}
use Rattle.axiom_rules.specs.declared.rule.Rule.{Rule}
use Rattle.axiom_rules.specs.Sought.{Sought, sought_of}
use Rattle.proof_log.specs.declared.line.Hint.{Hint}
use Rattle.proof_log.specs.declared.line.Hint.TheVariants as hint
use Rattle.proof_log.specs.declared.line.Line.{Line}
use Rattle.proof_log.specs.declared.line.Line.TheVariants as line
use Rattle.proof_log.specs.Derivations.{Derives, clause_of_hint, is_in_range}
use Rattle.proof_log.specs.Spelled.{IsNumber, IsSpelledHint}
use Rattle.analyze.specs.declared.conflict.Learned.{Learned}
use Rattle.cdcl_core.specs.declared.derived.Derived.{Derived}
use Rattle.cdcl_core.specs.Orders.{IsOrderAmong, read_lit}

-- the hint that cites a clause
abbrev pub cite_at : List Hint → ℕ → Hint
cite_at cites c = slice_index_or cites c (hint.Line 0)

-- line 0, which is none, stands for the line of an assumed order that isn't written yet
abbrev pub is_open : Hint → Bool
is_open (hint.Rule r) = false
is_open (hint.Line zero) = true
is_open (hint.Line (suc n)) = false

-- the hint names a rule or a line
abbrev pub IsSettled : Hint → Type 0
IsSettled h = is_open h ≡ false

-- a clause of variables as one of their atoms
abbrev pub read_clause : List Atom → List Lit → List Literal
read_clause atoms lits = map (read_lit atoms) lits

-- each clause has a hint, and by one that names a rule or a line a line after these cites it
pub record AreCited (s : Sought) (atoms : List Atom) (db : List (List Lit)) (cites : List Hint) (lines : List Line) : Type 0 where
  pub count : length cites ≡ length db
  pub each : (c : ℕ) → c < length db → IsSettled (cite_at cites c) → clause_of_hint s lines (length lines + 1) (cite_at cites c) ≡ Some (read_clause atoms (clause_at db c))
  pub spelled : All IsSpelledHint cites

-- the atoms are in range, and each order atom is one of two rows of the log, with bounds that an order step may have
pub record AreOfLog (s : Sought) (atoms : List Atom) : Type 0 where
  pub valid : IsLog s.log
  pub in_range : All (λ a. IsTrue (is_in_range s a)) atoms
  pub orders : All (IsOrderAmong (length s.log.rows + 1)) atoms

-- the lines derive, and later ones can cite the clauses
pub record IsRecord (log : Logged) (f : Form) (v : Bool) (atoms : List Atom) (db : List (List Lit)) (cites : List Hint) (lines : List Line) : Type 0 where
  pub of_log : AreOfLog (sought_of log f v) atoms
  pub cited : AreCited (sought_of log f v) atoms db cites lines
  pub derives : Derives log f v lines

-- where the old lines derive and later ones can cite the clauses, so it is with the new ones
abbrev pub KeepsRecord : Logged → Form → Bool → List Atom → Derived → Derived → Type 0
KeepsRecord log f v atoms old new = IsRecord log f v atoms old.db old.cites old.lines → IsRecord log f v atoms new.db new.cites new.lines

-- a rule's number and its four arguments are in the ranges of their types
pub record IsRuleInRange (r : Rule) : Type 0 where
  pub number : r.number < 2 ^ 8
  pub four : length r.args ≡ 4
  pub each : All IsNumber r.args

-- the nodes and events that an atom names have numbers below 2^32
abbrev pub HasNumbers : Atom → Type 0
HasNumbers (Order e f c) = IsNumber e × IsNumber f
HasNumbers (Node k e) = IsNumber k × IsNumber e
HasNumbers (First e) = IsNumber e
HasNumbers (Same e x) = IsNumber e × IsNumber x
HasNumbers (Wit k i j) = IsNumber k × IsNumber i × IsNumber j
HasNumbers (Span k i j) = IsNumber k × IsNumber i × IsNumber j
HasNumbers (Gap k i m) = IsNumber k × IsNumber i × IsNumber m

-- a Learn line of these literals and hints, with numbers that are in range
abbrev pub IsLearnLine : List Literal → List Hint → Line → Type 0
IsLearnLine lits hints (line.Cycle steps) = ⊥
IsLearnLine lits hints (line.Learn own cited) = (own ≡ lits) × (cited ≡ hints) × All (λ l. HasNumbers l.atom) own

-- one line was added, a Learn line of what was learned
abbrev pub AddsLearnLine : List Atom → Learned → Derived → Derived → Type 0
AddsLearnLine atoms learned old new =
    (line : Line) × IsLearnLine (read_clause atoms learned.lits) (map (cite_at old.cites) learned.hints) line × (new.lines ≡ old.lines ++ line ∷ [])
