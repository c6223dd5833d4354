-- Lines that refute name earlier lines alone.
use Rattle.std.proofs.Common.{◌≡◌, subst, ℕ, zero, suc, Bool, List, [], ◌∷◌, length, Some, arith}
use Rattle.std.specs.Prelude.{All, nat_lt, option_map}
use Rattle.std.proofs.lemmas.Bool.{ltb-true}
use Rattle.std.proofs.lemmas.List.Elements.{All-cons, All-nil}
use Rattle.mt_model.specs.Form.{Form}
use Rattle.mt_model.specs.Log.{Logged}
use Rattle.axiom_rules.specs.declared.literal.Literal.{Literal}
use Rattle.axiom_rules.specs.Sought.{Sought, sought_of}
use Rattle.proof_log.specs.declared.line.Hint.{Hint}
use Rattle.proof_log.specs.declared.line.Hint.TheVariants as hint
use Rattle.proof_log.specs.declared.line.Line.{Line}
use Rattle.proof_log.specs.declared.line.Line.TheVariants as line
use Rattle.proof_log.specs.Derivations.{HasClauses, IsEmptyAt, IsShown, Refutes, clause_of_hint, clause_of_line, line_at}
use Rattle.proof_trim.specs.Needed.{IsFirstForward, LooksBack, NamesEarlier}
use Rattle.proof_trim.specs.Laws.{RefutingCanBeTrimmed}
use Rattle.proof_trim.proofs.Looks.{stands-within}
use Rattle.mt_model.proofs.Conflicts.{guarded_some}

module _ (s : Sought) (lines : List Line) (n : ℕ) where
  hint-earlier : (h : Hint) (c : List Literal) → clause_of_hint s lines n h ≡ Some c → NamesEarlier n h
  hint-earlier (hint.Rule r) c found = tt
  hint-earlier (hint.Line zero) c found =
      let none = (guarded_some (nat_lt 0 n) (option_map clause_of_line (line_at lines 0)) c found).1 in
      let never : ⊥ = cc in absurd never
  hint-earlier (hint.Line (suc j)) c found =
      let less = ltb-true (suc j) n (guarded_some (nat_lt (suc j) n) (option_map clause_of_line (line_at lines (suc j))) c found).0 in
      (omega arith, less)

  hints-earlier : (hints : List Hint) (clauses : List (List Literal)) → HasClauses s lines n hints clauses → All (NamesEarlier n) hints
  hints-earlier [] clauses has = All-nil (NamesEarlier n)
  hints-earlier (h ∷ hs) [] has = let never : ⊥ = cc in absurd never
  hints-earlier (h ∷ hs) (c ∷ cs) has = All-cons (NamesEarlier n) h hs (hint-earlier h c cc) (hints-earlier hs cs cc)

  shown-back : (l : Line) → IsShown s lines n l → LooksBack n l
  shown-back (line.Cycle steps) shown = tt
  shown-back (line.Learn lits hints) shown = hints-earlier hints shown.clauses shown.cited

module _ (log : Logged) (f : Form) (v : Bool) where
  never-empty : (lines : List Line) → lines ≡ [] → IsEmptyAt lines (length lines) → ⊥
  never-empty [] is empty = cc
  never-empty (l ∷ ls) is empty = cc

  back : (lines : List Line) → Refutes log f v lines → (n : ℕ) → IsFirstForward lines n → ⊥
  back lines refutes n first =
      let (some, within) = stands-within lines n first.line first.stands in
      let right = (refutes.none_wrong n some within).right in
      let stands = right.stands in
      let other = first.stands in
      let same : right.line ≡ first.line = cc in
      first.forward (subst (LooksBack n) same (shown-back (sought_of log f v) lines n right.line right.shown))

pub refuting-can : RefutingCanBeTrimmed
refuting-can log f v lines refutes = record { some = λ none. never-empty log f v lines none refutes.last; back = back log f v lines refutes }
