-- From what a test of a line found to the words Misses and Fresh.
use Rattle.std.proofs.Common.{◌≡◌, ◌∙◌, ap, subst, ℕ, zero, suc, ◌-◌, ◌≤◌, Bool, List, length, map, get_or, Some, Ok, Err, Result, refl, arith}
use Rattle.std.specs.List.{All, Contains}
use Rattle.std.specs.Result.{IfOk}
use Rattle.std.proofs.lemmas.List.Elements.{All-contains}
use Rattle.std.proofs.lemmas.Option.{slice_get_read}
use Rattle.mt_model.specs.Form.{Form}
use Rattle.mt_model.specs.Log.{Logged}
use Rattle.hint_refutation.specs.Propagation.{ClosedUnder, Misses}
use Rattle.hint_refutation.proofs.Lists.{all_from, contains_unmap}
use Rattle.axiom_rules.specs.declared.literal.Literal.{Literal}
use Rattle.axiom_rules.specs.declared.rule.Rule.{Rule}
use Rattle.axiom_rules.specs.Sought.{Sought, sought_of}
use Rattle.proof_log.specs.declared.line.Hint.{Hint}
use Rattle.proof_log.specs.declared.line.Line.{Line}
use Rattle.proof_log.specs.declared.line.Line.TheVariants as line
use Rattle.proof_log.specs.Derivations.{line_at}
use Rattle.proof_log.specs.Freshness.{Fresh, IsNew, known_before}

-- what each test of `misses` found
pub missed_by : {L : Type 0} (neg : L → L) (clauses : List (List L)) (set others : List L) (first : L) → ClosedUnder neg clauses set → All (λ l. Contains set (neg l)) others
    → (Contains set first → ⊥) → Misses neg clauses (map neg others) first
missed_by neg clauses set others first closed denied lacks = record {
  set = set;
  closed = closed;
  has = all_from (Contains set) (map neg others) (λ m there.
      let from = contains_unmap neg others m there in
      subst (Contains set) from.2 (All-contains (λ l. Contains set (neg l)) others from.0 denied from.1));
  lacks = lacks;
}

-- a line by its place
pub line_stands : (lines : List Line) (n : ℕ) (l : Line) → 1 ≤ n → n ≤ length lines → l ≡ get_or lines (n - 1) l → line_at lines n ≡ Some l
line_stands lines zero l first within at = absurd (omega (arith, first))
line_stands lines (suc k) l first within at =
    let place : suc k - 1 ≡ k = omega arith in
    slice_get_read lines (length lines) k l refl (omega (arith, within)) (at ∙ ap (λ (i : ℕ). get_or lines i l) place)

-- a Learn line that is new to what is known
pub fresh_by : (log : Logged) (f : Form) (v : Bool) (s : Sought) (rules : List Rule) (lines : List Line) (n : ℕ) (clauses : List (List Literal)) (lits : List Literal) (hints : List Hint)
    → s ≡ sought_of log f v → clauses ≡ known_before s rules lines n → line_at lines n ≡ Some (line.Learn lits hints) → IsNew clauses lits → Fresh log f v rules lines n
fresh_by log f v s rules lines n clauses lits hints same known stands is_new = record {
  learn = record { lits = lits; hints = hints; stands = stands };
  is_new = subst (λ (cs : List (List Literal)). IsNew cs lits) (known ∙ ap (λ (t : Sought). known_before t rules lines n) same) is_new;
}

-- what follows from an answer
pub answer_follows : {E : Type 0} (r : Result Bool E) (P Q : Bool → Type 0) → ((b : Bool) → P b → Q b) → IfOk r P → IfOk r Q
answer_follows (Ok b) P Q follows held = follows b held
answer_follows (Err e) P Q follows held = held
