-- Laws of literals, and of clauses that are added.
use Rattle.std.proofs.Common.{◌≡◌, ◌∙◌, ap, sym, subst, refl, ℕ, ◌<◌, ◌⊎◌, inl, inr, Bool, true, false, not, List, [], ◌∷◌, ◌++◌, length, get_or, arith}
use Rattle.std.specs.List.{All}
use Rattle.std.proofs.lemmas.List.{get_or_append_left, length-append}
use Rattle.std.proofs.lemmas.List.Elements.{All-head, All-tail, All-map, All-weaker}
use Rattle.hint_refutation.specs.Hints.{Refutes, Used}
use Rattle.hint_refutation.specs.Laws.{IsMet}
use Rattle.hint_refutation.proofs.Sound.{hints-sound}
use Rattle.clause_db.specs.declared.lit.Lit.{Lit}
use Rattle.clause_db.specs.Literals.{negation, value_of}
use Rattle.clause_db.specs.Clauses.{clause_at, clauses_at, AreHeld}
use Rattle.clause_db.specs.Laws.{NegationIsOther, VariablesHaveValues, HeldHintsAreSound, AddedLeavesHeld}
use Rattle.hint_refutation.proofs.Lists.{value_turned}

not_not : (b : Bool) → not (not b) ≡ b
not_not true = refl
not_not false = refl

not_other : (b : Bool) → not b ≡ b → ⊥
not_other true is = absurd cc
not_other false is = absurd cc

two_senses : (a b : Bool) → (a ≡ b) ⊎ (a ≡ not b)
two_senses true true = inl refl
two_senses true false = inr refl
two_senses false true = inr refl
two_senses false false = inl refl

pub lit_same : (k l : Lit) → k.var ≡ l.var → k.positive ≡ l.positive → k ≡ l
lit_same k l var sense =
    let lit : ℕ → Bool → Lit = λ v b. record { var = v; positive = b } in
    ap (λ v. lit v k.positive) var ∙ ap (λ b. lit l.var b) sense

pub negation_other : NegationIsOther
negation_other = record {
  undone = λ l. lit_same (negation (negation l)) l refl (not_not l.positive);
  other = λ l is. not_other l.positive (ap (λ (x : Lit). x.positive) is);
  only = λ k l same. elim (two_senses k.positive l.positive) [
    | inl sense ↦ inl (lit_same k l same sense)
    | inr sense ↦ inr (lit_same k (negation l) same sense)
  ];
}

pub variables_valued : VariablesHaveValues
variables_valued values l = value_turned l.positive (values l.var)

-- what holds of all clauses holds of those that hints name
named_have : (P : List Lit → Type 0) (clauses : List (List Lit)) (hints : List ℕ) → All P clauses → AreHeld clauses hints → All P (clauses_at clauses hints)
named_have P clauses hints all held = All-map P (clause_at clauses) hints (λ k d below. all (get_or hints k d) [] (held k d below))

pub hints_sound : HeldHintsAreSound
hints_sound values clauses clause hints met hinted =
    hints-sound Lit negation (value_of values) (variables_valued values) clause (clauses_at clauses hints) (named_have (IsMet (value_of values)) clauses hints met hinted.held) hinted.refutes

clause_kept : (clauses added : List (List Lit)) (c : ℕ) → c < length clauses → clause_at (clauses ++ added) c ≡ clause_at clauses c
clause_kept clauses added c below = get_or_append_left clauses added [] c below

clauses_kept : (clauses added : List (List Lit)) (hints : List ℕ) → AreHeld clauses hints → clauses_at clauses hints ≡ clauses_at (clauses ++ added) hints
clauses_kept clauses added [] held = refl
clauses_kept clauses added (h ∷ hs) held =
    ap (λ (c : List Lit). c ∷ clauses_at clauses hs) (sym (clause_kept clauses added h (All-head (λ c. c < length clauses) h hs held)))
    ∙ ap (λ (cs : List (List Lit)). clause_at (clauses ++ added) h ∷ cs) (clauses_kept clauses added hs (All-tail (λ c. c < length clauses) h hs held))

held_kept : (clauses added : List (List Lit)) (hints : List ℕ) → AreHeld clauses hints → AreHeld (clauses ++ added) hints
held_kept clauses added hints held = All-weaker (λ c. c < length clauses) (λ c. c < length (clauses ++ added)) (λ c below. omega (arith, below, length-append clauses added)) hints held

pub added_leaves : AddedLeavesHeld
added_leaves = record {
  clause = clause_kept;
  refute = λ clauses added assumed hints hinted. record {
    held = held_kept clauses added hints hinted.held;
    refutes = subst (λ (cs : List (List Lit)). Refutes negation assumed cs) (clauses_kept clauses added hints hinted.held) hinted.refutes;
  };
  used = λ clauses added lits hints hinted. record {
    held = held_kept clauses added hints hinted.held;
    used = subst (λ (cs : List (List Lit)). Used negation lits cs) (clauses_kept clauses added hints hinted.held) hinted.used;
  };
}
