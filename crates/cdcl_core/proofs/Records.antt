-- One more clause with its line.
use Rattle.std.proofs.Common.{◌≡◌, ◌∙◌, sym, ap, refl, set, subst, ℕ, zero, suc, ◌+◌, ◌^◌, ◌<◌, Bool, true, false, inl, inr, List, [], ◌∷◌, ◌++◌, length, map, get_or, Option, Some, None, arith}
use Rattle.std.specs.Prelude.{option_map, slice_get, All}
use Rattle.std.proofs.lemmas.Bool.{cases_eq, cases_lt, lt-ltb}
use Rattle.std.proofs.lemmas.List.{get_or-set_other, get_or-set_same, get_or_append_left, get_or_push, length-map, length-set, length_push}
use Rattle.std.proofs.lemmas.List.Elements.{All-nil, All-cons, All-append, All-map, All-set}
use Rattle.std.proofs.lemmas.Option.{get_or_from_slice_get, slice_get-get_or}
use Rattle.mt_model.specs.Form.{Form}
use Rattle.mt_model.specs.Log.{Logged}
use Rattle.clause_db.specs.declared.lit.Lit.{Lit}
use Rattle.clause_db.specs.Clauses.{clause_at}
use Rattle.axiom_rules.specs.declared.literal.Atom.{Atom}
use Rattle.axiom_rules.specs.declared.literal.Literal.{Literal}
use Rattle.axiom_rules.specs.declared.rule.Rule.{Rule}
use Rattle.axiom_rules.specs.Sought.{Sought, sought_of}
use Rattle.proof_log.specs.declared.line.Hint.{Hint}
use Rattle.proof_log.specs.declared.line.Hint.TheVariants as hint
use Rattle.proof_log.specs.declared.line.Line.{Line}
use Rattle.proof_log.specs.Derivations.{IsShown, clause_of_hint, clause_of_line}
use Rattle.proof_log.specs.Spelled.{IsSpelled, IsSpelledHint}
use Rattle.mtl_encode.specs.declared.problem.Problem.{Problem}
use Rattle.mtl_encode.specs.Problems.{Fits, ReadsAs, read_literal}
use Rattle.cdcl_core.specs.Orders.{read_lit}
use Rattle.cdcl_core.specs.Recording.{AreOfLog, IsRecord, IsRuleInRange, IsSettled, cite_at, read_clause}
use Rattle.cdcl_core.proofs.LineGrowth.{derives_more, derives_none, hint_kept, line_last}
use Rattle.cdcl_core.proofs.RuleSpelling.{rule-spelled}
use Rattle.mt_list.proofs.Lists.{parts_same}

module _ (log : Logged) (f : Form) (v : Bool) (atoms : List Atom) (db : List (List Lit)) (cites : List Hint) (lines : List Line) where
  abbrev s : Sought
  s = sought_of log f v

  not_empty : (ls : List Lit) → 0 < length ls → read_clause atoms ls ≡ [] → ⊥
  not_empty [] more is = omega (arith, more)
  not_empty (l ∷ ls) more is = absurd (cc)

  -- a clause and the line whose clause it is
  pub record_more : (d : Line) (lits : List Lit) → IsRecord log f v atoms db cites lines → IsSpelled d → IsShown s lines (length lines + 1) d → clause_of_line d ≡ read_clause atoms lits
      → 0 < length lits → length lines + 1 < 2 ^ 32 → IsRecord log f v atoms (db ++ lits ∷ []) (cites ++ hint.Line (length lines + 1) ∷ []) (lines ++ d ∷ [])
  record_more d lits old spelled shown clause some few = record {
    of_log = old.of_log;
    cited = record {
      count = omega (arith, old.cited.count, length_push cites (hint.Line (length lines + 1)), length_push db lits);
      each = λ c below settled. elim (cases_lt c (length db)) [
        | inl early ↦
            let left = get_or_append_left db (lits ∷ []) [] c early in
            let cite = get_or_append_left cites (hint.Line (length lines + 1) ∷ []) (hint.Line 0) c (omega (arith, early, old.cited.count)) in
            rw (left, cite)
            (hint_kept s lines (d ∷ []) (length lines + 1) (length (lines ++ d ∷ []) + 1) (cite_at cites c) (read_clause atoms (clause_at db c))
            (omega (arith, length_push lines d)) (old.cited.each c early (subst IsSettled cite settled)))
        | inr late ↦
            let is : c ≡ length db = omega (arith, late, below, length_push db lits) in
            rw (is, last_clause, last_cite) (rw (lt-ltb (length lines + 1) (length (lines ++ d ∷ []) + 1) (omega (arith, length_push lines d)), line_last lines d) (ap Some clause))
      ];
      spelled = All-append IsSpelledHint cites (hint.Line (length lines + 1) ∷ []) old.cited.spelled (All-cons IsSpelledHint (hint.Line (length lines + 1)) [] few (All-nil IsSpelledHint));
    };
    derives = derives_more log f v lines d old.derives spelled shown (λ empty. not_empty lits some (sym clause ∙ empty));
  } where
    last_clause : clause_at (db ++ lits ∷ []) (length db) ≡ lits
    last_clause = get_or_push db lits [] (length db) refl

    last_cite : cite_at (cites ++ hint.Line (length lines + 1) ∷ []) (length db) ≡ hint.Line (length lines + 1)
    last_cite = get_or_push cites (hint.Line (length lines + 1)) (hint.Line 0) (length db) old.cited.count

  -- a clause of an assumed order, whose line isn't written yet
  pub record_assumed : (clause : List Lit) → IsRecord log f v atoms db cites lines → IsRecord log f v atoms (db ++ clause ∷ []) (cites ++ hint.Line 0 ∷ []) lines
  record_assumed clause old = record {
    of_log = old.of_log;
    cited = record {
      count = omega (arith, old.cited.count, length_push cites (hint.Line 0), length_push db clause);
      each = λ c below settled. elim (cases_lt c (length db)) [
        | inl early ↦
            let left = get_or_append_left db (clause ∷ []) [] c early in
            let cite = get_or_append_left cites (hint.Line 0 ∷ []) (hint.Line 0) c (omega (arith, early, old.cited.count)) in
            rw (left, cite) (old.cited.each c early (subst IsSettled cite settled))
        | inr late ↦
            let is : c ≡ length db = omega (arith, late, below, length_push db clause) in
            let cite : cite_at (cites ++ hint.Line 0 ∷ []) c ≡ hint.Line 0 = get_or_push cites (hint.Line 0) (hint.Line 0) c (old.cited.count ∙ sym is) in
            let none : true ≡ false = subst IsSettled cite settled in
            absurd (cc)
      ];
      spelled = All-append IsSpelledHint cites (hint.Line 0 ∷ []) old.cited.spelled (All-cons IsSpelledHint (hint.Line 0) [] (omega arith) (All-nil IsSpelledHint));
    };
    derives = old.derives;
  }

  -- the line of a clause that stands already
  pub record_settled : (d : Line) (at : ℕ) → IsRecord log f v atoms db cites lines → at < length db → IsSpelled d → IsShown s lines (length lines + 1) d → clause_of_line d ≡ read_clause atoms (clause_at db at)
      → 0 < length (clause_at db at) → length lines + 1 < 2 ^ 32 → IsRecord log f v atoms db (set cites at (hint.Line (length lines + 1))) (lines ++ d ∷ [])
  record_settled d at old within spelled shown clause some few = record {
    of_log = old.of_log;
    cited = record {
      count = length-set cites at (hint.Line (length lines + 1)) ∙ old.cited.count;
      each = λ c below settled. elim (cases_eq c at) [
        | inl is ↦
            let cite : cite_at (set cites at (hint.Line (length lines + 1))) at ≡ hint.Line (length lines + 1) =
            get_or-set_same cites at (hint.Line (length lines + 1)) (hint.Line 0) (omega (arith, within, old.cited.count)) in
            rw (is, cite) (rw (lt-ltb (length lines + 1) (length (lines ++ d ∷ []) + 1) (omega (arith, length_push lines d)), line_last lines d) (ap Some clause))
        | inr other ↦
            let cite : cite_at (set cites at (hint.Line (length lines + 1))) c ≡ cite_at cites c = get_or-set_other cites at c (hint.Line (length lines + 1)) (hint.Line 0) other in
            rw cite
            (hint_kept s lines (d ∷ []) (length lines + 1) (length (lines ++ d ∷ []) + 1) (cite_at cites c) (read_clause atoms (clause_at db c))
            (omega (arith, length_push lines d)) (old.cited.each c below (subst IsSettled cite settled)))
      ];
      spelled = All-set IsSpelledHint cites at (hint.Line (length lines + 1)) few old.cited.spelled;
    };
    derives = derives_more log f v lines d old.derives spelled shown (λ empty. not_empty (clause_at db at) some (sym clause ∙ empty));
  }

-- the clauses of rules, read through the atoms
pub read_same : (atoms : List Atom) (lits : List Lit) (clause : List Literal) → ReadsAs atoms lits clause → read_clause atoms lits ≡ clause
read_same atoms [] [] reads = refl
read_same atoms [] (x ∷ xs) reads = absurd (cc)
read_same atoms (l ∷ ls) [] reads = absurd (cc)
read_same atoms (l ∷ ls) (x ∷ xs) reads =
    let both = parts_same (read_literal atoms l) (Some x) (map (read_literal atoms) ls) (map Some xs) reads in
    rw (one_same (slice_get atoms l.var) refl both.0, read_same atoms ls xs both.1) refl
  where
    one_same : (o : Option Atom) → slice_get atoms l.var ≡ o → option_map (λ a. record { atom = a; positive = l.positive }) (slice_get atoms l.var) ≡ Some x → read_lit atoms l ≡ x
    one_same None at is = let none : None ≡ Some x = sym (ap (option_map (λ a. record { atom = a; positive = l.positive })) at) ∙ is in absurd (cc)
    one_same (Some a) at is =
        let there = get_or_from_slice_get atoms l.var a _ at in
        let both : Some (record { atom = a; positive = l.positive }) ≡ Some x = sym (ap (option_map (λ b. record { atom = b; positive = l.positive })) at) ∙ is in
        ap (λ b. record { atom = b; positive = l.positive }) there ∙ cc

-- the hints of rules that have a clause have a spelling
pub rules_spelled : (s : Sought) (p : Problem) → Fits s p → All IsRuleInRange p.rules → All IsSpelledHint (map hint.Rule p.rules)
rules_spelled s p fits ranges = All-map IsSpelledHint hint.Rule p.rules (λ k d below.
    let r = get_or p.rules k d in
    let own = fits.clauses k r (slice_get-get_or p.rules k d below) in
    rule-spelled s r own.clause own.of_rule (ranges k d below))

-- before the first line each clause is cited as that of its rule
pub begun : (log : Logged) (f : Form) (v : Bool) (p : Problem) → AreOfLog (sought_of log f v) p.atoms → Fits (sought_of log f v) p → All IsSpelledHint (map hint.Rule p.rules)
    → IsRecord log f v p.atoms p.db (map hint.Rule p.rules) []
begun log f v p of_log fits spelled = record {
  of_log = of_log;
  cited = record {
    count = length-map p.rules hint.Rule ∙ fits.count;
    each = λ c below settled. cited_rule c (omega (arith, below, fits.count));
    spelled = spelled;
  };
  derives = derives_none log f v;
} where
  mapped_at : (rules : List Rule) (c : ℕ) (d : Rule) → c < length rules → cite_at (map hint.Rule rules) c ≡ hint.Rule (get_or rules c d)
  mapped_at [] c d below = absurd (omega arith)
  mapped_at (r ∷ rules) zero d below = refl
  mapped_at (r ∷ rules) (suc c) d below = mapped_at rules c d (omega arith)

  cited_rule : (c : ℕ) → c < length p.rules → clause_of_hint (sought_of log f v) [] 1 (cite_at (map hint.Rule p.rules) c) ≡ Some (read_clause p.atoms (clause_at p.db c))
  cited_rule c below =
      let d : Rule = record { number = 0; args = [] } in
      let there = slice_get-get_or p.rules c d below in
      let own = fits.clauses c (get_or p.rules c d) there in
      let cite : cite_at (map hint.Rule p.rules) c ≡ hint.Rule (get_or p.rules c d) = mapped_at p.rules c d below in
      rw (cite, own.of_rule) (ap Some (sym (read_same p.atoms (clause_at p.db c) own.clause own.read)))
