-- A learned clause is new to what the lower levels leave closed, and the resolvent of its hints.
use Rattle.std.proofs.Common.{◌≡◌, ◌∙◌, ap, sym, subst, ℕ, ◌+◌, ◌<◌, Bool, List, [], ◌∷◌, ◌++◌, length, map, get_or, arith, append_assoc}
use Rattle.std.specs.Prelude.{All, Contains}
use Rattle.std.proofs.lemmas.List.Elements.{All-nil, All-cons, All-contains, All-map, Contains-append_left, Contains-get_or, Contains-push}
use Rattle.mt_model.specs.Form.{Form}
use Rattle.mt_model.specs.Log.{Logged}
use Rattle.hint_refutation.specs.Hints.{Used as HintsUsed}
use Rattle.hint_refutation.proofs.Lists.{all_from, contains_map}
use Rattle.hint_refutation.proofs.Propagated.{closed-by_clauses}
use Rattle.clause_db.specs.declared.lit.Lit.{Lit}
use Rattle.clause_db.specs.Clauses.{clauses_at}
use Rattle.clause_db.specs.Hinted.{HintsAreUsed}
use Rattle.propagate.specs.Trails.{Assigned, IsTrail}
use Rattle.analyze.specs.Asserting.{IsUnitBelow}
use Rattle.axiom_rules.specs.declared.literal.Atom.{Atom}
use Rattle.axiom_rules.specs.declared.literal.Atom.TheVariants.{First}
use Rattle.axiom_rules.specs.declared.literal.Literal.{Literal}
use Rattle.axiom_rules.specs.declared.rule.Rule.{Rule}
use Rattle.axiom_rules.specs.Atoms.{AreOnce}
use Rattle.axiom_rules.specs.Literals.{negated}
use Rattle.axiom_rules.specs.Sought.{Sought, sought_of}
use Rattle.proof_log.specs.declared.line.Hint.{Hint}
use Rattle.proof_log.specs.declared.line.Hint.TheVariants as hint
use Rattle.proof_log.specs.declared.line.Line.{Line}
use Rattle.proof_log.specs.declared.line.Line.TheVariants as line
use Rattle.proof_log.specs.Derivations.{HasClauses}
use Rattle.proof_log.specs.Freshness.{Fresh, IsLearnAt, IsNew, Used, known_before, rules_of_line}
use Rattle.cdcl_core.specs.Extending.{Extends}
use Rattle.cdcl_core.specs.Orders.{read_lit}
use Rattle.cdcl_core.specs.Recording.{IsLearnLine, IsRecord, IsSettled, cite_at, read_clause}
use Rattle.cdcl_core.specs.Spending.{IsQuietBelow, IsSpending, NamesOneOf}
use Rattle.cdcl_core.proofs.FreshClauses.{misses_below}
use Rattle.cdcl_core.proofs.LineGrowth.{hints_kept, line_last}
use Rattle.cdcl_core.proofs.Reading.{cites_have, misses_read, used_read}
use Rattle.cdcl_core.proofs.Spending.{hints_name, known_last, named_more, spending_more}

-- the atoms of a clause that is read are among the atoms
read_own : (atoms : List Atom) (lits : List Lit) → All (λ l. l.var < length atoms) lits → All (λ l. Contains atoms l.atom) (read_clause atoms lits)
read_own atoms lits low = All-map (λ (l : Literal). Contains atoms l.atom) (read_lit atoms) lits (λ k d below. Contains-get_or atoms (get_or lits k d).var (First 0) (low k d below))

module _ (log : Logged) (f : Form) (v : Bool) (rules : List Rule) (atoms : List Atom) (known db : List (List Lit)) (cites : List Hint) (lines : List Line) (t : Assigned)
    (old : IsSpending log f v rules atoms known cites lines) (record_ : IsRecord log f v atoms db cites lines) (quiet : IsQuietBelow known db t) (trail : IsTrail t) (some : 0 < length t.levels)
    (once : AreOnce atoms) (within : All (All (λ l. l.var < length atoms)) db) where
  abbrev s : Sought
  s = sought_of log f v

  known_within : All (All (λ l. l.var < length atoms)) known
  known_within = all_from (All (λ (l : Lit). l.var < length atoms)) known (λ c has.
      let (added, is) = quiet.clauses in
      All-contains (All (λ (l : Lit). l.var < length atoms)) db c within (subst (λ (cs : List (List Lit)). Contains cs c) (sym is) (Contains-append_left known added c has)))

  extends : (lits : List Lit) → Extends known (db ++ lits ∷ [])
  extends lits = let (added, is) = quiet.clauses in (added ++ lits ∷ [], ap (λ (cs : List (List Lit)). cs ++ lits ∷ []) is ∙ append_assoc known added (lits ∷ []))

  module _ (lits : List Lit) (refs : List ℕ) (own : List Literal) (cited : List Hint) (low : All (λ l. l.var < length atoms) lits) (unit : IsUnitBelow t lits) (used : HintsAreUsed db lits refs) (settled : All (λ c. IsSettled (cite_at cites c)) refs)
      (own_is : own ≡ read_clause atoms lits) (cited_is : cited ≡ map (cite_at cites) refs) where
    abbrev d : Line
    d = line.Learn own cited

    named : All (Contains rules) (rules_of_line d)
    named = hints_name rules cited (subst (All (NamesOneOf rules)) (sym cited_is) (All-map (NamesOneOf rules) (cite_at cites) refs (λ k e below.
        let held = used.held k e below in
        old.cites_name (get_or refs k e) (hint.Line 0) (omega (arith, held, record_.cited.count)))))

    abbrev own_learn : IsLearnAt (lines ++ d ∷ []) (length lines + 1)
    own_learn = record { lits = own; hints = cited; stands = line_last lines d }

    known_all : All (Contains (map (read_clause atoms) known)) (known_before s rules (lines ++ d ∷ []) (length lines + 1))
    known_all = known_last s rules lines d (Contains (map (read_clause atoms) known)) (named_more rules lines d old.lines_name named) old.rules_known old.learnt_known

    read_new : (ls : List Lit) → All (λ l. l.var < length atoms) ls → IsUnitBelow t ls → IsNew (known_before s rules (lines ++ d ∷ []) (length lines + 1)) (read_clause atoms ls)
    read_new [] ls_low ls_unit = ls_unit
    read_new (first ∷ others) ls_low ls_unit =
        let missed = misses_read atoms once known first others known_within ls_low (misses_below t trail known first others (quiet.closed some) ls_unit) in
        (closed-by_clauses Literal).missed negated (map (read_clause atoms) known) (known_before s rules (lines ++ d ∷ []) (length lines + 1))
        (map negated (read_clause atoms others)) (read_lit atoms first) known_all missed

    fresh_learned : Fresh log f v rules (lines ++ d ∷ []) (length lines + 1)
    fresh_learned = record {
      learn = own_learn;
      is_new = subst (IsNew (known_before s rules (lines ++ d ∷ []) (length lines + 1))) (sym own_is) (read_new lits low unit);
    }

    used_learned : Used log f v (lines ++ d ∷ []) (length lines + 1)
    used_learned =
        let clauses = map (read_clause atoms) (clauses_at db refs) in
        record {
          learn = own_learn;
          clauses = clauses;
          cited = hints_kept s lines (d ∷ []) (length lines + 1) cited clauses
              (subst (λ (hs : List Hint). HasClauses s lines (length lines + 1) hs clauses) (sym cited_is) (cites_have s atoms db cites lines refs record_.cited used.held settled));
          resolvent = subst (λ (ls : List Literal). HintsUsed negated ls clauses) (sym own_is) (used_read atoms once db lits refs within low used);
        }

    learned_line : IsSpending log f v rules atoms (db ++ lits ∷ []) (cites ++ hint.Line (length lines + 1) ∷ []) (lines ++ d ∷ [])
    learned_line =
        let clauses = map (read_clause atoms) (db ++ lits ∷ []) in
        spending_more log f v rules atoms known (db ++ lits ∷ []) cites lines d (length lines + 1) (extends lits) old named
        (All-cons (Contains clauses) own [] (subst (Contains clauses) (sym own_is) (contains_map (read_clause atoms) (db ++ lits ∷ []) lits (Contains-push db lits))) (All-nil (Contains clauses)))
        (All-cons (All (λ (l : Literal). Contains atoms l.atom)) own []
        (subst (All (λ (l : Literal). Contains atoms l.atom)) (sym own_is) (read_own atoms lits low))
        (All-nil (All (λ (l : Literal). Contains atoms l.atom))))
        (λ learn. fresh_learned) (λ learn. used_learned)

  -- so is what a line of its literals and its hints is spent on
  pub spending_learned : (lits : List Lit) (refs : List ℕ) (d : Line) → All (λ l. l.var < length atoms) lits → IsUnitBelow t lits → HintsAreUsed db lits refs → All (λ c. IsSettled (cite_at cites c)) refs
      → IsLearnLine (read_clause atoms lits) (map (cite_at cites) refs) d
      → IsSpending log f v rules atoms (db ++ lits ∷ []) (cites ++ hint.Line (length lines + 1) ∷ []) (lines ++ d ∷ [])
  spending_learned lits refs (line.Cycle steps) low unit used settled is = absurd is
  spending_learned lits refs (line.Learn own cited) low unit used settled (own_is, cited_is, numbers) = learned_line lits refs own cited low unit used settled own_is cited_is
