-- What a search ends with: a model, lines that refute, or lines that derive.
use Rattle.std.proofs.Common.{◌≡◌, ◌∙◌, refl, sym, subst, ℕ, ◌+◌, ◌*◌, ◌^◌, ◌<◌, ◌≤◌, Bool, true, false, List, ◌++◌, length, Option, Some, None, arith, ℤ}
use Rattle.std.specs.Prelude.{All, Contains, IfNone, IfSome}
use Rattle.std.specs.List.{list_any}
use Rattle.std.proofs.lemmas.List.{get_or_append_left, length-append}
use Rattle.std.proofs.lemmas.List.Elements.{All-contains, All-weaker}
use Rattle.mt_model.specs.Form.{Form}
use Rattle.mt_model.specs.Log.{IsLog, Logged}
use Rattle.neg_cycle.specs.Systems.{Meets}
use Rattle.difference_graph.specs.Graphs.{IsSolved}
use Rattle.clause_db.specs.Literals.{value_of}
use Rattle.propagate.specs.Links.{edges_of}
use Rattle.propagate.specs.Trails.{literals}
use Rattle.axiom_rules.specs.declared.literal.Literal.{Literal}
use Rattle.axiom_rules.specs.Occurs.{OccursInRules}
use Rattle.axiom_rules.specs.Sought.{sought_of}
use Rattle.proof_log.specs.declared.line.Line.{Line}
use Rattle.proof_log.specs.Derivations.{Refutes}
use Rattle.proof_log.specs.FreshLaws.{IsRefutedByRules}
use Rattle.proof_log.specs.Freshness.{Spends, learnt}
use Rattle.proof_log.proofs.FreshLines.{refuted-not_spent, spent-bounded}
use Rattle.mtl_encode.specs.declared.problem.Problem.{Problem}
use Rattle.mtl_encode.specs.Models.{IsModel, value_at}
use Rattle.mtl_encode.specs.Problems.{Fits}
use Rattle.cdcl_core.specs.declared.state.SearchState.{SearchState}
use Rattle.cdcl_core.specs.Assignments.{IsSatisfying}
use Rattle.cdcl_core.specs.Founds.{IsPosed, lessons}
use Rattle.cdcl_core.specs.Recording.{IsRecord}
use Rattle.cdcl_core.specs.Searching.{IsMidway, IsSearch, allowance}
use Rattle.cdcl_core.proofs.Lessons.{lessons_learn}
use Rattle.cdcl_core.specs.Turns.{AreRefuting}

-- what holds of each element holds of those of a front
all_front : {X : Type 0} (P : X → Type 0) (xs ys : List X) → All P (xs ++ ys) → All P xs
all_front P xs ys all k d below = rw (get_or_append_left xs ys d k below) at (all k d (omega (arith, below, length-append xs ys)))

-- a refutation answers, where its conflicts are fewer than the budget
pub refuted_found : (p : Problem) (whole : Bool) (n budget : ℕ) (lines : List Line) → n < budget → AreRefuting p whole n lines → length lines ≤ 2 * budget → (log : Logged) (f : Form) (v : Bool) → IsLog log → Fits (sought_of log f v) p
    → Refutes log f v lines × (lessons lines < budget) × (length lines ≤ 2 * budget)
refuted_found p whole n budget lines less refutation few log f v valid fits = (
  refutation.refutes log f v valid fits,
  let count = refutation.lesson_count in omega (arith, count, less),
  few,
)

-- where there are too many lines, or none, some order was assumed
assumed_some : (w : Bool) → 0 < allowance w → w ≡ false
assumed_some true some = absurd (omega (arith, some))
assumed_some false some = refl

pub too_many : (p : Problem) (w : Bool) (n budget : ℕ) (o : Option (List Line)) → n < budget → IfNone o (w ≡ false) → IfSome o (AreRefuting p w n)
    → ((lines : List Line) → o ≡ Some lines → 2 * budget < length lines) → w ≡ false
too_many p w n budget None less none refuting many = none
too_many p w n budget (Some lines) less none refuting many =
    let more = many lines refl in
    let few = refuting.few_lines in
    assumed_some w (omega (arith, more, few, less))

module _ (p : Problem) (s : SearchState) (n : ℕ) where
  -- what satisfies the problem and all that was derived is a model
  pub model_found : (values : List Bool) (numbers : List ℤ) → IsSearch p s n → IsSatisfying p.atoms s.derived.db s.graph.numbers values → IsSolved s.graph
      → numbers ≡ s.graph.numbers → IsModel p values numbers
  model_found values numbers search satisfying solved is =
      let clauses = search.search_for.clauses in
      rw is (record {
        values_count = satisfying.count;
        numbers_count = solved.potential.count ∙ search.search_for.nodes;
        clauses =
            all_front (λ lits. list_any (value_of (value_at values)) lits ≡ true) p.db clauses.0 (subst (All (λ lits. list_any (value_of (value_at values)) lits ≡ true)) clauses.1 satisfying.clauses);
        edges = all_front (Meets s.graph.numbers) p.edges (edges_of s.theory.links (literals s.trail.entries)) (subst (All (Meets s.graph.numbers)) search.run.step.edges solved.potential.meets);
        orders = satisfying.orders;
      })

  -- where a clause is false at level 0 one line more refutes
  pub refutation : (c : ℕ) (lines : List Line) → IsMidway p s n c → length lines ≡ length s.derived.lines + 1 → lessons lines ≡ lessons s.derived.lines
      → ((log : Logged) (f : Form) (v : Bool) → IsRecord log f v p.atoms s.derived.db s.derived.cites s.derived.lines → Refutes log f v lines) → AreRefuting p s.theory.whole n lines
  refutation c lines mid count same refutes = record {
    few_lines = let few = mid.spent.few_lines in omega (arith, count, few);
    lesson_count = same ∙ mid.spent.lesson_count;
    refutes = λ log f v valid fits. refutes log f v (mid.search_for.derives log f v valid fits);
  }

  -- after as many conflicts as the budget the lines have spent it
  spends : (budget : ℕ) → n ≡ budget → IsSearch p s n → (log : Logged) (f : Form) (v : Bool) → IsLog log → Fits (sought_of log f v) p → Spends log f v p.rules budget s.derived.lines
  spends budget all search log f v valid fits =
      let spending = search.spent.spending log f v valid fits in
      let derives = (search.search_for.derives log f v valid fits).derives in
      let occurs : Literal → Type 0 = λ l. OccursInRules (sought_of log f v) l.atom in
      let own : Literal → Type 0 = λ l. Contains p.atoms l.atom in
      record {
        derives = derives;
        count = sym (lessons_learn s.derived.lines derives.none_empty) ∙ search.spent.lesson_count ∙ all;
        fresh = spending.fresh;
        used = spending.used;
        occur =
            All-weaker (All own) (All occurs)
            (All-weaker own occurs (λ l has. All-contains (OccursInRules (sought_of log f v)) p.atoms l.atom spending.occur has))
            (learnt s.derived.lines) spending.own;
      }

  pub spent_found : (budget : ℕ) → n ≡ budget → IsSearch p s n → length s.derived.lines ≤ 2 * budget → (log : Logged) (f : Form) (v : Bool) → IsLog log → Fits (sought_of log f v) p
      → Spends log f v p.rules budget s.derived.lines × (length s.derived.lines ≤ 2 * budget)
  spent_found budget all search few log f v valid fits = (spends budget all search log f v valid fits, few)

  -- so it is below three to the number of atoms, ..
  pub spent_bounded : (budget : ℕ) → n ≡ budget → IsSearch p s n → IsPosed p → budget < 3 ^ length p.atoms
  spent_bounded budget all search posed =
      spent-bounded.by_lines posed.log posed.form posed.value p.rules budget s.derived.lines p.atoms (spends budget all search posed.log posed.form posed.value posed.valid posed.fits)
      (search.spent.spending posed.log posed.form posed.value posed.valid posed.fits).own

  -- .. and propagation over the rules alone refutes nothing
  pub spent_unrefuted : (budget : ℕ) → 1 ≤ budget → n ≡ budget → IsSearch p s n → (log : Logged) (f : Form) (v : Bool) → IsLog log → Fits (sought_of log f v) p
      → IsRefutedByRules (sought_of log f v) p.rules → ⊥
  spent_unrefuted budget some all search log f v valid fits refuted =
      let none = refuted-not_spent.none_spent log f v p.rules budget s.derived.lines refuted (spends budget all search log f v valid fits) in
      omega (arith, none, some)
