-- What the lines of a search are spent on, from one line to the next.
use Rattle.std.proofs.Common.{◌≡◌, ◌∙◌, ap, refl, sym, set, subst, ℕ, zero, suc, ◌+◌, ◌-◌, ◌<◌, ◌≤◌, Bool, inl, inr, List, [], ◌∷◌, ◌++◌, length, map, take, Option, Some, arith, append-nil}
use Rattle.std.specs.Prelude.{All, Any, Contains}
use Rattle.std.specs.List.{filter_map}
use Rattle.std.specs.Result.{result_ok}
use Rattle.std.proofs.lemmas.Bool.{cases_lt}
use Rattle.std.proofs.lemmas.List.{length_push, map-append, take-append-le, take_all, take_at}
use Rattle.std.proofs.lemmas.List.Concat.{flat_map-append, flat_map-cons}
use Rattle.std.proofs.lemmas.List.Elements.{All-nil, All-cons, All-append, All-contains, All-contains_itself, All-map, All-set, All-weaker, Contains-append_left, Contains-get_or, filter_map-append}
use Rattle.std.proofs.lemmas.Option.{get_or_from_slice_get, slice_get_within}
use Rattle.mt_model.specs.declared.step.Step.{Step}
use Rattle.mt_model.specs.Form.{Form}
use Rattle.mt_model.specs.Log.{Logged}
use Rattle.hint_refutation.proofs.Lists.{all_from, any_found, contains_map}
use Rattle.clause_db.specs.declared.lit.Lit.{Lit}
use Rattle.clause_db.specs.Clauses.{clause_at}
use Rattle.axiom_rules.specs.declared.literal.Atom.{Atom}
use Rattle.axiom_rules.specs.declared.literal.Literal.{Literal}
use Rattle.axiom_rules.specs.declared.rule.Rule.{Rule}
use Rattle.axiom_rules.specs.Clauses.{clause_of}
use Rattle.axiom_rules.specs.Occurs.{OccursInRules}
use Rattle.axiom_rules.specs.Sought.{Sought, sought_of}
use Rattle.proof_log.specs.declared.line.Hint.{Hint}
use Rattle.proof_log.specs.declared.line.Hint.TheVariants as hint
use Rattle.proof_log.specs.declared.line.Line.{Line}
use Rattle.proof_log.specs.declared.line.Line.TheVariants as line
use Rattle.proof_log.specs.Derivations.{line_at}
use Rattle.proof_log.specs.Freshness.{Fresh, IsLearnAt, IsNew, Used, clauses_of, known_before, learnt, learnt_clause, named_rules, rule_of_hint, rules_of_line}
use Rattle.proof_log.proofs.LearnLines.{given_at, given_has}
use Rattle.mtl_encode.specs.declared.problem.Problem.{Problem}
use Rattle.mtl_encode.specs.Problems.{Fits, StandsIn}
use Rattle.cdcl_core.specs.Extending.{Extends}
use Rattle.cdcl_core.specs.Recording.{read_clause}
use Rattle.cdcl_core.specs.Spending.{IsSpending, NamesOneOf}
use Rattle.cdcl_core.proofs.LineGrowth.{hints_kept, line_kept, line_last, line_same}
use Rattle.cdcl_core.proofs.Records.{read_same}

-- the rules that hints name are those that are cited
name_one : (rules : List Rule) (h : Hint) (r : Rule) → NamesOneOf rules h → rule_of_hint h ≡ Some r → Contains rules r
name_one rules (hint.Line m) r names is = absurd (cc)
name_one rules (hint.Rule q) r names is = let same : q ≡ r = cc in subst (Contains rules) same names

pub hints_name : (rules : List Rule) (hints : List Hint) → All (NamesOneOf rules) hints → All (Contains rules) (filter_map rule_of_hint hints)
hints_name rules hints names = all_from (Contains rules) (filter_map rule_of_hint hints) (λ r has.
    let (k, h, at, gives) = given_at rule_of_hint hints r has in
    let there : Contains hints h = (k, slice_get_within hints k h at, get_or_from_slice_get hints k h h at) in
    name_one rules h r (All-contains (NamesOneOf rules) hints h names there) gives)

pub named_more : (rules : List Rule) (lines : List Line) (d : Line) → All (Contains rules) (named_rules lines) → All (Contains rules) (rules_of_line d)
    → All (Contains rules) (named_rules (lines ++ d ∷ []))
named_more rules lines d old new =
    let split : named_rules (lines ++ d ∷ []) ≡ named_rules lines ++ named_rules (d ∷ []) = flat_map-append rules_of_line lines (d ∷ []) in
    let one : named_rules (d ∷ []) ≡ rules_of_line d = flat_map-cons rules_of_line d [] ∙ append-nil (rules_of_line d) in
    subst (All (Contains rules)) (sym split) (All-append (Contains rules) (named_rules lines) (named_rules (d ∷ [])) old (subst (All (Contains rules)) (sym one) new))

learnt_more : (P : List Literal → Type 0) (lines : List Line) (d : Line) → All P (learnt lines) → All P (learnt (d ∷ [])) → All P (learnt (lines ++ d ∷ []))
learnt_more P lines d old new = subst (All P) (sym (filter_map-append learnt_clause lines (d ∷ []))) (All-append P (learnt lines) (learnt (d ∷ [])) old new)

-- the clauses of rules that are among others are among theirs
pub clauses_within : (s : Sought) (rules more : List Rule) (P : List Literal → Type 0) → All (Contains rules) more → All P (clauses_of s rules) → All P (clauses_of s more)
clauses_within s rules more P within all =
    let of : Rule → Option (List Literal) = λ r. result_ok (clause_of s r) in
    all_from P (clauses_of s more) (λ c has.
    let (k, r, at, gives) = given_at of more c has in
    let there : Contains more r = (k, slice_get_within more k r at, get_or_from_slice_get more k r r at) in
    All-contains P (clauses_of s rules) c all (given_has of rules r c (All-contains (Contains rules) more r within there) gives))

-- what is known before one more line
pub known_last : (s : Sought) (rules : List Rule) (lines : List Line) (d : Line) (P : List Literal → Type 0)
    → All (Contains rules) (named_rules (lines ++ d ∷ [])) → All P (clauses_of s rules) → All P (learnt lines)
    → All P (known_before s rules (lines ++ d ∷ []) (length lines + 1))
known_last s rules lines d P named own earlier =
    let more = lines ++ d ∷ [] in
    let whole : take (length lines + 1) more ≡ more = take_all (length lines + 1) more (omega (arith, length_push lines d)) in
    let front : take (length lines + 1 - 1) more ≡ lines = take_at lines (d ∷ []) (length lines + 1 - 1) (omega arith) in
    let split = filter_map-append (λ (r : Rule). result_ok (clause_of s r)) rules (named_rules more) in
    let rules_all : All P (clauses_of s (rules ++ named_rules more)) = subst (All P) (sym split)
    (All-append P (clauses_of s rules) (clauses_of s (named_rules more)) own (clauses_within s rules (named_rules more) P named own)) in
    subst (λ (xs : List Line). All P (clauses_of s (rules ++ named_rules xs) ++ learnt (take (length lines + 1 - 1) more))) (sym whole)
    (subst (λ (xs : List Line). All P (clauses_of s (rules ++ named_rules more) ++ learnt xs)) (sym front)
    (All-append P (clauses_of s (rules ++ named_rules more)) (learnt lines) rules_all earlier))

known_same : (s : Sought) (rules : List Rule) (lines more : List Line) (n : ℕ) → n ≤ length lines → known_before s rules lines n ≡ known_before s rules (lines ++ more) n
known_same s rules lines more n low =
    let whole : take n (lines ++ more) ≡ take n lines = take-append-le n lines more low in
    let front : take (n - 1) (lines ++ more) ≡ take (n - 1) lines = take-append-le (n - 1) lines more (omega (arith, low)) in
    ap (λ (xs : List Line). clauses_of s (rules ++ named_rules xs) ++ learnt (take (n - 1) lines)) (sym whole)
    ∙ ap (λ (xs : List Line). clauses_of s (rules ++ named_rules (take n (lines ++ more))) ++ learnt xs) (sym front)

line_within : (lines : List Line) (n : ℕ) (d : Line) → line_at lines n ≡ Some d → n ≤ length lines
line_within lines zero d at = absurd (cc)
line_within lines (suc k) d at = let low = slice_get_within lines k d at in omega (arith, low)

abbrev learn_kept : (lines more : List Line) (n : ℕ) → IsLearnAt lines n → IsLearnAt (lines ++ more) n
learn_kept lines more n learn = record { lits = learn.lits; hints = learn.hints; stands = line_kept lines more n (line.Learn learn.lits learn.hints) learn.stands }

learn_before : (lines more : List Line) (n : ℕ) → n ≤ length lines → IsLearnAt (lines ++ more) n → IsLearnAt lines n
learn_before lines more n low learn = record { lits = learn.lits; hints = learn.hints; stands = sym (line_same lines more n low) ∙ learn.stands }

-- what is said of each Learn line is said with one more line
learn_each : (P : List Line → ℕ → Type 0) (lines : List Line) (d : Line) → ((n : ℕ) → n ≤ length lines → P lines n → P (lines ++ d ∷ []) n) → ((n : ℕ) → IsLearnAt lines n → P lines n)
    → (IsLearnAt (lines ++ d ∷ []) (length lines + 1) → P (lines ++ d ∷ []) (length lines + 1)) → (n : ℕ) → IsLearnAt (lines ++ d ∷ []) n → P (lines ++ d ∷ []) n
learn_each P lines d kept old new n learn =
    let low = line_within (lines ++ d ∷ []) n (line.Learn learn.lits learn.hints) learn.stands in
    elim (cases_lt n (length lines + 1)) [
      | inl earlier ↦ kept n (omega (arith, earlier)) (old n (learn_before lines (d ∷ []) n (omega (arith, earlier)) learn))
      | inr late ↦
          let is : n ≡ length lines + 1 = omega (arith, late, low, length_push lines d) in
          subst (P (lines ++ d ∷ [])) (sym is) (new (subst (IsLearnAt (lines ++ d ∷ [])) is learn))
    ]

-- clauses that are among known ones are among more
read_more : (atoms : List Atom) (known db : List (List Lit)) → Extends known db → (c : List Literal) → Contains (map (read_clause atoms) known) c → Contains (map (read_clause atoms) db) c
read_more atoms known db (added, is) c has =
    let whole : map (read_clause atoms) db ≡ map (read_clause atoms) known ++ map (read_clause atoms) added = ap (map (read_clause atoms)) is ∙ map-append (read_clause atoms) known added in
    subst (λ (cs : List (List Literal)). Contains cs c) (sym whole) (Contains-append_left (map (read_clause atoms) known) (map (read_clause atoms) added) c has)

module _ (log : Logged) (f : Form) (v : Bool) (rules : List Rule) (atoms : List Atom) where
  abbrev s : Sought
  s = sought_of log f v

  fresh_kept : (lines more : List Line) (n : ℕ) → n ≤ length lines → Fresh log f v rules lines n → Fresh log f v rules (lines ++ more) n
  fresh_kept lines more n low fresh = record {
    learn = learn_kept lines more n fresh.learn;
    is_new = subst (λ (cs : List (List Literal)). IsNew cs fresh.learn.lits) (known_same s rules lines more n low) fresh.is_new;
  }

  used_kept : (lines more : List Line) (n : ℕ) → Used log f v lines n → Used log f v (lines ++ more) n
  used_kept lines more n used = record {
    learn = learn_kept lines more n used.learn;
    clauses = used.clauses;
    cited = hints_kept s lines more n used.learn.hints used.clauses used.cited;
    resolvent = used.resolvent;
  }

  -- one more line and its clause
  pub spending_more : (known db : List (List Lit)) (cites : List Hint) (lines : List Line) (d : Line) (m : ℕ) → Extends known db
      → IsSpending log f v rules atoms known cites lines → All (Contains rules) (rules_of_line d)
      → All (Contains (map (read_clause atoms) db)) (learnt (d ∷ [])) → All (All (λ l. Contains atoms l.atom)) (learnt (d ∷ []))
      → (IsLearnAt (lines ++ d ∷ []) (length lines + 1) → Fresh log f v rules (lines ++ d ∷ []) (length lines + 1))
      → (IsLearnAt (lines ++ d ∷ []) (length lines + 1) → Used log f v (lines ++ d ∷ []) (length lines + 1))
      → IsSpending log f v rules atoms db (cites ++ hint.Line m ∷ []) (lines ++ d ∷ [])
  spending_more known db cites lines d m extends old named clause own fresh used = record {
    fresh = learn_each (Fresh log f v rules) lines d (fresh_kept lines (d ∷ [])) old.fresh fresh;
    used = learn_each (Used log f v) lines d (λ n low. used_kept lines (d ∷ []) n) old.used used;
    cites_name = All-append (NamesOneOf rules) cites (hint.Line m ∷ []) old.cites_name (All-cons (NamesOneOf rules) (hint.Line m) [] tt (All-nil (NamesOneOf rules)));
    lines_name = named_more rules lines d old.lines_name named;
    rules_known = All-weaker (Contains (map (read_clause atoms) known)) (Contains (map (read_clause atoms) db)) (read_more atoms known db extends) (clauses_of s rules) old.rules_known;
    learnt_known = learnt_more (Contains (map (read_clause atoms) db)) lines d
        (All-weaker (Contains (map (read_clause atoms) known)) (Contains (map (read_clause atoms) db)) (read_more atoms known db extends) (learnt lines) old.learnt_known) clause;
    occur = old.occur;
    own = learnt_more (All (λ l. Contains atoms l.atom)) lines d old.own own;
  }

  -- a clause of an assumed order
  pub spending_assumed : (known : List (List Lit)) (cites : List Hint) (lines : List Line) (clause : List Lit) → IsSpending log f v rules atoms known cites lines
      → IsSpending log f v rules atoms (known ++ clause ∷ []) (cites ++ hint.Line 0 ∷ []) lines
  spending_assumed known cites lines clause old =
      let more = read_more atoms known (known ++ clause ∷ []) (clause ∷ [], refl) in
      record {
        fresh = old.fresh;
        used = old.used;
        cites_name = All-append (NamesOneOf rules) cites (hint.Line 0 ∷ []) old.cites_name (All-cons (NamesOneOf rules) (hint.Line 0) [] tt (All-nil (NamesOneOf rules)));
        lines_name = old.lines_name;
        rules_known = All-weaker (Contains (map (read_clause atoms) known)) (Contains (map (read_clause atoms) (known ++ clause ∷ []))) more (clauses_of s rules) old.rules_known;
        learnt_known = All-weaker (Contains (map (read_clause atoms) known)) (Contains (map (read_clause atoms) (known ++ clause ∷ []))) more (learnt lines) old.learnt_known;
        occur = old.occur;
        own = old.own;
      }

  -- a Cycle line leaves what is known
  spending_cycle : (known : List (List Lit)) (cites : List Hint) (lines : List Line) (steps : List Step) (m : ℕ) → IsSpending log f v rules atoms known cites lines
      → IsSpending log f v rules atoms known (cites ++ hint.Line m ∷ []) (lines ++ line.Cycle steps ∷ [])
  spending_cycle known cites lines steps m old = spending_more known known cites lines (line.Cycle steps) m ([], sym (append-nil known)) old (All-nil (Contains rules))
      (All-nil (Contains (map (read_clause atoms) known))) (All-nil (All (λ (l : Literal). Contains atoms l.atom)))
      (λ learn. absurd (no_learn learn)) (λ learn. absurd (no_learn learn))
    where
      no_learn : IsLearnAt (lines ++ line.Cycle steps ∷ []) (length lines + 1) → ⊥
      no_learn learn = let same : Some (line.Cycle steps) ≡ Some (line.Learn learn.lits learn.hints) = sym (line_last lines (line.Cycle steps)) ∙ learn.stands in absurd (cc)

  -- the Cycle line of a clause that stands already
  pub spending_settled : (known : List (List Lit)) (cites : List Hint) (lines : List Line) (steps : List Step) (at m : ℕ) → IsSpending log f v rules atoms known cites lines
      → IsSpending log f v rules atoms known (set cites at (hint.Line m)) (lines ++ line.Cycle steps ∷ [])
  spending_settled known cites lines steps at m old =
      let more = spending_cycle known cites lines steps m old in
      record {
        fresh = more.fresh;
        used = more.used;
        cites_name = All-set (NamesOneOf rules) cites at (hint.Line m) tt old.cites_name;
        lines_name = more.lines_name;
        rules_known = more.rules_known;
        learnt_known = more.learnt_known;
        occur = more.occur;
        own = more.own;
      }

  -- the same of lists that are equal to these
  pub cycle_spent : (known : List (List Lit)) (cites : List Hint) (lines : List Line) (steps : List Step) (m : ℕ) (cites_after : List Hint) (lines_after : List Line)
      → cites_after ≡ cites ++ hint.Line m ∷ [] → lines_after ≡ lines ++ line.Cycle steps ∷ [] → IsSpending log f v rules atoms known cites lines
      → IsSpending log f v rules atoms known cites_after lines_after
  cycle_spent known cites lines steps m cites_after lines_after cites_is lines_is old = rw (cites_is, lines_is) (spending_cycle known cites lines steps m old)

no_line : (n : ℕ) → IsLearnAt [] n → ⊥
no_line n learn = none n (line_within [] n (line.Learn learn.lits learn.hints) learn.stands) learn.stands where
  none : (k : ℕ) → k ≤ 0 → line_at [] k ≡ Some (line.Learn learn.lits learn.hints) → ⊥
  none zero low at = absurd (cc)
  none (suc k) low at = omega (arith, low)

module _ (log : Logged) (f : Form) (v : Bool) (p : Problem) (fits : Fits (sought_of log f v) p) where
  abbrev sought : Sought
  sought = sought_of log f v

  -- the clauses of the rules are those of the problem
  rules_read : All (Contains (map (read_clause p.atoms) p.db)) (clauses_of sought p.rules)
  rules_read = all_from (Contains (map (read_clause p.atoms) p.db)) (clauses_of sought p.rules) (λ c has.
      let (k, r, at, gives) = given_at (λ (q : Rule). result_ok (clause_of sought q)) p.rules c has in
      let own = fits.clauses k r at in
      let low : k < length p.db = let within = slice_get_within p.rules k r at in omega (arith, within, fits.count) in
      let both : Some own.clause ≡ Some c = sym (ap result_ok own.of_rule) ∙ gives in
      let is : own.clause ≡ c = cc in
      let same : read_clause p.atoms (clause_at p.db k) ≡ c = read_same p.atoms (clause_at p.db k) own.clause own.read ∙ is in
      subst (Contains (map (read_clause p.atoms) p.db)) same (contains_map (read_clause p.atoms) p.db (clause_at p.db k) (Contains-get_or p.db k [] low)))

  -- its atoms stand in them
  atoms_occur : All (OccursInRules sought) p.atoms
  atoms_occur = All-weaker (λ a. Any (StandsIn sought a) p.rules) (OccursInRules sought) (λ a any.
      let (r, has, stands) = any_found (StandsIn sought a) p.rules any in
      record { rule = r; clause = stands.clause; is_clause = stands.of_rule; stands = stands.there }) p.atoms fits.atoms

  -- before the first line the clauses of the rules are known
  pub spending_begun : IsSpending log f v p.rules p.atoms p.db (map hint.Rule p.rules) []
  spending_begun = record {
    fresh = λ n learn. absurd (no_line n learn);
    used = λ n learn. absurd (no_line n learn);
    cites_name = All-map (NamesOneOf p.rules) hint.Rule p.rules (All-contains_itself p.rules);
    lines_name = All-nil (Contains p.rules);
    rules_known = rules_read;
    learnt_known = All-nil (Contains (map (read_clause p.atoms) p.db));
    occur = atoms_occur;
    own = All-nil (All (λ (l : Literal). Contains p.atoms l.atom));
  }
