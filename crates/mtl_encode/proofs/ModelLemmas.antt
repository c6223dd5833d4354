-- What satisfies a problem that fits satisfies the rules, and gives an admissible timing that agrees with it.
use Rattle.std.proofs.Common.{◌≡◌, ◌∙◌, sym, ap, refl, subst, ℕ, zero, suc, ◌+◌, ◌<◌, Bool, true, false, List, [], ◌∷◌, length, Some, Ok, inl, inr, arith, ℤ, ◌-ℤ◌}
use Rattle.std.specs.Prelude.{All, int_le, slice_get, slice_index_or}
use Rattle.std.specs.List.{list_any, position_or_len}
use Rattle.std.proofs.lemmas.Bool.{cases_Bool}
use Rattle.std.proofs.lemmas.Int.{ints}
use Rattle.std.proofs.lemmas.Option.{slice_get-get_or}
use Rattle.mt_model.proofs.Members.{Among}
use Rattle.mt_model.specs.Bounds.{BoundsAreAdmissible}
use Rattle.mt_model.specs.Form.{Form}
use Rattle.mt_model.specs.Log.{IsLog, Logged}
use Rattle.mt_model.specs.Timing.{Admissible, time_of}
use Rattle.mt_model.specs.Truth.{truth}
use Rattle.neg_cycle.specs.Systems.{IsEdge, number_of}
use Rattle.skew_bounds.proofs.Settled.{node-times, timing-of}
use Rattle.skew_bounds.specs.RowTimes.{times_of}
use Rattle.clause_db.specs.declared.lit.Lit.{Lit}
use Rattle.clause_db.specs.Clauses.{clause_at}
use Rattle.clause_db.specs.Literals.{value_of}
use Rattle.axiom_rules.specs.declared.literal.Atom.{Atom}
use Rattle.axiom_rules.specs.declared.literal.Atom.TheVariants.{Order}
use Rattle.axiom_rules.specs.declared.literal.Literal.{Literal}
use Rattle.axiom_rules.specs.declared.rule.Rule.{Rule}
use Rattle.axiom_rules.specs.Atoms.{AreOnce, IsVar}
use Rattle.axiom_rules.specs.Clauses.{clause_of}
use Rattle.axiom_rules.specs.Laws.{IsOfRows}
use Rattle.axiom_rules.specs.Literals.{same_atom}
use Rattle.axiom_rules.specs.Sought.{Sought, sought_of}
use Rattle.axiom_rules.proofs.AddingLemmas.{atom-itself}
use Rattle.axiom_rules.proofs.PartLemmas.{atoms_same}
use Rattle.axiom_rules.proofs.RulesMade.{orders-of-rows}
use Rattle.mtl_encode.proofs.AtomGrowth.{parts-read, read-at, read-atom, read-count}
use Rattle.mtl_encode.proofs.RangeLemmas.{among-at}
use Rattle.mtl_encode.specs.declared.problem.Problem.{Problem}
use Rattle.mtl_encode.specs.Exact.{AgreesWith, RulesAreExact, SatisfiesKept, clause_is_true, literal_is_true}
use Rattle.mtl_encode.specs.Listing.{ListsRules}
use Rattle.question.specs.Extremes.{AreExtremes, Extremes}
use Rattle.mtl_encode.specs.Needless.{is_needless}
use Rattle.mtl_encode.specs.Models.{IsModel, value_at}
use Rattle.mtl_encode.specs.Problems.{Fits, ReadsAs, read_literal}

-- the truth value of an atom, read through the atoms
abbrev pub value_in : List Atom → List Bool → Atom → Bool
value_in atoms values a = value_at values (position_or_len (same_atom a) atoms)

-- an atom that has a variable stands at its first place
position-there : (atoms : List Atom) (v : ℕ) (a : Atom) → IsVar atoms v a → IsVar atoms (position_or_len (same_atom a) atoms) a
position-there [] v a is = absurd (cc)
position-there (b ∷ atoms) zero a is = let here : b ≡ a = cc in rw here at-first
  where
    at-first : IsVar (a ∷ atoms) (position_or_len (same_atom a) (a ∷ atoms)) a
    at-first = rw (atom-itself a) refl
position-there (b ∷ atoms) (suc v) a is = elim (cases_Bool (same_atom a b)) [
  | inl same ↦ rw same (ap (λ (x : Atom). Some x) (sym (atoms_same a b same)))
  | inr other ↦ rw other (let e : 1 + position_or_len (same_atom a) atoms ≡ suc (position_or_len (same_atom a) atoms) = omega arith in rw e (position-there atoms v a is))
]

value-of-var : (atoms : List Atom) (values : List Bool) (v : ℕ) (a : Atom) → AreOnce atoms → IsVar atoms v a → value_in atoms values a ≡ value_at values v
value-of-var atoms values v a once is = ap (value_at values) (once.once (position_or_len (same_atom a) atoms) v a (position-there atoms v a is) is)

-- a clause is true as its literals of variables are
literal-same : (atoms : List Atom) (values : List Bool) (l : Lit) (c : Literal) → AreOnce atoms → read_literal atoms l ≡ Some c
    → value_of (value_at values) l ≡ literal_is_true (value_in atoms values) c
literal-same atoms values l c once is =
    let both = read-atom atoms l c is in
    rw (both.1, value-of-var atoms values l.var c.atom once both.0) refl

clause-same : (atoms : List Atom) (values : List Bool) → AreOnce atoms → (lits : List Lit) (clause : List Literal) → ReadsAs atoms lits clause
    → list_any (value_of (value_at values)) lits ≡ clause_is_true (value_in atoms values) clause
clause-same atoms values once [] [] is = refl
clause-same atoms values once [] (c ∷ clause) is = absurd (cc)
clause-same atoms values once (l ∷ lits) [] is = absurd (cc)
clause-same atoms values once (l ∷ lits) (c ∷ clause) is =
    let both = parts-read _ _ _ _ is in
    rw (literal-same atoms values l c once both.0, clause-same atoms values once lits clause both.1) refl

-- the time of a row by the numbers of its node and of the zero moment
time-of-node : (rows : ℕ) (numbers : List ℤ) (e : ℕ) → e < rows → rows < length numbers → time_of (times_of rows numbers) e ≡ number_of numbers (e + 1) -ℤ number_of numbers 0
time-of-node rows numbers e low some =
    let next : e + 1 ≡ suc e = omega arith in
    rw next (node-times rows numbers (suc e) some (omega (arith, low)))

same-difference : (a b x : ℤ) → (a -ℤ x) -ℤ (b -ℤ x) ≡ a -ℤ b
same-difference a b x = omega (arith, ints)

module _ (s : Sought) (out : Rule → Bool) (p : Problem) (values : List Bool) (numbers : List ℤ) (fits : Fits s p) (lists : ListsRules s out p.rules)
    (once : AreOnce p.atoms) (model : IsModel p values numbers) where
  -- the rule of a clause, with what its place holds
  record Held (rule : Rule) (c : List Literal) : Type 0 where
    place : ℕ
    low : place < length p.db
    read : ReadsAs p.atoms (clause_at p.db place) c

  held : (rule : Rule) (c : List Literal) → clause_of s rule ≡ Ok c → out rule ≡ false → Held rule c
  held rule c is stays =
      let (k, low, at) = lists.every rule c is stays in
      let there : slice_get p.rules k ≡ Some rule = slice_get-get_or p.rules k rule low ∙ ap (λ (r : Rule). Some r) at in
      let of = fits.clauses k rule there in
      let same : of.clause ≡ c = cc (of.of_rule, is) in
      record { place = k; low = omega (arith, low, fits.count); read = subst (ReadsAs p.atoms (clause_at p.db k)) same of.read }

  satisfies : SatisfiesKept s out (value_in p.atoms values)
  satisfies rule c is stays =
      let h = held rule c is stays in
      sym (clause-same p.atoms values once (clause_at p.db h.place) c h.read) ∙ model.clauses h.place [] h.low

  -- an order atom that occurs has the value that the times of its rows give it
  agrees : AgreesWith s out (value_in p.atoms values) (times_of (length s.log.rows) numbers)
  agrees e f c occurs =
      let h = held occurs.rule occurs.clause occurs.is_clause occurs.kept in
      let (j, l, low, at, is) = occurs.stands in
      let lits = clause_at p.db h.place in
      let lit : Lit = slice_index_or lits j (record { var = 0; positive = true }) in
      let read = read-at p.atoms lits occurs.clause j (record { var = 0; positive = true }) l h.read (omega (arith, low, read-count p.atoms lits occurs.clause h.read)) in
      let var : IsVar p.atoms lit.var (Order e f c) = (read-atom p.atoms lit (slice_index_or occurs.clause j l) read).0 ∙ ap (λ (x : Literal). Some x.atom) at ∙ ap (λ (x : Atom). Some x) is in
      let in_ : Among occurs.clause l = subst (Among occurs.clause) at (among-at occurs.clause j l low) in
      let range : IsOfRows s (Order e f c) = subst (IsOfRows s) is (orders-of-rows s occurs.rule occurs.clause l occurs.is_clause in_) in
      let some : length s.log.rows < length numbers = omega (arith, model.numbers_count, fits.nodes) in
      let time-e = time-of-node (length s.log.rows) numbers e (omega (arith, range.0, range.1)) some in
      let time-f = time-of-node (length s.log.rows) numbers f (omega (arith, range.1)) some in
      let difference : time_of (times_of (length s.log.rows) numbers) e -ℤ time_of (times_of (length s.log.rows) numbers) f ≡ number_of numbers (e + 1) -ℤ number_of numbers (f + 1) =
      rw (time-e, time-f) (same-difference (number_of numbers (e + 1)) (number_of numbers (f + 1)) (number_of numbers 0)) in
      value-of-var p.atoms values lit.var (Order e f c) once var ∙ model.orders lit.var e f c var ∙ ap (λ x. int_le x c) (sym difference)

  admissible : BoundsAreAdmissible → IsLog s.log → Admissible s.log (times_of (length s.log.rows) numbers)
  admissible law valid = timing-of law s.log valid p.bounds p.edges numbers fits.bounds fits.edges (subst (λ n. All (IsEdge n) p.edges) fits.nodes fits.system.each)
      (record { count = model.numbers_count ∙ fits.nodes; meets = model.edges })

-- what satisfies the problem gives an admissible timing in which the formula has the value sought
pub model-exact : RulesAreExact → BoundsAreAdmissible → (log : Logged) (f : Form) (value : Bool) (x : Extremes) (p : Problem) (values : List Bool) (numbers : List ℤ) → IsLog log → AreExtremes log x
    → Fits (sought_of log f value) p → ListsRules (sought_of log f value) (is_needless x (sought_of log f value)) p.rules → AreOnce p.atoms → IsModel p values numbers
    → Admissible log (times_of (length log.rows) numbers) × (truth log (times_of (length log.rows) numbers) 0 f ≡ value)
model-exact exact law log f value x p values numbers valid are fits lists once model =
    let s = sought_of log f value in
    let out : Rule → Bool = is_needless x s in
    let ok = admissible s out p values numbers fits lists once model law valid in (
      ok,
      exact log f value x (value_in p.atoms values) (times_of (length log.rows) numbers) valid are ok (satisfies s out p values numbers fits lists once model) (agrees s out p values numbers fits lists once model),
    )
