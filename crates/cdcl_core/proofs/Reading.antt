-- Clauses of variables read as clauses of atoms.
use Rattle.std.proofs.Common.{◌≡◌, ap, refl, subst, ℕ, ◌+◌, ◌<◌, List, [], ◌∷◌, length, map}
use Rattle.std.specs.Prelude.{IsTrue, nat_lt, All}
use Rattle.std.proofs.lemmas.Bool.{lt-ltb, ltb-true}
use Rattle.std.proofs.lemmas.List.Elements.{All-nil, All-cons, All-head, All-tail, All-weaker}
use Rattle.hint_refutation.specs.Hints.{Refutes, Used as HintsUsed}
use Rattle.hint_refutation.specs.Maps.{AreAmong, Carrier}
use Rattle.hint_refutation.specs.Propagation.{Misses}
use Rattle.hint_refutation.proofs.Carried.{words-carried}
use Rattle.clause_db.specs.declared.lit.Lit.{Lit}
use Rattle.clause_db.specs.Literals.{negation}
use Rattle.clause_db.specs.Clauses.{AreHeld, clause_at, clauses_at}
use Rattle.clause_db.specs.Hinted.{HintsAreUsed, HintsRefute}
use Rattle.axiom_rules.specs.declared.literal.Atom.{Atom}
use Rattle.axiom_rules.specs.declared.literal.Literal.{Literal}
use Rattle.axiom_rules.specs.Atoms.{AreOnce, IsVar}
use Rattle.axiom_rules.specs.Literals.{negated}
use Rattle.axiom_rules.specs.Sought.{Sought}
use Rattle.proof_log.specs.declared.line.Hint.{Hint}
use Rattle.proof_log.specs.declared.line.Line.{Line}
use Rattle.proof_log.specs.Derivations.{HasClauses, IsLearnt, is_in_range}
use Rattle.cdcl_core.specs.Orders.{atom_at, read_lit}
use Rattle.cdcl_core.specs.Recording.{AreCited, IsSettled, cite_at, read_clause}
use Rattle.cdcl_core.proofs.Pairs.{atom_there}
use Rattle.clause_db.proofs.LawLemmas.{lit_same}

module _ (atoms : List Atom) (once : AreOnce atoms) where
  apart : (k l : Lit) → k.var < length atoms → l.var < length atoms → read_lit atoms k ≡ read_lit atoms l → k ≡ l
  apart k l low_k low_l same =
      let atom = ap (λ (x : Literal). x.atom) same in
      let at : IsVar atoms k.var (atom_at atoms l.var) = subst (IsVar atoms k.var) atom (atom_there atoms k.var low_k) in
      lit_same k l (once.once k.var l.var (atom_at atoms l.var) at (atom_there atoms l.var low_l)) (ap (λ (x : Literal). x.positive) same)

  -- reading keeps the literals of the atoms' variables apart
  abbrev reader : Carrier Lit Literal
  reader = record {
    among = λ l. nat_lt l.var (length atoms);
    neg = negation;
    opposite = negated;
    carry = read_lit atoms;
    negated = λ l is. is;
    commutes = λ l is. refl;
    apart = λ k l is_k is_l same. apart k l (ltb-true k.var (length atoms) is_k) (ltb-true l.var (length atoms) is_l) same;
  }

  among_of : (lits : List Lit) → All (λ l. l.var < length atoms) lits → AreAmong reader lits
  among_of lits within = All-weaker (λ l. l.var < length atoms) (λ l. IsTrue (nat_lt l.var (length atoms))) (λ l low. lt-ltb l.var (length atoms) low) lits within

  negated_read : (lits : List Lit) → map (read_lit atoms) (map negation lits) ≡ map negated (read_clause atoms lits)
  negated_read [] = refl
  negated_read (l ∷ ls) = ap (λ ms. negated (read_lit atoms l) ∷ ms) (negated_read ls)

  negated_within : (lits : List Lit) → All (λ l. l.var < length atoms) lits → All (λ l. l.var < length atoms) (map negation lits)
  negated_within [] within = All-nil (λ l. l.var < length atoms)
  negated_within (l ∷ ls) within = All-cons (λ (k : Lit). k.var < length atoms) (negation l) (map negation ls) (All-head (λ (k : Lit). k.var < length atoms) l ls within)
      (negated_within ls (All-tail (λ (k : Lit). k.var < length atoms) l ls within))

  held_among : (db : List (List Lit)) (refs : List ℕ) → All (All (λ l. l.var < length atoms)) db → AreHeld db refs → All (AreAmong reader) (clauses_at db refs)
  held_among db [] within held = All-nil (AreAmong reader)
  held_among db (c ∷ cs) within held = All-cons (AreAmong reader) (clause_at db c) (clauses_at db cs)
      (among_of (clause_at db c) (within c [] (All-head (λ (k : ℕ). k < length db) c cs held)))
      (held_among db cs within (All-tail (λ (k : ℕ). k < length db) c cs held))

  -- what clauses of variables refute, they refute when they are read
  pub refutes_read : (db : List (List Lit)) (lits : List Lit) (refs : List ℕ) → All (All (λ l. l.var < length atoms)) db → All (λ l. l.var < length atoms) lits
      → HintsRefute db (map negation lits) refs → Refutes negated (map negated (read_clause atoms lits)) (map (read_clause atoms) (clauses_at db refs))
  refutes_read db lits refs within low hints =
      let carried =
      ((words-carried Lit Literal).refutes reader (map negation lits) (clauses_at db refs) (among_of (map negation lits) (negated_within lits low)) (held_among db refs within hints.held)).0
      hints.refutes in
      subst (λ ms. Refutes negated ms (map (read_clause atoms) (clauses_at db refs))) (negated_read lits) carried

  -- what is their resolvent is so too
  pub used_read : (db : List (List Lit)) (lits : List Lit) (refs : List ℕ) → All (All (λ l. l.var < length atoms)) db → All (λ l. l.var < length atoms) lits
      → HintsAreUsed db lits refs → HintsUsed negated (read_clause atoms lits) (map (read_clause atoms) (clauses_at db refs))
  used_read db lits refs within low used = ((words-carried Lit Literal).used reader lits (clauses_at db refs) (among_of lits low) (held_among db refs within used.held)).0 used.used

  -- and what they miss, they miss
  pub misses_read : (db : List (List Lit)) (first : Lit) (others : List Lit) → All (All (λ l. l.var < length atoms)) db → All (λ l. l.var < length atoms) (first ∷ others)
      → Misses negation db (map negation others) first → Misses negated (map (read_clause atoms) db) (map negated (read_clause atoms others)) (read_lit atoms first)
  misses_read db first others within low missed =
      let low_first = All-head (λ (k : Lit). k.var < length atoms) first others low in
      let low_others = All-tail (λ (k : Lit). k.var < length atoms) first others low in
      let carried = (words-carried Lit Literal).missed reader db (map negation others) first (All-weaker (All (λ (k : Lit). k.var < length atoms)) (AreAmong reader) among_of db within)
      (among_of (map negation others) (negated_within others low_others)) (lt-ltb first.var (length atoms) low_first) missed in
      subst (λ ms. Misses negated (map (read_clause atoms) db) ms (read_lit atoms first)) (negated_read others) carried

-- the hints that cite clauses have these clauses
pub cites_have : (s : Sought) (atoms : List Atom) (db : List (List Lit)) (cites : List Hint) (lines : List Line) (refs : List ℕ) → AreCited s atoms db cites lines → AreHeld db refs
    → All (λ c. IsSettled (cite_at cites c)) refs → HasClauses s lines (length lines + 1) (map (cite_at cites) refs) (map (read_clause atoms) (clauses_at db refs))
cites_have s atoms db cites lines [] are held settled = refl
cites_have s atoms db cites lines (c ∷ cs) are held settled =
    let here = All-head (λ (k : ℕ). IsSettled (cite_at cites k)) c cs settled in
    let rest = All-tail (λ (k : ℕ). IsSettled (cite_at cites k)) c cs settled in
    rw (are.each c (All-head (λ (k : ℕ). k < length db) c cs held) here, cites_have s atoms db cites lines cs are (All-tail (λ (k : ℕ). k < length db) c cs held) rest) refl

-- a clause that clauses refute the negation of is learnt
pub learnt_read : (s : Sought) (atoms : List Atom) (db : List (List Lit)) (cites : List Hint) (lines : List Line) (lits : List Lit) (refs : List ℕ)
    → AreOnce atoms → All (λ a. IsTrue (is_in_range s a)) atoms
    → All (All (λ l. l.var < length atoms)) db → All (λ l. l.var < length atoms) lits → AreCited s atoms db cites lines → HintsRefute db (map negation lits) refs
    → All (λ c. IsSettled (cite_at cites c)) refs → IsLearnt s lines (length lines + 1) (read_clause atoms lits) (map (cite_at cites) refs)
learnt_read s atoms db cites lines lits refs once ranged within low are hints settled = record {
  in_range = ranges lits low;
  clauses = map (read_clause atoms) (clauses_at db refs);
  cited = cites_have s atoms db cites lines refs are hints.held settled;
  refuted = refutes_read atoms once db lits refs within low hints;
} where
  ranges : (ls : List Lit) → All (λ l. l.var < length atoms) ls → All (λ (l : Literal). IsTrue (is_in_range s l.atom)) (read_clause atoms ls)
  ranges [] all = All-nil (λ (l : Literal). IsTrue (is_in_range s l.atom))
  ranges (l ∷ ls) all = All-cons (λ (m : Literal). IsTrue (is_in_range s m.atom)) (read_lit atoms l) (read_clause atoms ls)
      (ranged l.var _ (All-head (λ (k : Lit). k.var < length atoms) l ls all)) (ranges ls (All-tail (λ (k : Lit). k.var < length atoms) l ls all))
