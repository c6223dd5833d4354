-- The record with one more learned clause, and with a last empty one.
use Rattle.std.proofs.Common.{◌≡◌, ◌≢◌, ◌∙◌, sym, ap, subst, ℕ, ◌+◌, ◌^◌, ◌<◌, Bool, true, List, [], ◌∷◌, ◌++◌, length, get_or, map, arith}
use Rattle.std.specs.Prelude.{All, AllPairs}
use Rattle.std.proofs.lemmas.List.{get_or-map, length-map}
use Rattle.std.proofs.lemmas.List.Elements.{All-map, All-nil}
use Rattle.mt_model.specs.Form.{Form}
use Rattle.mt_model.specs.Log.{Logged}
use Rattle.clause_db.specs.declared.lit.Lit.{Lit}
use Rattle.clause_db.specs.Literals.{HasVarsOnce, negation}
use Rattle.clause_db.specs.Hinted.{HintsRefute}
use Rattle.axiom_rules.specs.declared.literal.Atom.{Atom}
use Rattle.axiom_rules.specs.declared.literal.Literal.{Literal}
use Rattle.axiom_rules.specs.Atoms.{AreOnce, IsVar}
use Rattle.axiom_rules.specs.Sought.{Sought, sought_of}
use Rattle.proof_log.specs.declared.line.Hint.{Hint}
use Rattle.proof_log.specs.declared.line.Hint.TheVariants as hint
use Rattle.proof_log.specs.declared.line.Line.{Line}
use Rattle.proof_log.specs.declared.line.Line.TheVariants as line
use Rattle.proof_log.specs.Derivations.{IsLearnt, IsShown, Refutes, clause_of_line}
use Rattle.proof_log.specs.Spelled.{IsSpelled, IsSpelledHint}
use Rattle.cdcl_core.specs.Founds.{lessons}
use Rattle.cdcl_core.specs.Orders.{IsOrderAmong, atom_at, read_lit}
use Rattle.cdcl_core.specs.Recording.{IsLearnLine, IsRecord, IsSettled, cite_at, read_clause}
use Rattle.cdcl_core.proofs.Counts.{few_hints, few_literals}
use Rattle.cdcl_core.proofs.LineGrowth.{lessons_more, refutes_more}
use Rattle.cdcl_core.proofs.Pairs.{atom_there}
use Rattle.cdcl_core.proofs.Reading.{learnt_read}
use Rattle.cdcl_core.proofs.Records.{record_more}
use Rattle.cdcl_core.proofs.Spelling.{literal_spelled}

-- literals of different variables are of different atoms
pub atoms_apart : (atoms : List Atom) (lits : List Lit) → AreOnce atoms → All (λ l. l.var < length atoms) lits → HasVarsOnce lits → AllPairs (λ l m. l.atom ≢ m.atom) (read_clause atoms lits)
atoms_apart atoms lits once low vars i j d less below same =
    let size = length-map lits (read_lit atoms) in
    let e : Lit = record { var = 0; positive = true } in
    let low_j : j < length lits = omega (arith, below, size) in
    let low_i : i < length lits = omega (arith, less, low_j) in
    let at_i = get_or-map (read_lit atoms) lits i e d low_i in
    let at_j = get_or-map (read_lit atoms) lits j e d low_j in
    let v = (get_or lits i e).var in
    let w = (get_or lits j e).var in
    let one : atom_at atoms v ≡ atom_at atoms w = sym (ap (λ (x : Literal). x.atom) at_i) ∙ same ∙ ap (λ (x : Literal). x.atom) at_j in
    vars i j e less low_j (once.once v w (atom_at atoms w) (subst (IsVar atoms v) one (atom_there atoms v (low i e low_i))) (atom_there atoms w (low j e low_j)))

-- what a line shows whose clause is learnt
record IsRight (s : Sought) (lines : List Line) (d : Line) (clause : List Literal) : Type 0 where
  spelled : IsSpelled d
  shown : IsShown s lines (length lines + 1) d
  clause_is : clause_of_line d ≡ clause

module _ (log : Logged) (f : Form) (v : Bool) (atoms : List Atom) (db : List (List Lit)) (cites : List Hint) (lines : List Line)
    (old : IsRecord log f v atoms db cites lines) (once : AreOnce atoms) (few : length atoms + 1 < 2 ^ 32) (within : All (All (λ l. l.var < length atoms)) db) where
  abbrev s : Sought
  s = sought_of log f v

  abbrev AreSettled : List ℕ → Type 0
  AreSettled refs = All (λ c. IsSettled (cite_at cites c)) refs

  abbrev cited_by : List ℕ → List Hint
  cited_by refs = map (cite_at cites) refs

  learn_right : (lits : List Lit) (refs : List ℕ) (d : Line) → All (λ l. l.var < length atoms) lits → HasVarsOnce lits → HintsRefute db (map negation lits) refs
      → AreSettled refs → IsLearnLine (read_clause atoms lits) (cited_by refs) d → IsRight s lines d (read_clause atoms lits)
  learn_right lits refs (line.Cycle steps) low vars hints settled is = absurd is
  learn_right lits refs (line.Learn own cited) low vars hints settled (own_is, cited_is, numbers) = record {
    spelled = record {
      lit_count = let many = few_literals (length atoms) lits vars low in let size = length-map lits (read_lit atoms) in let same = ap length own_is in omega (arith, many, size, same, few);
      hint_count = let many = few_hints (length atoms) db (map negation lits) refs within hints in let size = length-map refs (cite_at cites) in
          let same = ap length cited_is in omega (arith, many, size, same, few);
      each_lit = λ k d below. literal_spelled (length log.rows + 1) (get_or own k d) (own_among k d below) (numbers k d below);
      each_hint = subst (All IsSpelledHint) (sym cited_is) (All-map IsSpelledHint (cite_at cites) refs (λ k d below. old.cited.spelled (get_or refs k d) (hint.Line 0) (hint_there k d below)));
      once = λ i j d less below same. own_apart i j d less below (sym same);
    };
    shown = subst (λ (c : List Literal). IsLearnt s lines (length lines + 1) c cited) (sym own_is)
        (subst (λ (h : List Hint). IsLearnt s lines (length lines + 1) (read_clause atoms lits) h) (sym cited_is)
        (learnt_read s atoms db cites lines lits refs once old.of_log.in_range within low old.cited hints settled));
    clause_is = own_is;
  } where
    own_among : All (λ (l : Literal). IsOrderAmong (length log.rows + 1) l.atom) own
    own_among =
        subst (All (λ (l : Literal). IsOrderAmong (length log.rows + 1) l.atom)) (sym own_is)
        (All-map (λ (l : Literal). IsOrderAmong (length log.rows + 1) l.atom) (read_lit atoms) lits (λ k d below. old.of_log.orders (get_or lits k d).var _ (low k d below)))

    own_apart : AllPairs (λ (l m : Literal). l.atom ≢ m.atom) own
    own_apart = subst (AllPairs (λ (l m : Literal). l.atom ≢ m.atom)) (sym own_is) (atoms_apart atoms lits once low vars)

    hint_there : (k d : ℕ) → k < length refs → get_or refs k d < length cites
    hint_there k d below = let held = hints.held k d below in omega (arith, held, old.cited.count)

  -- the record with a learned clause and its line
  pub record_learned : (lits : List Lit) (refs : List ℕ) (d : Line) → All (λ l. l.var < length atoms) lits → HasVarsOnce lits → 0 < length lits → HintsRefute db (map negation lits) refs
      → AreSettled refs → IsLearnLine (read_clause atoms lits) (cited_by refs) d → length lines + 1 < 2 ^ 32
      → IsRecord log f v atoms (db ++ lits ∷ []) (cites ++ hint.Line (length lines + 1) ∷ []) (lines ++ d ∷ [])
  record_learned lits refs d low vars some hints settled is few_lines =
      let right = learn_right lits refs d low vars hints settled is in
      record_more log f v atoms db cites lines d lits old right.spelled right.shown right.clause_is some few_lines

  -- with a line whose clause is empty the lines refute
  pub record_refuted : (refs : List ℕ) (d : Line) → HintsRefute db [] refs → AreSettled refs → IsLearnLine [] (cited_by refs) d → Refutes log f v (lines ++ d ∷ [])
  record_refuted refs d hints settled is =
      let right = learn_right [] refs d (All-nil (λ (l : Lit). l.var < length atoms)) (λ i j e less below. absurd (omega (arith, below))) hints settled is in
      refutes_more log f v lines d old.derives right.spelled right.shown right.clause_is

-- a line whose clause is empty is no lesson, and any other Learn line is one
pub no_lesson : (lines : List Line) (hints : List Hint) (d : Line) → IsLearnLine [] hints d → lessons (lines ++ d ∷ []) ≡ lessons lines
no_lesson lines hints (line.Cycle steps) is = absurd is
no_lesson lines hints (line.Learn own cited) is = let more = lessons_more lines (line.Learn [] cited) in rw is.0 (omega (arith, more))

pub one_lesson : (lines : List Line) (clause : List Literal) (hints : List Hint) (d : Line) → IsLearnLine clause hints d → 0 < length clause → lessons (lines ++ d ∷ []) ≡ lessons lines + 1
one_lesson lines clause hints (line.Cycle steps) is some = absurd is
one_lesson lines [] hints (line.Learn own cited) is some = absurd (omega (arith, some))
one_lesson lines (l ∷ ls) hints (line.Learn own cited) is some = let more = lessons_more lines (line.Learn (l ∷ ls) cited) in rw is.0 more
