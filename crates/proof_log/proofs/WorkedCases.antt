-- Short derivations over small logs, with what the definitions say of them. Numbers and texts are worked out by hand.
use Rattle.std.proofs.Common.{lit<, ap, subst, sym, ◌≡◌, refl, arith, inl, inr, ℕ, zero, suc, ◌<◌, ◌≤◌, ◌⊎◌, List, [], ◌∷◌, length, false, None, codes, pos, negsuc}
use Rattle.std.specs.Prelude.{IsTrue, All, AllPairs, Contains}
use Rattle.std.specs.Fmt.{digits}
use Rattle.std.proofs.lemmas.Int.{ints}
use Rattle.std.proofs.lemmas.List.Elements.{All-nil, All-cons, All-from_recursion}
use Rattle.mt_model.specs.declared.log.Act.TheVariants as act
use Rattle.mt_model.specs.declared.step.Step.TheVariants as step
use Rattle.mt_model.specs.Form.{True}
use Rattle.mt_model.specs.Log.{Logged, plain_log}
use Rattle.mt_model.specs.Walks.{Edge}
use Rattle.hint_refutation.specs.Hints.{Gives, IsFalseUnder, Refutes as HintsRefute}
use Rattle.hint_refutation.proofs.Lists.{contains_cases, contains_first, contains_later, contains_none}
use Rattle.hint_refutation.proofs.Hinted.{step_gives}
use Rattle.axiom_rules.specs.declared.literal.Atom.TheVariants as atom
use Rattle.axiom_rules.specs.declared.literal.Literal.{Literal}
use Rattle.axiom_rules.specs.Sought.{sought_of}
use Rattle.axiom_rules.specs.Literals.{negated, no, yes, order_literal}
use Rattle.proof_log.specs.declared.line.Hint.{Hint}
use Rattle.proof_log.specs.declared.line.Hint.TheVariants as hint
use Rattle.proof_log.specs.declared.line.Line.{Line}
use Rattle.proof_log.specs.declared.line.Line.TheVariants as line
use Rattle.proof_log.specs.Derivations.{Derives, FirstWrong, IsEmptyAt, IsGood, IsShown, is_in_range, NoneWrong, Refutes, RightLine, clause_of_hint, clause_of_line}
use Rattle.proof_log.specs.LinesText.{line_text, lines_text}
use Rattle.proof_log.specs.Spelled.{IsNumber, IsSpelled, IsSpelledHint, IsSpelledLiteral}
use Rattle.mt_list.proofs.Lists.{found_same}

-- One host with an exact clock and one row, at 10; the formula is `true`, and no timing makes it false.

abbrev pub single : Logged
single =
    plain_log (record { name = codes "a"; skew = pos 0; gap = pos 0; least = 1; most = None } ∷ [])
    (record { host = 0; local = pos 10; act = act.Note (codes "n") } ∷ [])

abbrev rule : ℕ → List ℕ → Hint
rule number args = hint.Rule (record { number = number; args = args })

-- `true` is true at event 0; some event is first, and here it is event 0; there the formula is false
abbrev pub is_true : Hint
is_true = rule 3 (0 ∷ 0 ∷ 0 ∷ 0 ∷ [])

abbrev is_first : Hint
is_first = rule 11 (0 ∷ 0 ∷ 0 ∷ 0 ∷ [])

abbrev is_sought : Hint
is_sought = rule 24 (0 ∷ 0 ∷ 0 ∷ 0 ∷ [])

abbrev pub node : Literal
node = yes (atom.Node 0 0)

abbrev pub first : Literal
first = yes (atom.First 0)

abbrev refuting : Line
refuting = line.Learn [] (is_true ∷ is_first ∷ is_sought ∷ [])

abbrev too_short : Line
too_short = line.Learn [] (is_true ∷ is_first ∷ [])

abbrev pub stating : Line
stating = line.Learn (node ∷ []) (is_true ∷ [])

abbrev concluding : Line
concluding = line.Learn [] (hint.Line 1 ∷ is_first ∷ is_sought ∷ [])

-- The texts of these lines, by which alone they are told apart.
refuting_text : lines_text (refuting ∷ []) ≡ codes "learn 0 3 rule 3 0 0 rule 11 rule 24 0\n"
unfolding digits
refuting_text = refl

two_texts : lines_text (stating ∷ concluding ∷ []) ≡ codes "learn 1 +node 0 0 1 rule 3 0 0\nlearn 0 3 line 1 rule 11 rule 24 0\n"
unfolding digits
two_texts = refl

walk_text : lines_text (line.Cycle (step.High 0 ∷ step.Low 0 ∷ []) ∷ []) ≡ codes "cycle 2 high 0 low 0\n"
unfolding digits
walk_text = refl

-- an order literal has no sign: its text is the constraint that it states
order_text : line_text (line.Learn (order_literal 2 5 (pos 7) ∷ order_literal 5 2 (negsuc 6) ∷ no (atom.Gap 1 2 3) ∷ []) []) ≡ codes "learn 3 order 2 5 7 order 5 2 -7 -gap 1 2 3 0\n"
unfolding digits
order_text = refl

-- an atom of one instant has its smaller event first
same_text : line_text (line.Learn (yes (atom.Same 1 3) ∷ no (atom.Same 0 2) ∷ []) (rule 25 (3 ∷ 1 ∷ 0 ∷ 0 ∷ []) ∷ rule 26 (1 ∷ 3 ∷ 0 ∷ 0 ∷ []) ∷ rule 27 (0 ∷ 1 ∷ 2 ∷ 0 ∷ []) ∷ [])) ≡ codes "learn 2 +same 1 3 -same 0 2 3 rule 25 3 1 rule 26 1 3 rule 27 0 1 2\n"
unfolding digits
same_text = refl

-- a rule of a number that the table lacks has no arguments
no_such_rule : line_text (line.Learn [] (rule 255 (0 ∷ 0 ∷ 0 ∷ 0 ∷ []) ∷ rule 0 (0 ∷ 0 ∷ 0 ∷ 0 ∷ []) ∷ hint.Line 4294967295 ∷ [])) ≡ codes "learn 0 3 rule 255 rule 0 line 4294967295\n"
unfolding digits
no_such_rule = refl

-- the clause of a cycle has the negation of each order step once
cycle_clause : clause_of_line (line.Cycle (step.Order 2 5 (pos 7) ∷ step.Low 0 ∷ step.Order 2 5 (pos 7) ∷ step.Order 5 2 (negsuc 9) ∷ [])) ≡ order_literal 5 2
    (negsuc 7) ∷ order_literal 2 5 (pos 9) ∷ []
cycle_clause = refl

-- Spellings.

no_atoms : AllPairs (λ (l m : Literal). m.atom ≡ l.atom → ⊥) []
no_atoms i j d order within = absurd (omega arith)

one_atom : (l : Literal) → AllPairs (λ (l m : Literal). m.atom ≡ l.atom → ⊥) (l ∷ [])
one_atom l i j d order within = absurd (omega arith)

abbrev AreZero : List ℕ → Type 0
AreZero ns = All (λ (n : ℕ). n ≡ 0) ns

numbers_small : (ns : List ℕ) → AreZero ns → All IsNumber ns
numbers_small ns zeros k d within = rw (zeros k d within) (lit< tt)

no_zeros : AreZero []
no_zeros = All-nil (λ (n : ℕ). n ≡ 0)

more_zeros : (ns : List ℕ) → AreZero ns → AreZero (0 ∷ ns)
more_zeros ns zeros = All-cons (λ (n : ℕ). n ≡ 0) 0 ns refl zeros

zero_one : AreZero (0 ∷ [])
zero_one = more_zeros [] no_zeros

zeros_two : AreZero (0 ∷ 0 ∷ [])
zeros_two = more_zeros (0 ∷ []) zero_one

zeros_three : AreZero (0 ∷ 0 ∷ 0 ∷ [])
zeros_three = more_zeros (0 ∷ 0 ∷ []) zeros_two

zeros_four : AreZero (0 ∷ 0 ∷ 0 ∷ 0 ∷ [])
zeros_four = more_zeros (0 ∷ 0 ∷ 0 ∷ []) zeros_three

spelled_true : IsSpelledHint is_true
spelled_true = record { number = lit< tt; four = refl; used = numbers_small (0 ∷ 0 ∷ []) zeros_two; unused = zeros_two }

spelled_first : IsSpelledHint is_first
spelled_first = record { number = lit< tt; four = refl; used = numbers_small [] no_zeros; unused = zeros_four }

spelled_sought : IsSpelledHint is_sought
spelled_sought = record { number = lit< tt; four = refl; used = numbers_small (0 ∷ []) zero_one; unused = zeros_three }

-- an argument that is not used is 0
unused_argument : IsSpelledHint (rule 11 (0 ∷ 0 ∷ 0 ∷ 1 ∷ [])) → ⊥
unused_argument is = absurd (omega (arith, is.unused 3 0 (omega arith)))

-- there are exactly four arguments
three_arguments : IsSpelledHint (rule 11 (0 ∷ 0 ∷ 0 ∷ [])) → ⊥
three_arguments is = absurd (omega (arith, is.four))

-- a smaller event that stands second
events_exchanged : IsSpelledLiteral (yes (atom.Order 5 2 (pos 7))) → ⊥
events_exchanged is = absurd (omega (arith, is.smaller_first))

-- the bound in the text counts: -10^21 - 1 in an atom is 10^21 in the text of its negation
widest : IsSpelledLiteral (no (atom.Order 2 5 (negsuc 1000000000000000000000)))
widest = record { smaller_first = omega arith; second = lit< tt; bound = record { low = omega (arith, ints); high = omega (arith, ints) } }

too_wide : IsSpelledLiteral (yes (atom.Order 2 5 (negsuc 1000000000000000000000))) → ⊥
too_wide is = absurd (omega (arith, ints, is.bound.low))

-- an atom that stands twice
twice : IsSpelled (line.Learn (node ∷ no (atom.Node 0 0) ∷ []) []) → ⊥
twice is = is.once 0 1 node (omega arith) (omega arith) refl

spelled_refuting : IsSpelled refuting
spelled_refuting = record {
  lit_count = lit< tt;
  hint_count = lit< tt;
  each_lit = All-nil IsSpelledLiteral;
  each_hint = All-from_recursion IsSpelledHint (is_true ∷ is_first ∷ is_sought ∷ []) (spelled_true, (spelled_first, (spelled_sought, tt)));
  once = no_atoms;
}

spelled_stating : IsSpelled stating
spelled_stating = record {
  lit_count = lit< tt;
  hint_count = lit< tt;
  each_lit = All-from_recursion IsSpelledLiteral (node ∷ []) ((lit< tt, lit< tt), tt);
  each_hint = All-from_recursion IsSpelledHint (is_true ∷ []) (spelled_true, tt);
  once = one_atom node;
}

spelled_concluding : IsSpelled concluding
spelled_concluding = record {
  lit_count = lit< tt;
  hint_count = lit< tt;
  each_lit = All-nil IsSpelledLiteral;
  each_hint = All-from_recursion IsSpelledHint (hint.Line 1 ∷ is_first ∷ is_sought ∷ []) (lit< tt, (spelled_first, (spelled_sought, tt)));
  once = no_atoms;
}

-- Refutations by hints.

abbrev clauses : List (List Literal)
clauses = (node ∷ []) ∷ (first ∷ []) ∷ (negated first ∷ negated node ∷ []) ∷ []

pub alone : (l : Literal) → All (λ m. (m ≡ l) ⊎ Contains [] (negated m)) (l ∷ [])
alone l = All-from_recursion (λ m. (m ≡ l) ⊎ Contains [] (negated m)) (l ∷ []) (inl refl, tt)

pub not_among : (a x : Literal) → (a ≡ x → ⊥) → Contains (a ∷ []) x → ⊥
not_among a x other has = elim (contains_cases a x [] has) [ inl same ↦ other same | inr later ↦ contains_none x later ]

node_given : Gives negated [] (node ∷ []) node
node_given = record {
  leaves = record { has = contains_first node []; others_false = alone node };
  not_true = contains_none node;
  not_false = contains_none (negated node);
}

atoms_same : (a b : Literal) → a ≡ b → a.atom ≡ b.atom
atoms_same a b same = ap (λ (l : Literal). l.atom) same

first_given : Gives negated (node ∷ []) (first ∷ []) first
first_given = record {
  leaves = record { has = contains_first first []; others_false = All-from_recursion (λ m. (m ≡ first) ⊎ Contains (node ∷ []) (negated m)) (first ∷ []) (inl refl, tt) };
  not_true = not_among node first (λ same. let atoms = atoms_same node first same in cc);
  not_false = not_among node (negated first) (λ same. let atoms = atoms_same node (negated first) same in cc);
}

last_false : IsFalseUnder negated (first ∷ node ∷ []) (negated first ∷ negated node ∷ [])
last_false =
    All-from_recursion (λ l. Contains (first ∷ node ∷ []) (negated l)) (negated first ∷ negated node ∷ [])
    (contains_first first (node ∷ []), (contains_later first node (node ∷ []) (contains_first node []), tt))

hints_refute : HintsRefute negated [] clauses
hints_refute = inr (node, node_given, inr (first, first_given, inl (refl, last_false)))

-- the one hint of the stating line is false where its literal is denied
hint_refutes : HintsRefute negated (negated node ∷ []) ((node ∷ []) ∷ [])
hint_refutes = inl (refl, All-from_recursion (λ l. Contains (negated node ∷ []) (negated l)) (node ∷ []) (contains_first (negated node) [], tt))

-- Whole derivations.

one_good : (lines : List Line) → length lines ≡ 1 → IsGood single True false lines 1 → NoneWrong single True false lines
one_good lines count good zero some within = absurd (omega arith)
one_good lines count good (suc zero) some within = good
one_good lines count good (suc (suc n)) some within = absurd (omega arith)

refutation : Refutes single True false (refuting ∷ [])
refutation = record {
  none_wrong = one_good (refuting ∷ []) refl (record {
    right = record {
      line = refuting;
      stands = refl;
      spelled = spelled_refuting;
      shown = record { in_range = All-nil (λ l. IsTrue (is_in_range (sought_of single True false) l.atom)); clauses = clauses; cited = refl; refuted = hints_refute };
    };
    open_before = λ empty. cc;
  });
  last = refl;
}

derivation : Derives single True false (stating ∷ [])
derivation = record {
  none_wrong = one_good (stating ∷ []) refl (record {
    right = record {
      line = stating;
      stands = refl;
      spelled = spelled_stating;
      shown = record {
        in_range = All-from_recursion (λ l. IsTrue (is_in_range (sought_of single True false) l.atom)) (node ∷ []) (refl, tt);
        clauses = (node ∷ []) ∷ [];
        cited = refl;
        refuted = hint_refutes;
      };
    };
    open_before = λ empty. cc;
  });
  none_empty = not_empty;
} where
  not_empty : (n : ℕ) → IsEmptyAt (stating ∷ []) n → ⊥
  not_empty zero empty = cc
  not_empty (suc zero) empty = cc
  not_empty (suc (suc n)) empty = cc

empty_list : Derives single True false []
empty_list = record {
  none_wrong = λ n some within. absurd (omega arith);
  none_empty = not_empty;
} where
  not_empty : (n : ℕ) → IsEmptyAt [] n → ⊥
  not_empty zero empty = cc
  not_empty (suc n) empty = cc

-- A line that takes its literal from the line before it.

both_good : (lines : List Line) → length lines ≡ 2 → IsGood single True false lines 1 → IsGood single True false lines 2 → NoneWrong single True false lines
both_good lines count first second zero some within = absurd (omega arith)
both_good lines count first second (suc zero) some within = first
both_good lines count first second (suc (suc zero)) some within = second
both_good lines count first second (suc (suc (suc n))) some within = absurd (omega arith)

two_lines : Refutes single True false (stating ∷ concluding ∷ [])
two_lines = record {
  none_wrong = both_good (stating ∷ concluding ∷ []) refl
      (record {
        right = record {
          line = stating;
          stands = refl;
          spelled = spelled_stating;
          shown = record {
            in_range = All-from_recursion (λ l. IsTrue (is_in_range (sought_of single True false) l.atom)) (node ∷ []) (refl, tt);
            clauses = (node ∷ []) ∷ [];
            cited = refl;
            refuted = hint_refutes;
          };
        };
        open_before = λ empty. cc;
      })
      (record {
        right = record {
          line = concluding;
          stands = refl;
          spelled = spelled_concluding;
          shown = record { in_range = All-nil (λ l. IsTrue (is_in_range (sought_of single True false) l.atom)); clauses = clauses; cited = refl; refuted = hints_refute };
        };
        open_before = λ empty. cc;
      });
  last = refl;
}

-- Wrong lines.

abbrev two_clauses : List (List Literal)
two_clauses = (node ∷ []) ∷ (first ∷ []) ∷ []

unrefuted : HintsRefute negated [] two_clauses → ⊥
unrefuted refutes =
    step_gives negated (node ∷ []) (first ∷ []) [] first first_given (step_gives negated [] (node ∷ []) ((first ∷ []) ∷ []) node node_given refutes)

-- with one hint less, those that are left refute nothing
short_wrong : FirstWrong single True false (too_short ∷ []) 1
short_wrong = record { some = omega arith; within = omega arith; wrong = inl wrong; first = λ m some before. absurd (omega arith) } where
  wrong : RightLine single True false (too_short ∷ []) 1 → ⊥
  wrong right =
      let same : too_short ≡ right.line = cc (right.stands) in
      let shown = subst (IsShown (sought_of single True false) (too_short ∷ []) 1) (sym same) right.shown in
      unrefuted (subst (HintsRefute negated []) (sym (found_same two_clauses shown.clauses shown.cited)) shown.refuted)

abbrev turning : Line
turning = line.Cycle (step.High 0 ∷ step.Low 0 ∷ [])

abbrev turn : List Edge
turn = record { from = 1; to = 0; bound = pos 10 } ∷ record { from = 0; to = 1; bound = negsuc 9 } ∷ []

-- a walk whose sum is 0
turning_wrong : FirstWrong single True false (turning ∷ []) 1
turning_wrong = record { some = omega arith; within = omega arith; wrong = inl wrong; first = λ m some before. absurd (omega arith) } where
  wrong : RightLine single True false (turning ∷ []) 1 → ⊥
  wrong right =
      let same : turning ≡ right.line = cc (right.stands) in
      let shown = subst (IsShown (sought_of single True false) (turning ∷ []) 1) (sym same) right.shown in
      absurd (omega (arith, ints, rw (← found_same turn shown.edges shown.found) at shown.negative))

-- a line after an empty clause is wrong, though it is right by itself
after_empty : FirstWrong single True false (refuting ∷ stating ∷ []) 2
after_empty = record { some = omega arith; within = omega arith; wrong = inr refl; first = earlier } where
  first_good : IsGood single True false (refuting ∷ stating ∷ []) 1
  first_good = record {
    right = record {
      line = refuting;
      stands = refl;
      spelled = spelled_refuting;
      shown = record { in_range = All-nil (λ l. IsTrue (is_in_range (sought_of single True false) l.atom)); clauses = clauses; cited = refl; refuted = hints_refute };
    };
    open_before = λ empty. cc;
  }

  earlier : (m : ℕ) → 1 ≤ m → m < 2 → IsGood single True false (refuting ∷ stating ∷ []) m
  earlier zero some before = absurd (omega arith)
  earlier (suc zero) some before = first_good
  earlier (suc (suc m)) some before = absurd (omega arith)

-- a hint to line 0, to the line itself or to one that is not there has no clause
no_line_0 : clause_of_hint (sought_of single True false) (stating ∷ []) 1 (hint.Line 0) ≡ None
no_line_0 = refl

not_itself : clause_of_hint (sought_of single True false) (stating ∷ []) 1 (hint.Line 1) ≡ None
not_itself = refl

not_later : clause_of_hint (sought_of single True false) (stating ∷ []) 1 (hint.Line 4294967295) ≡ None
not_later = refl

no_rule : clause_of_hint (sought_of single True false) (stating ∷ []) 1 (rule 255 (0 ∷ 0 ∷ 0 ∷ 0 ∷ [])) ≡ None
no_rule = refl

-- a trivial instance has no clause
trivial : clause_of_hint (sought_of single True false) (stating ∷ []) 1 (rule 9 (0 ∷ 0 ∷ 0 ∷ 0 ∷ [])) ≡ None
trivial = refl

-- a node that is not there, and one that is no until and no since
no_node : is_in_range (sought_of single True false) (atom.Node 1 0) ≡ false
no_node = refl

no_reach : is_in_range (sought_of single True false) (atom.Wit 0 0 0) ≡ false
no_reach = refl
