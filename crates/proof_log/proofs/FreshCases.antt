-- Which of some short lines are fresh, and which are used. They are about the log and the formula of the other worked cases.
use Rattle.std.proofs.Common.{◌≡◌, ap, refl, sym, subst, inl, inr, List, [], ◌∷◌, false, Some, arith, pos, negsuc}
use Rattle.std.specs.Prelude.{Contains}
use Rattle.std.proofs.lemmas.List.Elements.{All-nil, All-cons, All-contains, All-contains_itself}
use Rattle.mt_model.specs.declared.step.Step.TheVariants as step
use Rattle.mt_model.specs.Form.{True}
use Rattle.hint_refutation.specs.Hints.{LeavesOnly, StandsIn}
use Rattle.hint_refutation.proofs.Lists.{any_found, contains_cases, contains_first, contains_later, contains_none}
use Rattle.hint_refutation.proofs.Propagated.{closed_keeps}
use Rattle.axiom_rules.specs.declared.literal.Atom.TheVariants as atom
use Rattle.axiom_rules.specs.declared.literal.Literal.{Literal}
use Rattle.axiom_rules.specs.Literals.{negated, no, order_literal}
use Rattle.axiom_rules.specs.Sought.{sought_of}
use Rattle.proof_log.specs.declared.line.Hint.{Hint}
use Rattle.proof_log.specs.declared.line.Hint.TheVariants as hint
use Rattle.proof_log.specs.declared.line.Line.{Line}
use Rattle.proof_log.specs.declared.line.Line.TheVariants as line
use Rattle.proof_log.specs.Derivations.{HasClauses}
use Rattle.proof_log.specs.Freshness.{Fresh, IsLearnAt, IsNew, Used, known_before, learn_lines}
use Rattle.proof_log.proofs.LearnLines.{learn_same}
use Rattle.proof_log.proofs.WorkedCases.{alone, first, is_true, node, not_among, single, stating}
use Rattle.mt_list.proofs.Lists.{found_same}

-- a walk, and a line that learns what it says
abbrev walk : Line
walk = line.Cycle (step.Order 0 1 (pos 7) ∷ step.Order 1 0 (negsuc 8) ∷ [])

abbrev walked : List Literal
walked = order_literal 1 0 (negsuc 7) ∷ order_literal 0 1 (pos 8) ∷ []

abbrev from_walk : List Line
from_walk = walk ∷ line.Learn walked (hint.Line 1 ∷ []) ∷ []

two_lines_one_learnt : learn_lines from_walk ≡ 1
two_lines_one_learnt = refl

-- a line that says what the rule of its hint says isn't fresh, whether or not the problem has the rule
abbrev stated : IsLearnAt (stating ∷ []) 1
stated = record { lits = node ∷ []; hints = is_true ∷ []; stands = refl }

stated_known : known_before (sought_of single True false) [] (stating ∷ []) 1 ≡ (node ∷ []) ∷ []
stated_known = refl

rule_not_fresh : Fresh single True false [] (stating ∷ []) 1 → ⊥
rule_not_fresh fresh =
    let known = known_before (sought_of single True false) [] (stating ∷ []) 1 in
    let missed = subst (IsNew known) (learn_same (stating ∷ []) 1 fresh.learn stated) fresh.is_new in
    let leaves : LeavesOnly negated [] (node ∷ []) node = record { has = contains_first node []; others_false = alone node } in
    missed.lacks (closed_keeps negated known missed.set [] (node ∷ []) node missed.closed (All-nil (Contains missed.set)) (contains_first (node ∷ []) []) leaves)

other_bound : no (atom.Order 0 1 (pos 8)) ≡ no (atom.Order 0 1 (pos 7)) → ⊥
other_bound same = let atoms : atom.Order 0 1 (pos 8) ≡ atom.Order 0 1 (pos 7) = ap (λ (l : Literal). l.atom) same in absurd (cc)

-- what a walk says is fresh: the clauses of Cycle lines aren't propagated
walk_known : known_before (sought_of single True false) [] from_walk 2 ≡ []
walk_known = refl

walk_fresh : Fresh single True false [] from_walk 2
walk_fresh =
    let own : List Literal = negated (order_literal 0 1 (pos 8)) ∷ [] in
    record {
      learn = record { lits = walked; hints = hint.Line 1 ∷ []; stands = refl };
      is_new = record {
        set = own;
        closed = record { none_false = All-nil _; keeps = All-nil _ };
        has = All-contains_itself own;
        lacks = not_among (negated (order_literal 0 1 (pos 8))) (order_literal 1 0 (negsuc 7)) other_bound;
      };
    }

-- the rule's line is used, since its one hint is false where its literal is
rule_used : Used single True false (stating ∷ []) 1
rule_used = record {
  learn = stated;
  clauses = (node ∷ []) ∷ [];
  cited = refl;
  resolvent = record {
    stand = All-cons (StandsIn ((node ∷ []) ∷ [])) node [] (0, node ∷ [], omega arith, refl, contains_first node []) (All-nil (StandsIn ((node ∷ []) ∷ [])));
    given = [];
    refutes = (refl, All-cons (λ l. Contains (negated node ∷ []) (negated l)) node [] (contains_first (negated node) []) (All-nil (λ l. Contains (negated node ∷ []) (negated l))));
    spent = tt;
  };
}

node_not_first : node ≡ first → ⊥
node_not_first same = let atoms : atom.Node 0 0 ≡ atom.First 0 = ap (λ (l : Literal). l.atom) same in absurd (cc)

-- a literal that stands in no hint makes a line weaker, and it isn't used
abbrev weaker : Line
weaker = line.Learn (node ∷ first ∷ []) (is_true ∷ [])

weaker_not_used : Used single True false (weaker ∷ []) 1 → ⊥
weaker_not_used used =
    let own : IsLearnAt (weaker ∷ []) 1 = record { lits = node ∷ first ∷ []; hints = is_true ∷ []; stands = refl } in
    let lits = learn_same (weaker ∷ []) 1 used.learn own in
    let line_is : Some weaker ≡ Some (line.Learn used.learn.lits used.learn.hints) = used.learn.stands in
    let hints : used.learn.hints ≡ is_true ∷ [] = cc in
    let cited = subst (λ (hs : List Hint). HasClauses (sought_of single True false) (weaker ∷ []) 1 hs used.clauses) hints used.cited in
    let clauses : used.clauses ≡ (node ∷ []) ∷ [] = found_same used.clauses ((node ∷ []) ∷ []) (sym cited) in
    let stands =
    All-contains (StandsIn used.clauses) used.learn.lits first used.resolvent.stand
    (subst (λ (ls : List Literal). Contains ls first) (sym lits) (contains_later node first (first ∷ []) (contains_first first []))) in
    let (clause, has, there) = any_found (λ (c : List Literal). Contains c first) ((node ∷ []) ∷ []) (subst (λ (cs : List (List Literal)). StandsIn cs first) clauses stands) in
    elim (contains_cases (node ∷ []) clause [] has) [
      | inl is ↦ not_among node first node_not_first (subst (λ (c : List Literal). Contains c first) (sym is) there)
      | inr none ↦ contains_none clause none
    ]
