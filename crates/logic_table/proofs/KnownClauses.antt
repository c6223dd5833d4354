-- The clauses that are known before a line, part by part.
use Rattle.std.proofs.Common.{◌≡◌, ℕ, ◌-◌, List, ◌++◌, take}
use Rattle.std.specs.Result.{result_ok}
use Rattle.std.proofs.lemmas.List.Elements.{filter_map-append}
use Rattle.axiom_rules.specs.declared.literal.Literal.{Literal}
use Rattle.axiom_rules.specs.declared.rule.Rule.{Rule}
use Rattle.axiom_rules.specs.Clauses.{clause_of}
use Rattle.axiom_rules.specs.Sought.{Sought}
use Rattle.proof_log.specs.declared.line.Line.{Line}
use Rattle.proof_log.specs.Freshness.{clauses_of, known_before, learnt, named_rules}

-- the clauses of the rules, then of those that are named, then the learnt ones
pub known_parts : (s : Sought) (rules : List Rule) (lines : List Line) (n : ℕ) (named : List Rule) (of_rules with_named all : List (List Literal)) → named ≡ named_rules (take n lines)
    → of_rules ≡ clauses_of s rules → with_named ≡ of_rules ++ clauses_of s named → all ≡ with_named ++ learnt (take (n - 1) lines) → all ≡ known_before s rules lines n
known_parts s rules lines n named of_rules with_named all is_named by_rules by_named by_learnt =
    let split = filter_map-append (λ (r : Rule). result_ok (clause_of s r)) rules (named_rules (take n lines)) in
    cc
