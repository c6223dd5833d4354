use Rattle.std.proofs.Common.{rules, ◌≡◌, ◌<◌, length, Bool}
use Rattle.std.specs.Prelude.{All, IsTrue}
use Rattle.std.proofs.lemmas.List.Elements.{All-take}
use Rattle.axiom_rules.specs.declared.rule.Rule.{Rule}
use Rattle.axiom_rules.specs.Clauses.{argument_count}
use Rattle.proof_log.specs.Spelled.{IsNumber, IsSpelledRule, unused_arguments}
use Rattle.proof_log.proofs.spelling.is_spelled_rule.Goals as goal

both : (r : Rule) (b : Bool) → r.number < 256 → length r.args ≡ 4 → All IsNumber r.args
    → (IsTrue b → All (λ n. n ≡ 0) (unused_arguments r)) × (All (λ n. n ≡ 0) (unused_arguments r) → IsTrue b)
    → (IsTrue b → IsSpelledRule r) × (IsSpelledRule r → IsTrue b)
both r b number four range (one, other) = (λ yes. record { number = number; four = four; used = All-take IsNumber (argument_count r.number) r.args range; unused = one yes }, λ is. other is.unused)

pub returns : goal.returns
returns c = both c.args.rule.now c.are_zero_from.result (search rules) (search rules) c.are_zero_from.ensures.range (rw c.argument_count-used.ensures.count at c.are_zero_from.ensures.zero)
