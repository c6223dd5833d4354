use Rattle.std.proofs.Common.{◌≡◌, ◌∙◌, sym, List, length, Bool, Result, Ok, Err, IfOk}
use Rattle.std.specs.Prelude.{◌↔◌, All, AllPairs, IsTrue}
use Rattle.axiom_rules.specs.declared.literal.Literal.{Literal}
use Rattle.proof_log.specs.declared.line.Hint.{Hint}
use Rattle.proof_log.specs.Spelled.{IsNumber, IsSpelledHint, IsSpelledLearn, IsSpelledLiteral}
use Rattle.proof_log.proofs.spelling.is_spelled_learn.Goals as goal

-- where all else is right, that no atom stands twice decides
decided : {E : Type 0} (r : Result Bool E) (lits : List Literal) (hints : List Hint) → IsNumber (length lits) → IsNumber (length hints) → All IsSpelledLiteral lits → All IsSpelledHint hints
    → IfOk r (λ b. IsTrue b ↔ AllPairs (λ l m. m.atom ≡ l.atom → ⊥) lits) → IfOk r (λ b. IsTrue b ↔ IsSpelledLearn lits hints)
decided (Ok b) lits hints few_lits few_hints each_lit each_hint once =
    (λ is. record { lit_count = few_lits; hint_count = few_hints; each_lit = each_lit; each_hint = each_hint; once = once.0 is }, λ spelled. once.1 spelled.once)
decided (Err e) lits hints few_lits few_hints each_lit each_hint once = tt

pub returns-then-are_spelled_hints : goal.returns-then-are_spelled_hints
returns-then-are_spelled_hints c =
    let numbers : IsNumber (length c.args.lits.now) × IsNumber (length c.args.hints.now) = elim c.if-is_number.branch [
      | goal.then-is_number w ↦ (c.is_number.ensures.0 w.if-is_number.true, w.is_number-are_numbers.ensures.0 (sym w.are_numbers-is ∙ c.if-are_numbers.true))
      | goal.else-is_number w ↦ absurd (cc (sym w.are_numbers-is ∙ c.if-are_numbers.true))
    ] in
    decided c.has_atoms_once.result c.args.lits.now c.args.hints.now numbers.0 numbers.1 (c.are_spelled_literals.ensures.0 c.if-are_spelled_literals.true)
    (c.are_spelled_hints.ensures.0 c.if-are_spelled_hints.true) c.has_atoms_once.ensures.once

pub returns-else-are_numbers : goal.returns-else-are_numbers
returns-else-are_numbers c = (
  λ no. absurd (cc),
  λ spelled. elim c.else-are_numbers.branch [
    | goal.else-are_numbers-via-then-are_numbers+then-are_spelled_literals+else-are_spelled_hints w ↦ sym w.if-are_spelled_hints.false ∙ w.are_spelled_hints.ensures.1 spelled.each_hint
    | goal.else-are_numbers-via-then-are_numbers+else-are_spelled_literals w ↦ sym w.if-are_spelled_literals.false ∙ w.are_spelled_literals.ensures.1 spelled.each_lit
    | goal.else-are_numbers-via-else-are_numbers w ↦ elim c.if-is_number.branch [
      | goal.then-is_number v ↦ sym w.if-are_numbers.false ∙ v.are_numbers-is ∙ v.is_number-are_numbers.ensures.1 spelled.hint_count
      | goal.else-is_number v ↦ sym v.if-is_number.false ∙ c.is_number.ensures.1 spelled.lit_count
    ]
  ],
)
