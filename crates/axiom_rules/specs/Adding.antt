-- Clauses that grow a part at a time.
use Rattle.std.specs.Prelude.{◌≡◌, ◌⊎◌, if◌then◌else◌, List, [], ◌∷◌, ◌++◌, Result, Ok, Err, MatchResult}
use Rattle.axiom_rules.specs.declared.fault.RuleFault.{RuleFault}
use Rattle.axiom_rules.specs.declared.fault.RuleFault.TheVariants.{Memory, Trivial}
use Rattle.axiom_rules.specs.declared.literal.Literal.{Literal}
use Rattle.axiom_rules.specs.declared.part.Part.{Part}
use Rattle.axiom_rules.specs.declared.part.Part.TheVariants.{Says, Known}
use Rattle.axiom_rules.specs.Literals.{has_literal, negated}
use Rattle.axiom_rules.specs.Parts.{Written, clause_of_written}

-- a clause with one literal more
abbrev pub with_literal : List Literal → Literal → Result (List Literal) RuleFault
with_literal c l = if has_literal c (negated l) then Err Trivial else if has_literal c l then Ok c else Ok (c ++ l ∷ [])

-- a clause with one part more
abbrev pub with_part : List Literal → Part → Result (List Literal) RuleFault
with_part c (Known b) = if b then Err Trivial else Ok c
with_part c (Says l) = with_literal c l

-- a clause, where there is one, taken further
abbrev pub then_with : (List Literal → Result (List Literal) RuleFault) → Result (List Literal) RuleFault → Result (List Literal) RuleFault
then_with more (Ok c) = more c
then_with more (Err fault) = Err fault

-- a clause with more parts
abbrev pub with_parts : List Literal → List Part → Result (List Literal) RuleFault
with_parts c [] = Ok c
with_parts c (p ∷ parts) = then_with (λ d. with_parts d parts) (with_part c p)

-- a call answers with the clause that there is, or with its fault; it may lack memory
abbrev pub Answers : {T : Type 0} → Result (List Literal) RuleFault → Result T RuleFault → List Literal → Type 0
Answers clause result out = MatchResult result (λ _. clause ≡ Ok out) (λ fault. (fault ≡ Memory) ⊎ (clause ≡ Err fault))

-- the same for what a rule writes
abbrev pub Gives : {T : Type 0} → Written → Result T RuleFault → List Literal → Type 0
Gives written result out = Answers (clause_of_written written) result out
