-- What a clause that is taken means for the refutation by it and later ones.
use Rattle.std.proofs.Common.{◌≡◌, List, [], ◌∷◌, ◌↔◌}
use Rattle.std.specs.Prelude.{All, Contains}
use Rattle.hint_refutation.specs.Hints.{Refutes}
use Rattle.hint_refutation.specs.Laws.{AssumedIsSet, RefutersGive, StepsAreForced}
use Rattle.axiom_rules.specs.declared.literal.Literal.{Literal}
use Rattle.axiom_rules.specs.Literals.{negated}
use Rattle.proof_check.specs.declared.refutation.Taken.TheVariants as taken
use Rattle.proof_check.specs.Refutation.{IsTaken}

-- no hints don't refute
pub none_refute : (assumed : List Literal) → Refutes negated assumed [] → ⊥
none_refute assumed refutes = refutes

module _ (giving : RefutersGive Literal) (set : AssumedIsSet Literal) (forced : StepsAreForced Literal) where
  same_to : (a b : List Literal) (hints : List (List Literal)) → All (Contains b) a → All (Contains a) b → Refutes negated a hints → Refutes negated b hints
  same_to a b hints to back refutes =
      let (given, refutes_giving) = (giving negated a hints).0 refutes in
      (giving negated b hints).1 (given, set negated a b hints given to back refutes_giving)

  -- of what is assumed only the set counts
  pub same_set : (a b : List Literal) (hints : List (List Literal)) → All (Contains b) a → All (Contains a) b → Refutes negated a hints ↔ Refutes negated b hints
  same_set a b hints to back = (same_to a b hints to back, same_to b a hints back to)

  -- a clause that gives a literal refutes with later ones exactly where these do under what is assumed then
  pub taken_gives : (old clause new : List Literal) (later : List (List Literal)) → IsTaken old clause new taken.Gives → Refutes negated old (clause ∷ later) ↔ Refutes negated new later
  taken_gives old clause new later is =
      let first = forced.gives negated old clause later is.literal is.gives in
      let same = same_set (is.literal ∷ old) new later is.assumed.has is.assumed.only in
      (λ refutes. same.0 (first.0 refutes), λ refutes. first.1 (same.1 refutes))

  -- a false one refutes exactly as the last
  pub taken_false : (old clause new : List Literal) (later : List (List Literal)) → IsTaken old clause new taken.False → Refutes negated old (clause ∷ later) ↔ (later ≡ [])
  taken_false old clause new later is = forced.last negated old clause later is.falsified

  -- and any other refutes nothing
  pub taken_stuck : (old clause new : List Literal) (later : List (List Literal)) → IsTaken old clause new taken.Stuck → Refutes negated old (clause ∷ later) → ⊥
  taken_stuck old clause new later is refutes = forced.stuck negated old clause later is.neither.not_false is.neither.gives_none refutes
