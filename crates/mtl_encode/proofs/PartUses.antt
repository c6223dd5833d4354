-- What a rule writes is true where its clause is, and where it is trivial.
use Rattle.std.proofs.Common.{◌≡◌, refl, ℕ, Bool, true, false, not, if◌then◌else◌, List, [], ◌∷◌, Ok, Err, Some, inl, inr}
use Rattle.std.specs.List.{list_any}
use Rattle.std.proofs.lemmas.Bool.{cases_Bool, or_cases, or_left, or_right}
use Rattle.mt_model.proofs.Members.{any_some, some_any}
use Rattle.axiom_rules.specs.declared.literal.Atom.{Atom}
use Rattle.axiom_rules.specs.declared.literal.Literal.{Literal}
use Rattle.axiom_rules.specs.declared.part.Part.{Part}
use Rattle.axiom_rules.specs.declared.part.Part.TheVariants.{Says, Known}
use Rattle.axiom_rules.specs.declared.rule.Rule.{Rule}
use Rattle.axiom_rules.specs.Clauses.{Row, are_there, clause_of, row_of}
use Rattle.axiom_rules.specs.Literals.{has_literal, negated}
use Rattle.axiom_rules.specs.Parts.{Written, clause_of_parts, each_once, is_true, literals_in, opposes_itself}
use Rattle.axiom_rules.specs.Sought.{Sought}
use Rattle.axiom_rules.proofs.AddingLemmas.{once-among, stands}
use Rattle.axiom_rules.proofs.PartLemmas.{part_holds, valued}
use Rattle.mtl_encode.specs.Exact.{SatisfiesKept}

module _ (v : Atom → Bool) where
  once-true : (ls : List Literal) → list_any (valued v) (each_once ls) ≡ true → list_any (valued v) ls ≡ true
  once-true ls h = let (l, in_, is) = any_some (valued v) (each_once ls) h in some_any (valued v) ls l (once-among ls l in_) is

  literal-true : (parts : List Part) → list_any (valued v) (literals_in parts) ≡ true → list_any (part_holds v) parts ≡ true
  literal-true [] h = absurd (cc)
  literal-true (Says l ∷ parts) h = elim (or_cases (valued v l) (list_any (valued v) (literals_in parts)) h) [
    | inl here ↦ or_left (valued v l) _ here
    | inr there ↦ or_right (valued v l) _ (literal-true parts there)
  ]
  literal-true (Known b ∷ parts) h = or_right b _ (literal-true parts h)

  known-true : (parts : List Part) → list_any is_true parts ≡ true → list_any (part_holds v) parts ≡ true
  known-true [] h = absurd (cc)
  known-true (Says l ∷ parts) h = or_right (valued v l) _ (known-true parts h)
  known-true (Known true ∷ parts) h = refl
  known-true (Known false ∷ parts) h = known-true parts h

  other-sense : (sense value : Bool) → (if sense then value else not value) ≡ false → (if not sense then value else not value) ≡ true
  other-sense true true h = absurd (cc)
  other-sense true false h = refl
  other-sense false true h = refl
  other-sense false false h = absurd (cc)

  -- a literal or its negation is true
  one-sense : (ls : List Literal) → opposes_itself ls ≡ true → list_any (valued v) ls ≡ true
  one-sense ls h =
      let (l, in_, is) = any_some (λ l. has_literal ls (negated l)) ls h in
      elim (cases_Bool (valued v l)) [
        | inl here ↦ some_any (valued v) ls l in_ here
        | inr fails ↦ some_any (valued v) ls (negated l) (stands ls (negated l) is) (other-sense l.positive (v l.atom) fails)
      ]

  parts-true : (parts : List Part) → ((c : List Literal) → clause_of_parts parts ≡ Ok c → list_any (valued v) c ≡ true) → list_any (part_holds v) parts ≡ true
  parts-true parts h = go (list_any is_true parts) refl (opposes_itself (literals_in parts)) refl
    where
      go : (known : Bool) → list_any is_true parts ≡ known → (opposes : Bool) → opposes_itself (literals_in parts) ≡ opposes → list_any (part_holds v) parts ≡ true
      go true known opposes either = known-true parts known
      go false known true either = literal-true parts (one-sense (literals_in parts) either)
      go false known false either = literal-true parts (once-true (literals_in parts) (h (each_once (literals_in parts)) (rw (known, either) refl)))

  -- a part of what is written is true
  abbrev pub WrittenIsTrue : Written → Type 0
  WrittenIsTrue (Ok parts) = list_any (part_holds v) parts ≡ true
  WrittenIsTrue (Err fault) = Unit {0}

  -- what the rule of a number writes is true, for arguments that are there, where it isn't left out
  pub written-true : (s : Sought) (out : Rule → Bool) → SatisfiesKept s out v → (number : ℕ) (args : List ℕ) (row : Row) → row_of number ≡ Some row → are_there s row.arguments args ≡ true
      → out (record { number = number; args = args }) ≡ false → WrittenIsTrue (row.writes s args)
  written-true s out satisfied number args row is there kept = go (row.writes s args) refl
    where
      go : (w : Written) → row.writes s args ≡ w → WrittenIsTrue w
      go (Err fault) written = tt
      go (Ok parts) written = parts-true parts (λ c clause.
          let whole : clause_of s (record { number = number; args = args }) ≡ Ok c = rw (is, there, written) clause in
          satisfied (record { number = number; args = args }) c whole kept)
