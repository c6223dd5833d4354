use Rattle.std.proofs.Common.{◌≡◌, ◌∙◌, sym, ap, subst, ℕ, Bool, List, [], ◌++◌, map, Option, Some, None, option_map}
use Rattle.std.specs.Prelude.{OnOk}
use Rattle.std.specs.Option.{option_map_or}
use Rattle.axiom_rules.specs.declared.rule.Argument.{Argument}
use Rattle.axiom_rules.specs.declared.rule.Rule.{Rule}
use Rattle.axiom_rules.specs.Clauses.{Row, row_of}
use Rattle.axiom_rules.specs.Sought.{Sought}
use Rattle.mtl_encode.specs.Growth.{Gains, HasRoom}
use Rattle.mtl_encode.specs.Instances.{count_of, of_number, out_by, with_none}
use Rattle.mtl_encode.specs.Seconds.{AreCounts}
use Rattle.mtl_encode.proofs.clauses.Clauses.add_number.Goals as goal

-- the rules of a number whose arguments are of these kinds
number-of : (s : Sought) (out : Rule → Bool) (number : ℕ) (arguments : List Argument) (counts : List ℕ)
    → Some arguments ≡ option_map (λ row. row.arguments) (row_of number) → counts ≡ map (count_of s) arguments
    → with_none s out number counts ≡ of_number s out number
number-of s out number arguments counts is are = go (row_of number) is
  where
    go : (o : Option Row) → Some arguments ≡ option_map (λ row. row.arguments) o → with_none s out number counts ≡ option_map_or (λ row. with_none s out number (map (count_of s) row.arguments)) o []
    go None is = absurd (cc)
    go (Some row) is = let same : arguments ≡ row.arguments = cc in ap (with_none s out number) (are ∙ ap (map (count_of s)) same)

counts-of : (s : Sought) (number : ℕ) (arguments : List Argument) (counts : List ℕ) → Some arguments ≡ option_map (λ row. row.arguments) (row_of number)
    → counts ≡ map (count_of s) arguments → AreCounts s number counts
counts-of s number arguments counts is are = go (row_of number) is
  where
    go : (o : Option Row) → Some arguments ≡ option_map (λ row. row.arguments) o → Some counts ≡ option_map (λ row. map (count_of s) row.arguments) o
    go None is = absurd (cc)
    go (Some row) is = let same : arguments ≡ row.arguments = cc in ap (λ (xs : List ℕ). Some xs) (are ∙ ap (map (count_of s)) same)

pub add_instances-requires-clause-counts : goal.add_instances-requires-clause-counts
add_instances-requires-clause-counts c = counts-of c.args.source.rules.now c.args.number c.in-Some.arguments c.counts_of-counts.result (sym c.in-Some.is ∙ c.arguments_of.ensures) c.counts_of-counts.ensures

pub add_instances-requires-clause-room : goal.add_instances-requires-clause-room
add_instances-requires-clause-room c = subst (λ rules. HasRoom c.args.source.rules.now (c.args.self.now.rules ++ rules))
    (sym
    (number-of c.args.source.rules.now (out_by c.args.source.tight.now c.args.source.rules.now) c.args.number c.in-Some.arguments c.counts_of-counts.result
    (sym c.in-Some.is ∙ c.arguments_of.ensures) c.counts_of-counts.ensures))
    c.requires.room

pub returns-in-Some : goal.returns-in-Some
returns-in-Some c = subst (λ rules. OnOk c.add_instances.result (Gains c.args.source.rules.now c.args.self.now c.add_instances.new.self rules))
    (number-of c.args.source.rules.now (out_by c.args.source.tight.now c.args.source.rules.now) c.args.number c.in-Some.arguments c.counts_of-counts.result
    (sym c.in-Some.is ∙ c.arguments_of.ensures) c.counts_of-counts.ensures)
    c.add_instances.ensures
