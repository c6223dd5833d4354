-- Instances that are held once each.
use Rattle.std.proofs.Common.{◌≡◌, ◌∙◌, sym, ap, refl, ℕ, zero, suc, ◌^◌, ◌<◌, ◌≤◌, Bool, true, false, not, ◌||◌, List, [], ◌∷◌, ◌++◌, length, map, true≢false, if◌then◌else◌, arith}
use Rattle.std.specs.Prelude.{◌≢◌, get_or}
use Rattle.std.specs.List.{list_any}
use Rattle.std.proofs.lemmas.Bool.{eq-eqb}
use Rattle.std.proofs.lemmas.Cmp.{nat_list_eq_equiv}
use Rattle.std.proofs.lemmas.List.{length_push}
use Rattle.std.proofs.lemmas.List.Quantifiers.{all_pairs_push}
use Rattle.indexmap.specs.IndexSet.{insert_key}
use Rattle.axiom_rules.specs.declared.rule.Rule.{Rule}
use Rattle.axiom_rules.specs.Sought.{Sought}
use Rattle.mtl_encode.specs.contracts.held.InstancePartialEq.TheImpl.{eq-value as instance_eq}
use Rattle.mtl_encode.specs.declared.held.Held.{Held}
use Rattle.mtl_encode.specs.declared.held.Instance.{Instance}
use Rattle.mtl_encode.specs.Asked.{IsHeld, instance_of}
use Rattle.mtl_encode.specs.Growth.{Gains}

or-both : (a b : Bool) → (a || b) ≡ false → (a ≡ false) × (b ≡ false)
or-both true b is = absurd (cc)
or-both false b is = (refl, is)

-- an instance is found where its rule is
self-equal : (i : Instance) → instance_eq.it i i ≡ true
self-equal i = rw (eq-eqb i.number i.number refl, nat_list_eq_equiv.refl i.args) refl

-- a rule whose instance isn't found isn't there
absent : (rules : List Rule) (rule d : Rule) (k : ℕ) → k < length rules → list_any (instance_eq.it (instance_of rule)) (map instance_of rules) ≡ false → get_or rules k d ≢ rule
absent [] rule d k low none = absurd (omega (arith, low))
absent (q ∷ rules) rule d zero low none =
    let apart = (or-both (instance_eq.it (instance_of rule) (instance_of q)) _ none).0 in
    λ same. true≢false (sym (self-equal (instance_of rule)) ∙ (rw same at apart))
absent (q ∷ rules) rule d (suc k) low none =
    absent rules rule d k (omega (arith, low)) (or-both (instance_eq.it (instance_of rule) (instance_of q)) _ none).1

keys-new : (keys : List Instance) (i : Instance) → list_any (instance_eq.it i) keys ≡ false → insert_key instance_eq.it keys i ≡ keys ++ i ∷ []
keys-new keys i none = ap (λ b. if b then keys else keys ++ i ∷ []) none

map-push : (rules : List Rule) (rule : Rule) → map instance_of (rules ++ rule ∷ []) ≡ map instance_of rules ++ instance_of rule ∷ []
map-push [] rule = refl
map-push (q ∷ rules) rule = ap (λ keys. instance_of q ∷ keys) (map-push rules rule)

-- what isn't so of a negation that is true
pub not-true : (b : Bool) → not b ≡ true → b ≡ false
not-true true is = absurd (cc)
not-true false is = refl

-- with a rule more whose instance wasn't found
pub held-more : (s : Sought) (old new : Held) (rule : Rule) → IsHeld s old → Gains s old.clauses new.clauses (rule ∷ [])
    → list_any (instance_eq.it (instance_of rule)) old.instances.keys ≡ false → new.instances.keys ≡ insert_key instance_eq.it old.instances.keys (instance_of rule)
    → length old.clauses.rules < 2 ^ 29 → length new.clauses.atoms ≤ 2 ^ 29 → IsHeld s new
held-more s old new rule held gained none keys few atoms =
    let rules = gained.rules in
    let was : list_any (instance_eq.it (instance_of rule)) (map instance_of old.clauses.rules) ≡ false = rw held.instances at none in
    record {
      are = record {
        clauses = gained.clauses;
        once = rw rules (all_pairs_push (λ q r. q ≢ r) old.clauses.rules rule held.are.once (λ k d low. absent old.clauses.rules rule d k low was));
        few_rules = rw rules (omega (arith, few, length_push old.clauses.rules rule));
        few_atoms = atoms;
      };
      instances = rw rules (keys ∙ keys-new old.instances.keys (instance_of rule) none ∙ ap (λ ks. ks ++ instance_of rule ∷ []) held.instances ∙ sym (map-push old.clauses.rules rule));
    }
