-- Literals of a trail.
use Rattle.std.proofs.Common.{◌≡◌, ◌∙◌, ap, sym, refl, ℕ, ◌<◌, List, length, get_or, Some, Bool, true, false, not}
use mathlib.Core.Bool.{beq}
use Rattle.std.specs.List.{Contains}
use Rattle.std.proofs.lemmas.List.{length-map, get_or-map, get_or_read}
use Rattle.clause_db.specs.declared.lit.Lit.{Lit}
use Rattle.clause_db.specs.Literals.{negation}
use Rattle.propagate.specs.declared.entry.Entry.{Entry}
use Rattle.propagate.specs.Trails.{no_entry, entry_at, literals, IsUnassigned, HasEntry}
use Rattle.propagate.specs.Clauses.{IsTruth}
use Rattle.clause_db.proofs.LawLemmas.{lit_same}

-- the literal at a place is one of the literals, and each of them is at a place
pub literal_held : (xs : List Entry) (k : ℕ) (l : Lit) → k < length xs → (entry_at xs k).lit ≡ l → Contains (literals xs) l
literal_held xs k l within is = (k, rw (length-map xs (λ (e : Entry). e.lit)) within, rw (get_or-map (λ (e : Entry). e.lit) xs k no_entry l within) is)

pub literal_at : (xs : List Entry) (l : Lit) (h : Contains (literals xs) l) → (h.0 < length xs) × ((entry_at xs h.0).lit ≡ l)
literal_at xs l h =
    let within : h.0 < length xs = rw (length-map xs (λ (e : Entry). e.lit)) at h.1 in
    (within, rw (get_or-map (λ (e : Entry). e.lit) xs h.0 no_entry l within) at h.2)

-- no literal of an unassigned variable is on the trail
pub unassigned_not_held : (xs : List Entry) (l k : Lit) → IsUnassigned xs l.var → k.var ≡ l.var → Contains (literals xs) k → ⊥
unassigned_not_held xs l k free same h = let at = literal_at xs k h in free h.0 no_entry at.0 (ap (λ (x : Lit). x.var) at.1 ∙ same)

senses_differ : (a b : Bool) → (a ≡ b → ⊥) → a ≡ not b
senses_differ true true other = absurd (other refl)
senses_differ true false other = refl
senses_differ false true other = refl
senses_differ false false other = absurd (other refl)

pub read_entry : (xs : List Entry) (k : ℕ) (e : Entry) → k < length xs → get_or xs k e ≡ e → entry_at xs k ≡ e
read_entry xs k e within is = sym (get_or_read xs k e within (sym is) no_entry)

-- what a variable's value says of a literal
pub truth_same : (xs : List Entry) (l : Lit) (b : Bool) → HasEntry xs l.var (λ e. e.lit.positive ≡ b) → b ≡ l.positive → Contains (literals xs) l
truth_same xs l b (k, e, within, at, (var, sense)) same =
    let here : (entry_at xs k).lit ≡ l = rw (read_entry xs k e within at) (lit_same e.lit l var (sense ∙ same)) in
    literal_held xs k l within here

pub truth_other : (xs : List Entry) (l : Lit) (b : Bool) → HasEntry xs l.var (λ e. e.lit.positive ≡ b) → (b ≡ l.positive → ⊥) → Contains (literals xs) (negation l)
truth_other xs l b (k, e, within, at, (var, sense)) other =
    let here : (entry_at xs k).lit ≡ negation l = rw (read_entry xs k e within at) (lit_same e.lit (negation l) var (sense ∙ senses_differ b l.positive other)) in
    literal_held xs k (negation l) within here

pub truth_is : (xs : List Entry) (l : Lit) (b p : Bool) → HasEntry xs l.var (λ e. e.lit.positive ≡ b) → p ≡ l.positive → IsTruth xs l (Some (beq b p))
truth_is xs l true true found sense = truth_same xs l true found sense
truth_is xs l true false found sense = truth_other xs l true found (λ same. absurd cc)
truth_is xs l false true found sense = truth_other xs l false found (λ same. absurd cc)
truth_is xs l false false found sense = truth_same xs l false found sense
