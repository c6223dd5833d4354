-- The literals with an edge that a search has noted, while its trail grows and goes back.
use Rattle.std.proofs.Common.{◌≡◌, ◌∙◌, sym, ap, refl, inl, inr, ℕ, ◌+◌, ◌-◌, ◌<◌, ◌≤◌, List, [], ◌∷◌, ◌++◌, length, take, drop, Option, None, arith}
use Rattle.std.specs.Prelude.{is_some}
use Rattle.std.proofs.lemmas.Bool.{cases_lt}
use Rattle.std.proofs.lemmas.List.{length-append, length-take, length_push, map-append, take-append-drop, take-take, take_all, take_at, take_min}
use Rattle.std.proofs.lemmas.List.Elements.{filter-append}
use Rattle.neg_cycle.specs.declared.system.Edge.{Edge}
use Rattle.clause_db.specs.declared.lit.Lit.{Lit}
use Rattle.propagate.specs.declared.entry.Entry.{Entry}
use Rattle.propagate.specs.Links.{edges_at, edges_of}
use Rattle.propagate.specs.Trails.{Assigned, IsTrail, decided, literals, up_to}
use Rattle.propagate.proofs.TrailLemmas.{up_to_start, up_to_top}
use Rattle.cdcl_core.specs.declared.linked.LinkedLits.{LinkedLits}
use Rattle.cdcl_core.specs.Orders.{linked}
use Rattle.cdcl_core.specs.Searching.{AreLinkedUpTo}
use Rattle.cdcl_core.proofs.Cycles.{order_count}

-- a decision leaves the trail before it
pub decided_kept : (t : Assigned) (lit : Lit) (mark : ℕ) → take (length t.entries) (decided t lit mark).entries ≡ t.entries
decided_kept t lit mark = take_at t.entries (record { lit = lit; level = length t.levels + 1; reason = None } ∷ []) (length t.entries) refl

pub decided_longer : (t : Assigned) (lit : Lit) (mark : ℕ) → length t.entries ≤ length (decided t lit mark).entries
decided_longer t lit mark = omega (arith, length_push t.entries (record { lit = lit; level = length t.levels + 1; reason = None }))

-- what goes back to a level is a front of the trail
pub up_to_front : (t : Assigned) (m : ℕ) → IsTrail t → up_to m t.entries ≡ take (length (up_to m t.entries)) t.entries
up_to_front t m trail = elim (cases_lt m (length t.levels)) [
  | inl below ↦ let start = up_to_start t.entries t.levels m below trail.levels in start ∙ front _ ∙ ap (λ (xs : List Entry). take (length xs) t.entries) (sym start)
  | inr top ↦
      let all = up_to_top t.entries t.levels m trail.levels top in
      all ∙ sym (take_all (length t.entries) t.entries (omega arith)) ∙ ap (λ (xs : List Entry). take (length xs) t.entries) (sym all)
] where
  front : (n : ℕ) → take n t.entries ≡ take (length (take n t.entries)) t.entries
  front n = sym (ap (λ (k : ℕ). take k t.entries) (length-take n t.entries) ∙ take_min n t.entries)

-- those of the whole trail
pub linked_all : (links : List (Option (Edge × Edge))) (xs : List Entry) (o : LinkedLits) → o.seen ≡ length xs → o.lits.items ≡ linked links (literals xs) → AreLinkedUpTo links xs o
linked_all links xs o seen lits = record {
  within = omega (arith, seen);
  lits = lits ∙ ap (λ (zs : List Entry). linked links (literals zs)) (sym (ap (λ (n : ℕ). take n xs) seen ∙ take_all (length xs) xs (omega arith)));
}

module _ (links : List (Option (Edge × Edge))) (xs : List Entry) (o : LinkedLits) (are : AreLinkedUpTo links xs o) where
  -- a longer trail has them too
  pub linked_grown : (ys : List Entry) → take (length xs) ys ≡ xs → length xs ≤ length ys → AreLinkedUpTo links ys o
  linked_grown ys kept longer =
      let within = are.within in
      let same : take o.seen ys ≡ take o.seen xs = sym (take-take o.seen (length xs) ys within) ∙ ap (take o.seen) kept in
      record { within = omega (arith, within, longer); lits = are.lits ∙ ap (λ (zs : List Entry). linked links (literals zs)) (sym same) }

  -- what has an edge of a front comes first
  linked_front : (n : ℕ) → n ≤ o.seen → take (length (linked links (literals (take n xs)))) o.lits.items ≡ linked links (literals (take n xs))
  linked_front n low =
      let first = take n xs in
      let rest = drop n (take o.seen xs) in
      let split : take o.seen xs ≡ first ++ rest = sym (take-append-drop n (take o.seen xs)) ∙ ap (λ (zs : List Entry). zs ++ rest) (take-take n o.seen xs low) in
      let whole : o.lits.items ≡ linked links (literals first) ++ linked links (literals rest) =
      are.lits ∙ ap (λ (zs : List Entry). linked links (literals zs)) split ∙ ap (linked links) (map-append (λ (e : Entry). e.lit) first rest)
      ∙ filter-append (λ (l : Lit). is_some (edges_at links l.var)) (literals first) (literals rest) in
      ap (take (length (linked links (literals first)))) whole ∙ take_at (linked links (literals first)) (linked links (literals rest)) (length (linked links (literals first))) refl

  -- and a trail that went back has what is left of them
  pub linked_cut : (ys : List Entry) (held : ℕ) (k : LinkedLits) → ys ≡ take (length ys) xs → held ≡ length (linked links (literals ys))
      → (length ys < o.seen → (k.seen ≡ length ys) × (k.lits.items ≡ take held o.lits.items)) → (o.seen ≤ length ys → (k.seen ≡ o.seen) × (k.lits.items ≡ o.lits.items)) → AreLinkedUpTo links ys k
  linked_cut ys held k is count shorter same = elim (cases_lt (length ys) o.seen) [
    | inl less ↦
        let cut = shorter less in
        let front = linked_front (length ys) (omega (arith, less)) in
        let here : take held o.lits.items ≡ linked links (literals ys) =
        ap (λ (n : ℕ). take n o.lits.items) (count ∙ ap (λ (zs : List Entry). length (linked links (literals zs))) is) ∙ front ∙ ap (λ (zs : List Entry). linked links (literals zs)) (sym is) in
        record {
          within = let size = cut.0 in omega (arith, size);
          lits = cut.1 ∙ here ∙ ap (λ (zs : List Entry). linked links (literals zs)) (sym (ap (λ (n : ℕ). take n ys) cut.0 ∙ take_all (length ys) ys (omega arith)));
        }
    | inr most ↦
        let still = same most in
        let old : take k.seen ys ≡ take o.seen xs = ap (λ (n : ℕ). take n ys) still.0 ∙ ap (take o.seen) is ∙ take-take o.seen (length ys) xs most in
        record { within = let size = still.0 in omega (arith, size, most); lits = still.1 ∙ are.lits ∙ ap (λ (zs : List Entry). linked links (literals zs)) (sym old) }
  ]

-- as many literals have an edge as edges are held after those of the base
pub held_count : (links : List (Option (Edge × Edge))) (base edges : List Edge) (lits : List Lit) (held many : ℕ) → edges ≡ base ++ edges_of links lits
    → length base ≡ many → held ≡ length edges - many → held ≡ length (linked links lits)
held_count links base edges lits held many is count held_is =
    let all : length edges ≡ length (base ++ edges_of links lits) = ap length is in
    omega (arith, all, length-append base (edges_of links lits), order_count links lits, count, held_is)
