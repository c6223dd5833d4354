-- A variable that is assigned stays so while a trail grows.
use Rattle.std.proofs.Common.{◌≡◌, ◌∙◌, ap, refl, subst, ℕ, ◌+◌, ◌<◌, ◌⊎◌, [], ◌∷◌, length, None, arith}
use Rattle.std.specs.Prelude.{◌≢◌}
use Rattle.std.proofs.lemmas.List.{get_or_append_left, get_or_push, length_push}
use Rattle.std.proofs.lemmas.List.Elements.{All-take}
use Rattle.clause_db.specs.declared.lit.Lit.{Lit}
use Rattle.propagate.specs.declared.entry.Entry.{Entry}
use Rattle.propagate.specs.Reach.{IsGrown}
use Rattle.propagate.specs.Trails.{Assigned, IsUnassigned, decided}

-- a number below the next of v is below v, or v
pub below_or_last : (w v : ℕ) → w < v + 1 → (w < v) ⊎ (w ≡ v)
below_or_last w v low = grind arith

pub grown_free : (t u : Assigned) → IsGrown t u → (w : ℕ) → IsUnassigned u.entries w → IsUnassigned t.entries w
grown_free t u grown w free = subst (λ xs. IsUnassigned xs w) grown.kept (All-take (λ (e : Entry). e.lit.var ≢ w) (length t.entries) u.entries free)

module _ (t : Assigned) (lit : Lit) (mark : ℕ) where
  last : Entry
  last = record { lit = lit; level = length t.levels + 1; reason = None }

  pub decided_free : (w : ℕ) → IsUnassigned (decided t lit mark).entries w → IsUnassigned t.entries w
  unfolding last
  decided_free w free k d low is =
      free k d (omega (arith, low, length_push t.entries last)) (ap (λ (e : Entry). e.lit.var) (get_or_append_left t.entries (last ∷ []) d k low) ∙ is)

  -- what is decided is assigned
  pub decided_taken : IsUnassigned (decided t lit mark).entries lit.var → ⊥
  unfolding last
  decided_taken free = free (length t.entries) last (omega (arith, length_push t.entries last)) (ap (λ (e : Entry). e.lit.var) (get_or_push t.entries last last (length t.entries) refl))
