-- A table of atoms that gets one more.
use Rattle.std.proofs.Common.{◌≡◌, ◌∙◌, sym, ap, ℕ, zero, suc, ◌-◌, ◌<◌, ◌^◌, true, false, List, [], ◌∷◌, length, Some, ◌⊎◌, inl, inr, arith}
use Rattle.std.proofs.lemmas.Bool.{cases_Bool, or_left, or_right}
use Rattle.std.proofs.lemmas.List.{length-append}
use Rattle.axiom_rules.specs.declared.literal.Atom.{Atom}
use Rattle.axiom_rules.specs.Atoms.{AreOnce, IsVar, has_atom, with_atom}
use Rattle.axiom_rules.specs.Literals.{same_atom}
use Rattle.axiom_rules.proofs.AddingLemmas.{atom-itself}
use Rattle.axiom_rules.proofs.BoolLemmas.{apart}
use Rattle.axiom_rules.proofs.ShapeLemmas.{slice-end}

pub has-var : (atoms : List Atom) (v : ℕ) (a : Atom) → IsVar atoms v a → has_atom atoms a ≡ true
has-var [] v a is = absurd (cc)
has-var (b ∷ atoms) zero a is = let same : b ≡ a = cc in or_left (same_atom a b) (has_atom atoms a) (rw same (atom-itself a))
has-var (b ∷ atoms) (suc v) a is = or_right (same_atom a b) (has_atom atoms a) (has-var atoms v a is)

pub once-added : (atoms : List Atom) (a : Atom) → length atoms < 2 ^ 32 - 1 → AreOnce atoms → AreOnce (with_atom atoms a)
once-added atoms a room once = elim (cases_Bool (has_atom atoms a)) [
  | inl there ↦ rw there once
  | inr absent ↦ rw absent (record { few = omega (arith, length-append atoms (a ∷ [])); once = λ v w b is_v is_w. go v w b (slice-end atoms a b v is_v) (slice-end atoms a b w is_w) absent })
]
  where
    go : (v w : ℕ) (b : Atom) → IsVar atoms v b ⊎ ((v ≡ length atoms) × (a ≡ b)) → IsVar atoms w b ⊎ ((w ≡ length atoms) × (a ≡ b)) → has_atom atoms a ≡ false → v ≡ w
    go v w b (inl old) (inl same) absent = once.once v w b old same
    go v w b (inl old) (inr new) absent = absurd (apart (has_atom atoms a) (has-var atoms v a (old ∙ ap Some (sym new.1))) absent)
    go v w b (inr new) (inl old) absent = absurd (apart (has_atom atoms a) (has-var atoms w a (old ∙ ap Some (sym new.1))) absent)
    go v w b (inr new) (inr same) absent = new.0 ∙ sym same.0
