use Rattle.std.proofs.Common.{refl, subst, sym, inl, inr}
use Rattle.std.specs.Prelude.{Contains}
use Rattle.std.proofs.lemmas.List.Elements.{Contains-append_cases, Contains-append_left, Contains-append_right}
use Rattle.std.proofs.lemmas.Bool.{iff_false}
use Rattle.proof_check.proofs.atoms.Atoms.has.Goals as goal

pub returns-then-is_recent : goal.returns-then-is_recent
returns-then-is_recent c =
    let a = c.args.atom.now in
    let there = Contains-append_right c.self.inside.sorted.items c.self.inside.recent.keys a (c.is_recent.ensures.0 c.if-is_recent.true) in
    record { stands = (λ _. subst (λ atoms. Contains atoms a) c.self.view_is there, λ _. refl) }

pub returns : goal.returns
returns c =
    let sorted = c.self.inside.sorted.items in
    let keys = c.self.inside.recent.keys in
    let a = c.args.atom.now in
    record {
      stands = (
        λ yes. subst (λ atoms. Contains atoms a) c.self.view_is (Contains-append_left sorted keys a (subst (λ atoms. Contains atoms a) c.deref.ensures.value (c.is_among.ensures.0 yes))),
        λ has. elim (Contains-append_cases sorted keys a (rw c.self.view_is has)) [
          | inl there ↦ c.is_among.ensures.1 (subst (λ atoms. Contains atoms a) (sym c.deref.ensures.value) there)
          | inr there ↦ absurd (iff_false c.is_recent.ensures c.if-is_recent.false there)
        ],
      );
    }
