use Rattle.std.proofs.Common.{◌≡◌, ◌∙◌, ap, sym, subst, refl, false, length, arith}
use Rattle.std.proofs.lemmas.List.{length_push}
use Rattle.axiom_rules.specs.Atoms.{AreOnce, has_atom, with_atom}
use Rattle.axiom_rules.proofs.AtomLemmas.{once-added}
use Rattle.axiom_rules.proofs.IndexLemmas.{table-added, var-last, with-absent, with-there}
use Rattle.axiom_rules.proofs.atom_table.AtomTable.intern.Goals as goal
use Rattle.axiom_rules.proofs.atom_table.AtomTable.intern.Goals.{in-Some, in-None+in_ok-push-in-None}

pub invariant_of-self-in-None : goal.invariant_of-self-in-None
invariant_of-self-in-None c =
    let items = c.self.inside.atoms.items in
    let absent : has_atom items c.args.atom ≡ false = rw c.deref-2.ensures.value at c.in-None.ensures.none refl in
    rw c.in_ok-push-in-None.ensures.items
    (table-added items c.args.atom c.extend_to.new.self (rw c.self.view_is c.requires.room) absent c.self.invariant.once (rw c.deref.ensures.value at c.in_ok-extend_to.ensures.index))

pub returns-clause-var : goal.returns-clause-var
returns-clause-var c = elim c.match-find.branch [
  | in-Some w ↦ rw (c.new.ensures.number, w.place-is, w.self-is) (rw c.deref-2.ensures.value at w.in-Some.ensures.found)
  | in-None+in_ok-push-in-None w ↦ rw (c.new.ensures.number, w.place-is, w.self-is, w.in_ok-push-in-None.ensures.items)
      (var-last c.self.inside.atoms.items c.args.atom _ (omega (arith, w.len.ensures, ap length w.in_ok-push-in-None.ensures.items, length_push c.self.inside.atoms.items c.args.atom)))
]

pub returns-clause-atoms : goal.returns-clause-atoms
returns-clause-atoms c = elim c.match-find.branch [
  | in-Some w ↦ w.self-is ∙ c.self.view_is ∙ sym (with-there c.args.self.now w.in-Some.place c.args.atom (rw c.self.view_is at (rw c.deref-2.ensures.value at w.in-Some.ensures.found)))
  | in-None+in_ok-push-in-None w ↦ w.self-is ∙ w.in_ok-push-in-None.ensures.items
      ∙ sym (with-absent c.self.inside.atoms.items c.args.atom (rw c.deref-2.ensures.value at w.in-None.ensures.none refl))
      ∙ ap (λ atoms. with_atom atoms c.args.atom) c.self.view_is
]

pub returns-clause-once : goal.returns-clause-once
returns-clause-once c = subst AreOnce (sym (returns-clause-atoms c)) (once-added c.args.self.now c.args.atom c.requires.room (subst AreOnce c.self.view_is c.self.invariant.once))
