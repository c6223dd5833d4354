use Rattle.std.proofs.Common.{◌≡◌, ◌∙◌, sym, ap, subst, List, length, map, arith}
use Rattle.std.specs.Prelude.{Vec}
use Rattle.std.specs.declared.alloc.Global.{Global}
use Rattle.std.specs.Vec.{with_items}
use Rattle.std.proofs.lemmas.List.{length-map, with_items_is}
use Rattle.clause_db.specs.declared.lit.Lit.{Lit}
use Rattle.hint_refutation.specs.Pieces.{pieces_from}
use Rattle.clause_db.specs.Flat.{IsFlat}
use Rattle.clause_db.specs.Renaming.{moved}
use Rattle.clause_db.proofs.RenamingLemmas.{clauses_changed, flat_moved, lits_below}
use Rattle.clause_db.proofs.db.Db.renamed.Goals as goal

-- what is written back is what was written
written : (f : Lit → Lit) (v : Vec Lit Global) (now new : List Lit) → v.len ≡ length v.items → now ≡ v.items → new ≡ map f now → (with_items v new).items ≡ map f v.items
written f v now new count same is =
    with_items_is v new (omega (arith, ap length is, ap length same, length-map now f, count)) ∙ is ∙ ap (map f) same

pub rename-requires : goal.rename-requires
rename-requires c =
    let below = rw (← c.self.view_is) at c.requires.below in
    record { below = rw c.deref_mut.ensures.value (lits_below (length c.args.places.now) c.self.inside.lits.items c.self.inside.ends.items c.self.invariant below) }

pub invariant_of-self : goal.invariant_of-self
invariant_of-self c =
    let below = rw (← c.self.view_is) at c.requires.below in
    let is = written (moved c.args.places.now) c.self.inside.lits c.deref_mut.result.now c.rename.new.lits c.self.inside.lits.ok.0 c.deref_mut.ensures.value c.rename.ensures.literals in
    subst (λ (xs : List Lit). IsFlat xs c.self.inside.ends.items) (sym is) (flat_moved c.args.places.now c.self.inside.lits.items c.self.inside.ends.items c.self.invariant below c.requires.apart)

pub returns : goal.returns
returns c =
    let is = written (moved c.args.places.now) c.self.inside.lits c.deref_mut.result.now c.rename.new.lits c.self.inside.lits.ok.0 c.deref_mut.ensures.value c.rename.ensures.literals in
    record {
      clauses = ap (λ (xs : List Lit). pieces_from 0 xs c.self.inside.ends.items) is
          ∙ clauses_changed (moved c.args.places.now) 0 c.self.inside.lits.items c.self.inside.ends.items
          ∙ ap (map (map (moved c.args.places.now))) c.self.view_is;
    }
