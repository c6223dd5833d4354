use Rattle.std.proofs.Common.{◌≡◌, take, arith}
use Rattle.std.proofs.lemmas.List.{take_all}
use Rattle.axiom_rules.specs.AtomIndex.{AreTaken}
use Rattle.axiom_rules.proofs.IndexLemmas.{no-chains, taken-once}
use Rattle.axiom_rules.proofs.atom_table.AtomTable.taken.Goals as goal

pub invariant_of-result : goal.invariant_of-result
invariant_of-result c =
    let all : take c.loop-var.var-index c.args.vars.now ≡ c.args.vars.now = take_all c.loop-var.var-index c.args.vars.now (omega (arith, c.loop-var-test.false)) in
    let taken : AreTaken c.args.self.now c.args.vars.now c.loop-var.atoms.items = rw all at c.loop-var.invariant in
    record {
      once = taken-once c.args.self.now c.args.vars.now c.loop-var.atoms.items c.requires.few c.requires.apart c.requires.below c.len.ensures.once taken;
      indexed = rw (c.new.ensures.heads, c.new.ensures.links) (no-chains c.loop-var.atoms.items);
    }
