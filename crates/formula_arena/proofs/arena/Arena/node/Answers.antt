use Rattle.std.proofs.Common.{◌∙◌, ap, length, arith}
use Rattle.std.specs.Prelude.{slice_index_or}
use Rattle.indexmap.specs.IndexMap.{keys}
use Rattle.formula_arena.proofs.TableLemmas.{length-trees_of}
use Rattle.formula_arena.proofs.Tables.{node-read}
use Rattle.formula_arena.proofs.arena.Arena.node.Goals as goal

pub bounds-nodes-get : goal.bounds-nodes-get
bounds-nodes-get c = omega (arith, c.get.ensures.number, ap length c.as_slice-nodes.ensures.keys, length-trees_of (keys c.self.inside.props) c.self.inside.nodes.keys, ap length c.self.view_is)

pub returns : goal.returns
returns c =
    let r = c.index-nodes-get.result in
    record {
      node = node-read c.self.inside.props.entries c.self.inside.nodes.keys c.args.self.now c.self.invariant c.self.view_is c.args.id r c.requires
          (c.index-nodes-get.is ∙ (λ i. slice_index_or (c.as_slice-nodes.ensures.keys i) (c.get.ensures.number i) r));
    }
