use Rattle.std.proofs.Common.{◌∙◌, ◌<◌, sym, length, arith}
use Rattle.propagate.proofs.LinkPlaces.{pair_read, view_below}
use Rattle.propagate.proofs.TableLemmas.{read_place}
use Rattle.propagate.proofs.links.Links.get.Goals as goal

pub index-requires-in-Some : goal.index-requires-in-Some
index-requires-in-Some c =
    let inside = c.self.inside in
    let below : c.args.var < length inside.places.items = view_below inside.places.items inside.edges.items c.args.var (rw (← c.self.view_is) at c.requires.in_range) in
    let less = c.self.invariant.below c.args.var c.in-Some.place (read_place inside.places.items c.args.var _ _ c.get.ensures.number below c.index.ensures ∙ c.in-Some.is) in
    omega (arith, less, inside.edges.ok.0)

pub returns-in-Some : goal.returns-in-Some
returns-in-Some c =
    let inside = c.self.inside in
    let below : c.args.var < length inside.places.items = view_below inside.places.items inside.edges.items c.args.var (rw (← c.self.view_is) at c.requires.in_range) in
    let at = read_place inside.places.items c.args.var _ _ c.get.ensures.number below c.index.ensures ∙ c.in-Some.is in
    record {
      edges =
          rw (← c.self.view_is) (sym
          (pair_read inside.places.items inside.edges.items c.args.var c.in-Some.place c.index-in-Some.result.now below at
          (c.self.invariant.below c.args.var c.in-Some.place at) c.index-in-Some.ensures));
    }
