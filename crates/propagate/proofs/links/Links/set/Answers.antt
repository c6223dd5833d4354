use Rattle.std.proofs.Common.{◌≡◌, ◌∙◌, ◌<◌, length, arith}
use Rattle.propagate.proofs.LinkPlaces.{again_view, more_places, more_view, view_below}
use Rattle.propagate.proofs.TableLemmas.{read_place}
use Rattle.propagate.proofs.links.Links.set.Goals as goal

pub invariant_of-self : goal.invariant_of-self
invariant_of-self c =
    let inside = c.self.inside in
    let below : c.args.var < length inside.places.items = view_below inside.places.items inside.edges.items c.args.var (rw (← c.self.view_is) at c.requires.in_range) in
    let count : c.len-place.result ≡ length inside.edges.items = omega (arith, c.len-place.ensures, inside.edges.ok.0) in
    let none = read_place inside.places.items c.args.var _ _ c.get-at.ensures.number below c.index.ensures ∙ c.in-None.is in
    rw (c.get-at.ensures.number, count, c.push_within.ensures.items)
    (more_places inside.places.items inside.edges.items _ c.args.var below (c.args.yes, c.args.no) c.self.invariant none _ c.push_within.ensures.capacity)

pub index_mut-requires-in-Some : goal.index_mut-requires-in-Some
index_mut-requires-in-Some c =
    let inside = c.self.inside in
    let below : c.args.var < length inside.places.items = view_below inside.places.items inside.edges.items c.args.var (rw (← c.self.view_is) at c.requires.in_range) in
    let less = c.self.invariant.below c.args.var c.in-Some.place (read_place inside.places.items c.args.var _ _ c.get-at.ensures.number below c.index.ensures ∙ c.in-Some.is) in
    omega (arith, less, inside.edges.ok.0)

pub returns-in-None : goal.returns-in-None
returns-in-None c =
    let inside = c.self.inside in
    let below : c.args.var < length inside.places.items = view_below inside.places.items inside.edges.items c.args.var (rw (← c.self.view_is) at c.requires.in_range) in
    let count : c.len-place.result ≡ length inside.edges.items = omega (arith, c.len-place.ensures, inside.edges.ok.0) in
    let none = read_place inside.places.items c.args.var _ _ c.get-at.ensures.number below c.index.ensures ∙ c.in-None.is in
    record {
      edges = rw (← c.self.view_is, c.get-at.ensures.number, count, c.push_within.ensures.items)
          (more_view inside.places.items inside.edges.items _ c.args.var below (c.args.yes, c.args.no) c.self.invariant none);
    }

pub returns-in-Some : goal.returns-in-Some
returns-in-Some c =
    let inside = c.self.inside in
    let below : c.args.var < length inside.places.items = view_below inside.places.items inside.edges.items c.args.var (rw (← c.self.view_is) at c.requires.in_range) in
    let at = read_place inside.places.items c.args.var _ _ c.get-at.ensures.number below c.index.ensures ∙ c.in-Some.is in
    record { edges = rw (← c.self.view_is) (again_view inside.places.items inside.edges.items _ c.args.var below (c.args.yes, c.args.no) c.self.invariant c.in-Some.place at) }
