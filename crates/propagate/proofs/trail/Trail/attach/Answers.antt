use Rattle.std.proofs.Common.{◌≡◌, Option, Some}
use Rattle.std.specs.Prelude.{IfSome}
use Rattle.propagate.specs.declared.watch.Watch.{Watch}
use Rattle.propagate.proofs.StoredLemmas.{either, stored_attached}
use Rattle.propagate.proofs.trail.Trail.attach.Goals as goal

if_some_at : (r : Option Watch) (P : Watch → Type 0) → IfSome r P → (p : Watch) → r ≡ Some p → P p
if_some_at r P some p is = rw is at some

pub invariant_of-self : goal.invariant_of-self
invariant_of-self c = record {
  stored =
      let inside = c.self.inside in
      let listed = rw (← c.self.view_is) at c.requires.listed in
      let put = either c.push.result c.push.ensures.ok c.push.ensures.err in
      stored_attached inside.entries.items inside.places.items inside.levels.items _ _ _ _ c.self.invariant.stored c.args.watch c.push.new.self put (if_some_at c.args.watch _ listed);
  valued = c.self.invariant.valued;
}

pub returns-clause-after : goal.returns-clause-after
returns-clause-after c = (invariant_of-self c).stored.trail
