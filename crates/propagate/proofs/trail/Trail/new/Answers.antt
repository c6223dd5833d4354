use Rattle.std.proofs.Common.{◌≡◌, ◌∙◌, sym, refl, ℕ, ◌^◌, ◌<◌, ◌≤◌, List, [], length, Option, None, rules, arith}
use Rattle.std.specs.Prelude.{replicate}
use Rattle.std.proofs.lemmas.List.{length-replicate}
use Rattle.std.proofs.lemmas.Option.{none-some}
use Rattle.propagate.specs.declared.entry.Entry.{Entry}
use Rattle.propagate.specs.declared.entry.Level.{Level}
use Rattle.propagate.specs.Watching.{Watching}
use Rattle.propagate.specs.Stored.{IsStored}
use Rattle.propagate.proofs.ValueLemmas.{no_place, no_values}
use Rattle.propagate.proofs.trail.Trail.new.Goals as goal

-- a new trail is stored
stored_new : (n : ℕ) (xs : List Entry) (places : List (Option ℕ)) (ls : List Level) (w : Watching) (ec lc : ℕ) → xs ≡ []
    → places ≡ replicate n None → ls ≡ [] → w.watches ≡ [] → length w.watchers ≡ n → w.satisfied ≡ 0 → n < 2 ^ 32 → n ≤ ec → n ≤ lc
    → IsStored xs places ls w 0 ec lc
stored_new n xs places ls w ec lc none unplaced no_level unwatched_all lists unsatisfied few entry_room level_room = rw (none, unplaced, no_level) (record {
  trail = record {
    below = λ k d below. absurd (omega (arith, below));
    once = λ i j d first below. absurd (omega (arith, below));
    levels = record {
      top = λ k below. absurd (omega (arith, below));
      reached = λ j k below _. absurd (omega (arith, below));
      within = λ j below. absurd (omega (arith, below));
      first = λ j below. absurd (omega (arith, below));
      decided = λ j below. absurd (omega (arith, below));
      only = λ k below _. absurd (omega (arith, below));
    };
    propagated = omega arith;
    lists = lists ∙ sym count;
    listed = λ c p at. absurd (none-some p (rw unwatched_all at at));
    satisfied = omega (arith, unsatisfied);
  };
  table = record {
    here = λ k below. absurd (omega (arith, below));
    there = λ v k at. absurd (none-some k (sym (no_place n v) ∙ at));
  };
  few = omega (arith, count, few);
  entry_room = omega (arith, count, entry_room);
  level_room = omega (arith, count, level_room);
}) where
  none_yet : Option ℕ
  none_yet = None

  count : length (replicate n none_yet) ≡ n
  count = length-replicate n none_yet

pub invariant_of-result : goal.invariant_of-result
invariant_of-result c =
    let places : c.in_ok-vec.field-0.items ≡ replicate c.args.vars None = search rules in
    let values : c.in_ok-vec-2.field-0.items ≡ replicate c.args.vars None = search rules in
    let watching : Watching = record { watches = c.new.result; watchers = c.in_ok-no_watchers.field-0.items; satisfied = 0 } in
    let entries = c.in_ok-with_capacity.ensures in
    let levels = c.in_ok-with_capacity-2.ensures in
    record {
      stored =
          stored_new c.args.vars c.in_ok-with_capacity.field-0.items c.in_ok-vec.field-0.items c.in_ok-with_capacity-2.field-0.items
          watching _ _ entries.items places levels.items c.new.ensures.none c.in_ok-no_watchers.ensures.count refl c.ranges.vars.fits
          entries.capacity levels.capacity;
      valued = no_values c.args.vars c.in_ok-with_capacity.field-0.items c.in_ok-vec.field-0.items c.in_ok-vec-2.field-0.items places values;
    }
