use Rattle.std.proofs.Common.{◌≡◌, ◌∙◌, ◌+◌, refl, ◌++◌, [], ◌∷◌, List, ap, sym, take, length, arith, length-set}
use Rattle.std.proofs.lemmas.List.{take_at, take-take, length_push}
use Rattle.propagate.specs.declared.entry.Entry.{Entry}
use Rattle.propagate.proofs.TableLemmas.{table_pop}
use Rattle.propagate.proofs.ValueLemmas.{values_pop}
use Rattle.propagate.proofs.stored.forget.Goals as goal

pub entries-preserved-in-Some : goal.entries-preserved-in-Some
entries-preserved-in-Some c =
    let inv = c.entries.invariant in
    let init = c.args.entries.now.items in
    let old = c.entries.entries.items in
    let new = c.pop.new.self.items in
    let popped : old ≡ new ++ c.in-Some.entry ∷ [] = c.in-Some.ensures.items in
    let more = length_push new c.in-Some.entry in
    let sizes : length old ≡ length new + 1 = ap length popped ∙ more in
    let front : new ≡ take (length new) init =
    sym (take_at new (c.in-Some.entry ∷ []) (length new) refl) ∙ ap (λ (xs : List Entry). take (length new) xs) (sym popped ∙ inv.front) ∙ take-take (length new) (length old) init (omega (arith, sizes)) in
    let place = c.get-at.ensures.number ∙ c.var.ensures.variable in
    rw place (record {
      table = table_pop new c.in-Some.entry c.entries.places.items (rw popped at inv.table);
      values = values_pop new c.in-Some.entry c.entries.places.items c.entries.values.items (rw popped at inv.values) (rw popped at inv.table);
      front = front;
      count = length-set c.entries.places.items c.in-Some.entry.lit.var _ ∙ inv.count;
      capacity = c.in-Some.ensures.capacity ∙ inv.capacity;
      rest = omega (arith, sizes, c.entries-test.true, c.len.ensures, c.entries.entries.ok.0);
    })
