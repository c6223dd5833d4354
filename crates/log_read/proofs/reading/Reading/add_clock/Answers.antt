use Rattle.std.proofs.Common.{◌∙◌, sym, ap, [], ◌∷◌, ◌++◌, List, ℕ, Option, Some, option_to_list}
use Rattle.std.proofs.lemmas.List.{append-nil}
use Rattle.log_read.proofs.Begun.{begun_entry}
use Rattle.log_read.proofs.Listing.{with_entry}
use Rattle.log_read.proofs.reading.Reading.add_clock.Goals as goal

pub invariant_of-self-in-Some : goal.invariant_of-self-in-Some
invariant_of-self-in-Some c =
    let entry = rw (c.as_slice-hosts.ensures.items, c.deref.ensures.value, c.len.ensures.count) at c.in_ok-entry.ensures.entry in
    let kept = c.in_ok-reserve.ensures.items in
    begun_entry c.args.columns.place
    (record { hosts = c.self.inside.hosts; rows = c.self.inside.rows; resyncs = c.self.inside.resyncs; latencies = c.self.inside.latencies; clocks = c.self.inside.clocks.items; readings = c.self.inside.readings; bounds = c.self.inside.bounds })
    c.in_ok-entry.entry c.args.columns.host.now c.args.columns.time.now c.args.columns.name.now c.push_within.new.list.items c.push.new.self c.self.invariant entry.0 entry.1
    (c.push_within.ensures.items ∙ ap (λ (n : List ℕ). c.reserve.new.self.items ++ n ∷ []) c.in-Some.named-is ∙ ap (λ cs. cs ++ option_to_list (Some c.in-Some.named)) kept ∙ ap (λ (o : Option (List ℕ)). c.self.inside.clocks.items ++ option_to_list o) (sym c.in-Some.is)) c.in_ok-push.ensures.ok

pub invariant_of-self-in_default : goal.invariant_of-self-in_default
invariant_of-self-in_default c =
    let entry = rw (c.as_slice-hosts.ensures.items, c.deref.ensures.value, c.len.ensures.count) at c.in_ok-entry.ensures.entry in
    let kept = c.in_ok-reserve.ensures.items in
    begun_entry c.args.columns.place
    (record { hosts = c.self.inside.hosts; rows = c.self.inside.rows; resyncs = c.self.inside.resyncs; latencies = c.self.inside.latencies; clocks = c.self.inside.clocks.items; readings = c.self.inside.readings; bounds = c.self.inside.bounds })
    c.in_ok-entry.entry c.args.columns.host.now c.args.columns.time.now c.args.columns.name.now c.reserve.new.self.items c.push.new.self c.self.invariant entry.0 entry.1
    (kept ∙ sym (append-nil c.self.inside.clocks.items) ∙ ap (λ (o : Option (List ℕ)). c.self.inside.clocks.items ++ option_to_list o) (sym c.in_default.is)) c.in_ok-push.ensures.ok

pub returns-in-Some : goal.returns-in-Some
returns-in-Some c =
    let entry = rw (c.as_slice-hosts.ensures.items, c.deref.ensures.value, c.len.ensures.count) at c.in_ok-entry.ensures.entry in
    let kept = c.in_ok-reserve.ensures.items in
    rw (← c.self.view_is) (
      entry.0,
      with_entry
          (record { hosts = c.self.inside.hosts; rows = c.self.inside.rows; resyncs = c.self.inside.resyncs; latencies = c.self.inside.latencies; clocks = c.self.inside.clocks.items; readings = c.self.inside.readings; bounds = c.self.inside.bounds })
          c.in_ok-entry.entry c.args.columns.host.now c.args.columns.time.now c.args.columns.name.now c.push_within.new.list.items c.push.new.self entry.1
          (c.push_within.ensures.items ∙ ap (λ (n : List ℕ). c.reserve.new.self.items ++ n ∷ []) c.in-Some.named-is ∙ ap (λ cs. cs ++ option_to_list (Some c.in-Some.named)) kept ∙ ap (λ (o : Option (List ℕ)). c.self.inside.clocks.items ++ option_to_list o) (sym c.in-Some.is)) c.in_ok-push.ensures.ok,
    )
