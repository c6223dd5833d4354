use Rattle.std.proofs.Common.{Bor, List, ℕ, ◌∙◌, sym, refl, inl, inr, Some, []}
use Rattle.csv.specs.Reading.{Reached, default_config, strip_bom}
use Rattle.csv.specs.Records.{fields_of}
use Rattle.csv.specs.declared.parser.State.TheVariants as st
use Rattle.csv.proofs.ReadFacts.{rows-end, rows-more}
use Rattle.log_read.proofs.records.all_records.Goals as goal

pub loop-read-init : goal.loop-read-init
unfolding Reached
loop-read-init c =
    let fr = c.from_reader-rdr.ensures in
    let e = rw c.has_headers.ensures at c.flexible.ensures in
    let start = c.into_iter-read-iterator.ensures.into_iter_gives ∙ refl in
    let rdr = c.into_byte_records-read-items.ensures.rdr in
    let left = c.into_byte_records-read-items.ensures.left in
    rw (start, rdr, c.new-list.ensures.items) (
      rw (e) at fr.trim ∙ c.new.ensures.trim,
      inr (inr (rw e at fr.has_headers, fr.headers)),
      left,
      rw e at fr.config ∙ c.new.ensures.config,
      rw e at fr.flexible,
      strip_bom c.args.text.now,
      fr.source,
      (sym fr.state, refl),
    )

pub loop-read-preserved : goal.loop-read-preserved
loop-read-preserved c =
    let inv = c.loop-read.invariant in
    let kept = c.in_ok-keep.ensures.ok in
    let s = rw (c.in-Some.is, kept.1) at ((c.next.ensures.steps inv.2 inv.0).0 inv.1) in
    let flexible = rw (c.in-Some.is, kept.1) at (c.next.ensures.steps inv.2 inv.0).3 in
    let m =
    rows-more (λ (s : Bor (List ℕ)). Some s.now) c.loop-read.read-iterator.rdr c.next.new.self.rdr (fields_of kept.0) default_config st.StartRecord
    (strip_bom c.args.text.now) inv.5 c.loop-read.list inv.3 inv.6 inv.7 s.0 in
    (s.0.3 ∙ inv.0, inl s.1, s.2, s.0.2 ∙ inv.3, flexible ∙ inv.4, m.0, m.1, rw (kept.2) m.2)

pub returns : goal.returns
returns c =
    let inv = c.loop-read.invariant in
    let s = rw c.in-None.is at ((c.next.ensures.steps inv.2 inv.0).0 inv.1) in
    record {
      records = (
        c.loop-read.read-iterator.rdr.state,
        inv.5,
        inv.7,
        rows-end
            (λ (s : Bor (List ℕ)). Some s.now) c.loop-read.read-iterator.rdr c.next.new.self.rdr [] default_config inv.5 inv.3 inv.6 s,
      );
    }
