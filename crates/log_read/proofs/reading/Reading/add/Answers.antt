use Rattle.std.proofs.Common.{◌≡◌, ◌∙◌, sym, ap, arith}
use Rattle.log_read.specs.LogOf.{known_in}
use Rattle.log_read.specs.Records.{kind_of}
use Rattle.log_read.proofs.Listing.{four_items, record_taken}
use Rattle.log_read.proofs.reading.Reading.add.Goals as goal

pub returns-in-len4 : goal.returns-in-len4
returns-in-len4 c =
    let four =
    four_items c.as_slice.result.now c.word-item.result c.host-item.result c.time-item.result c.name-item.result (omega (arith, c.in-len4.len_at_least))
    (omega (arith, c.in-len4.len_below)) c.word-item.is c.host-item.is c.time-item.is c.name-item.is in
    let kinds = rw c.bytes.ensures.bytes at c.named.ensures.kind in
    let known : known_in c.args.version (kind_of c.word-item.result) ≡ c.known-kind.result = ap (known_in c.args.version) (sym kinds) ∙ sym c.known-kind.ensures in
    let added = rw (c.bytes-in-len4.ensures.bytes, c.bytes-in-len4-2.ensures.bytes, c.bytes-in-len4-3.ensures.bytes) at c.add_of.ensures in
    record_taken c.args.version c.args.place c.args.self.now c.add_of.new.self c.args.fields.now _ _ _ _ c.add_of.result (sym c.as_slice.ensures.fields ∙ four) _ known added
