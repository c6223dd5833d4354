use Rattle.std.proofs.Common.{inr, ap, sym, true≢false}
use Rattle.serde_json.specs.View.{view}
use Rattle.json_log.specs.JsonLogOf.{records_or_fault}
use Rattle.json_log.proofs.Few.{records-answered, records-few, value-none, value-read}
use Rattle.json_log.proofs.reader.records.Goals as goal

pub returns-in-Ok-clause-records : goal.returns-in-Ok-clause-records
returns-in-Ok-clause-records c =
    let reads = c.in-Ok.ensures.ok in
    let bytes = c.args.bytes.now in
    records-answered bytes (view c.in-Ok.value) c.records_of.result (value-read bytes (view c.in-Ok.value) reads.0 reads.1) c.records_of.ensures

pub returns-in-Ok-clause-few : goal.returns-in-Ok-clause-few
returns-in-Ok-clause-few c =
    let reads = c.in-Ok.ensures.ok in
    records-few c.args.bytes.now (view c.in-Ok.value) c.records_of.result c.requires reads.1 c.records_of.ensures

pub returns-else-is_memory-clause-records : goal.returns-else-is_memory-clause-records
returns-else-is_memory-clause-records c =
    inr (ap records_or_fault (value-none c.args.bytes.now (c.in-Err.ensures.err (λ memory. true≢false (sym (c.if-is_memory.ensures.1 memory))))))
