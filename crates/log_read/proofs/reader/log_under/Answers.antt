use Rattle.std.proofs.Common.{◌≡◌, ◌∙◌, sym, ap, inr, arith, ◌≤◌, length, Ok}
use Rattle.std.proofs.lemmas.Bool.Decides.{nat_tests}
use Rattle.log_read.specs.Records.{listed, log_from}
use Rattle.log_read.proofs.FirstFaults.{unmatched-is, no_event-is, no_row-is, log-is, all-matched, all-placed}
use Rattle.log_read.proofs.reader.log_under.Goals as goal

pub returns-in-Some : goal.returns-in-Some
returns-in-Some c =
    let read = c.in_ok-reading.ensures in
    let same : c.in_ok-reading.reading ≡ listed c.args.records.now = cc read.1 in
    let found = rw (c.rows.ensures.rows, same) at (sym c.first_unsent.ensures ∙ c.in-Some.is) in
    inr (unmatched-is c.args.version c.args.records.now c.in-Some.i read.0 found)

pub returns-then-is_empty : goal.returns-then-is_empty
returns-then-is_empty c =
    let read = c.in_ok-reading.ensures in
    let same : c.in_ok-reading.reading ≡ listed c.args.records.now = cc read.1 in
    let none = rw (c.rows.ensures.rows, same) at (sym c.in_default.ensures) in
    let rows = rw same at c.rows-2.ensures.rows in
    let empty : length (listed c.args.records.now).rows ≡ 0 = grind (arith, nat_tests, c.if-is_empty.ensures) in
    inr (no_event-is c.args.version c.args.records.now read.0 none empty)

pub returns-in-Some-first_without_row : goal.returns-in-Some-first_without_row
returns-in-Some-first_without_row c =
    let read = c.in_ok-reading.ensures in
    let same : c.in_ok-reading.reading ≡ listed c.args.records.now = cc read.1 in
    let none = rw (c.rows.ensures.rows, same) at (sym c.in_default.ensures) in
    let rows = rw same at c.rows-2.ensures.rows in
    let some : 1 ≤ length (listed c.args.records.now).rows = grind (arith, nat_tests, c.if-is_empty.ensures) in
    let found = rw (c.rows-3.ensures.rows, same) at (sym c.first_without_row.ensures ∙ c.in-Some-first_without_row.is) in
    inr (no_row-is c.args.version c.args.records.now c.in-Some-first_without_row.i read.0 none some found)

pub finish-requires-clause-sent : goal.finish-requires-clause-sent
finish-requires-clause-sent c =
    let read = c.in_ok-reading.ensures in
    let same : c.in_ok-reading.reading ≡ listed c.args.records.now = cc read.1 in
    let none = rw (c.rows.ensures.rows, same) at (sym c.in_default.ensures) in
    rw same (all-matched c.args.records.now none)

pub finish-requires-clause-placed : goal.finish-requires-clause-placed
finish-requires-clause-placed c =
    let read = c.in_ok-reading.ensures in
    let same : c.in_ok-reading.reading ≡ listed c.args.records.now = cc read.1 in
    let placed = rw (c.rows-3.ensures.rows, same) at (sym c.first_without_row.ensures ∙ c.in_default-first_without_row.is) in
    rw same (all-placed c.args.records.now placed)

pub returns : goal.returns
returns c =
    let read = c.in_ok-reading.ensures in
    let same : c.in_ok-reading.reading ≡ listed c.args.records.now = cc read.1 in
    let none = rw (c.rows.ensures.rows, same) at (sym c.in_default.ensures) in
    let rows = rw same at c.rows-2.ensures.rows in
    let some : 1 ≤ length (listed c.args.records.now).rows = grind (arith, nat_tests, c.if-is_empty.ensures) in
    let placed = rw (c.rows-3.ensures.rows, same) at (sym c.first_without_row.ensures ∙ c.in_default-first_without_row.is) in
    log-is c.args.version c.args.records.now read.0 none some placed ∙ ap Ok (ap log_from (sym same) ∙ sym c.finish.ensures.log)
