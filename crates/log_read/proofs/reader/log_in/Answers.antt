use Rattle.std.proofs.Common.{◌≡◌, ◌∙◌, sym, Some, arith}
use Rattle.log_read.specs.LogOf.{version_of}
use Rattle.log_read.proofs.FirstFaults.{under-header}
use Rattle.log_read.proofs.reader.log_in.Goals as goal

pub returns-in-Some : goal.returns-in-Some
returns-in-Some c =
    let due = under-header c.args.records.now c.header-item.result (omega (arith, c.in-len1-up.len_at_least)) c.header-item.is in
    let told : version_of c.header-item.result ≡ Some c.in-Some.version = sym c.version_of.ensures ∙ c.in-Some.is in
    rw (due, told) c.log_under.ensures
