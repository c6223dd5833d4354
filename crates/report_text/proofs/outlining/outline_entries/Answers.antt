use Rattle.std.proofs.Common.{◌∙◌, sym, ap, refl, arith, length, length-append}
use Rattle.report_text.specs.ReportText.{entries_text}
use Rattle.report_text.proofs.Unambiguous.{front-is}
use Rattle.report_text.proofs.outlining.outline_entries.Goals as goal

pub before-text-requires : goal.before-text-requires
before-text-requires c =
    let p = c.in_ok-rest.ensures in
    omega (arith, ap length p.1.split, length-append (entries_text p.0) c.in_ok-rest.rest.now)

pub returns : goal.returns
returns c =
    let p = c.in_ok-rest.ensures in
    let rest = c.in_ok-rest.rest.now in
    record {
      value = p.0;
      outlined = record { kind = p.1.is.kind; text = sym (c.before-text.ensures ∙ front-is c.args.bytes.now (entries_text p.0) rest (length rest) p.1.split refl) };
      front = p.1;
    }
