use Rattle.report_text.proofs.spelling.is_section.Goals as goal

pub returns-in-Refuted : goal.returns-in-Refuted
returns-in-Refuted c =
    let spelled = rw c.as_slice-in-Refuted.ensures.items at c.is_derivation.ensures in
    rw c.in-Refuted.is spelled

pub returns-in-Unknown : goal.returns-in-Unknown
returns-in-Unknown c =
    let spelled = rw c.as_slice-in-Unknown.ensures.items at c.is_derivation-in-Unknown.ensures in
    rw c.in-Unknown.is spelled
