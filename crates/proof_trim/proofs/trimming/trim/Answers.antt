use Rattle.std.proofs.Common.{◌≡◌, Bool, List, map}
use Rattle.proof_log.specs.declared.line.Line.{Line}
use Rattle.proof_log.specs.Marks.{marked}
use Rattle.proof_trim.specs.Trimmed.{AreNeeded, IsTrimOf, place_of, renumbered}
use Rattle.proof_trim.proofs.Kept.{each-named, keeps-refuting, keeps-spelling, shorter}
use Rattle.proof_trim.proofs.Looks.{none-first}
use Rattle.proof_trim.proofs.trimming.trim.Goals as goal

-- what was marked and copied is what is left
trim-of : (lines : List Line) (marks passed : List Bool) (left : List Line) → AreNeeded lines marks → passed ≡ marks
    → left ≡ map (renumbered (place_of passed lines)) (marked passed lines) → IsTrimOf lines left
trim-of lines marks passed left needed same copied = record { marks = marks; needed = needed; left = rw same at copied }

pub returns-clause-each_named : goal.returns-clause-each_named
returns-clause-each_named c =
    let t = trim-of c.args.lines.now c.in_ok-marks.marks.items c.deref.result.now c.in_ok-marked_lines.field-0 c.in_ok-marks.ensures c.deref.ensures.value c.in_ok-marked_lines.ensures in
    each-named c.args.lines.now c.in_ok-marked_lines.field-0 t c.in_default.ensures

pub returns-clause-refutes : goal.returns-clause-refutes
returns-clause-refutes c =
    let t = trim-of c.args.lines.now c.in_ok-marks.marks.items c.deref.result.now c.in_ok-marked_lines.field-0 c.in_ok-marks.ensures c.deref.ensures.value c.in_ok-marked_lines.ensures in
    keeps-refuting c.args.lines.now c.in_ok-marked_lines.field-0 t

pub returns-clause-spelled : goal.returns-clause-spelled
returns-clause-spelled c =
    let t = trim-of c.args.lines.now c.in_ok-marks.marks.items c.deref.result.now c.in_ok-marked_lines.field-0 c.in_ok-marks.ensures c.deref.ensures.value c.in_ok-marked_lines.ensures in
    keeps-spelling c.args.lines.now c.in_ok-marked_lines.field-0 t

pub returns-clause-shorter : goal.returns-clause-shorter
returns-clause-shorter c =
    let t = trim-of c.args.lines.now c.in_ok-marks.marks.items c.deref.result.now c.in_ok-marked_lines.field-0 c.in_ok-marks.ensures c.deref.ensures.value c.in_ok-marked_lines.ensures in
    shorter c.args.lines.now c.in_ok-marked_lines.field-0 t

pub returns-clause-hint : goal.returns-clause-hint
returns-clause-hint c = λ n. (λ is. (let never : ⊥ = cc in absurd never), λ first. absurd (none-first c.args.lines.now n c.in_default.ensures first))
