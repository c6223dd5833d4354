use Rattle.std.proofs.Common.{◌∙◌, ◌++◌, ◌+◌, ap, sym, take, drop}
use Rattle.std.specs.List.{slice_split}
use Rattle.std.proofs.lemmas.List.{take_rest}
use Rattle.memchr.specs.Find.{is_byte}
use Rattle.proof_log.specs.LinesOf.{GivesLine, IsFrontLine}
use Rattle.proof_log.specs.LinesText.{newline, space}
use Rattle.proof_log.specs.Reading.{line_in}
use Rattle.proof_log.proofs.Cuts.{cut-none}
use Rattle.proof_log.proofs.LineReading.{line-of}
use Rattle.proof_log.proofs.PassedLines.{line-given}
use Rattle.proof_log.proofs.ReadingLines.{cut, no-newline, not-begun}
use Rattle.proof_log.proofs.passing.pass_line.Goals as goal

pub returns-in_default : goal.returns-in_default
returns-in_default c = record { front = no-newline c.args.bytes.now (cut-none newline c.args.bytes.now c.in_default.ensures) }

pub returns-then-branch : goal.returns-then-branch
returns-then-branch c =
    let bytes = c.args.bytes.now in
    let end = c.in-Some.end in
    let found = c.in-Some.ensures in
    let gives : GivesLine (line_in (slice_split (is_byte space) (take end bytes))) = c.in_ok-is_line.ensures.0 c.if-branch.true in
    let line = line-of (take end bytes) gives.line gives.is gives.once in
    let rest = drop (end + 1) bytes in
    let front : IsFrontLine bytes gives.line rest = record { spelled = line.spelled; split = cut bytes end found.0 found.1 ∙ ap (λ t. t ++ rest) (sym line.text) } in
    rw (take_rest bytes (end + 1)) (record { front = (gives.line, front) })

pub returns-else-branch : goal.returns-else-branch
returns-else-branch c =
    let bytes = c.args.bytes.now in
    let end = c.in-Some.end in
    let found = c.in-Some.ensures in
    record { front = not-begun bytes end found.0 found.1 (λ l is. let yes = c.in_ok-is_line.ensures.1 (line-given (take end bytes) l is) in absurd (cc (yes, c.if-branch.false))) }
