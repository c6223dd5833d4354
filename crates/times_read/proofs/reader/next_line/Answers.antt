use Rattle.std.proofs.Common.{◌≤◌, ◌+◌, length, arith}
use Rattle.std.proofs.lemmas.Bool.Decides.{nat_tests}
use Rattle.std.proofs.lemmas.List.{take_rest}
use Rattle.times_read.proofs.Lines.{lines-last, lines-newline}
use Rattle.times_read.proofs.reader.next_line.Goals as goal

pub returns-in-Some : goal.returns-in-Some
returns-in-Some c =
    let found = c.in-Some.ensures in
    rw (c.line_before.ensures, take_rest c.args.bytes.now (c.in-Some.end + 1)) (lines-newline c.args.bytes.now c.in-Some.end found.0 found.1)

pub returns-in-None-2 : goal.returns-in-None-2
returns-in-None-2 c =
    let some : 1 ≤ length c.args.bytes.now = let test = c.if-is_empty.false in let is = c.is_empty.ensures in grind (arith, nat_tests) in
    lines-last c.args.bytes.now some (c.in-None.ensures)
