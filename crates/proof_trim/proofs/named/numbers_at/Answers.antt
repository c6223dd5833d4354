use Rattle.std.proofs.Common.{◌≤◌, get_or, length, arith, rules}
use Rattle.proof_trim.proofs.NamedLists.{end-within, line-here, start-first, those-there}
use Rattle.proof_trim.proofs.named.numbers_at.Goals as goal

pub offset_bounds-numbers-start_of : goal.offset_bounds-numbers-start_of
offset_bounds-numbers-start_of c =
    let (lines, are) = c.requires.named in
    let (l, stands) = line-here lines c.args.numbers.now c.args.ends.now are c.args.i c.requires.within in
    let at = c.start_of.ensures lines c.args.numbers.now are in
    let first = start-first lines c.args.numbers.now c.args.ends.now are c.args.i c.requires.within l stands 0 in
    let last = end-within lines c.args.numbers.now c.args.ends.now are c.args.i c.requires.within l stands 0 in
    let low : c.start_of.result ≤ length c.args.numbers.now = omega (arith, at, first, last) in
    search rules

pub slice_bounds-result-count : goal.slice_bounds-result-count
slice_bounds-result-count c =
    let (lines, are) = c.requires.named in
    let (l, stands) = line-here lines c.args.numbers.now c.args.ends.now are c.args.i c.requires.within in
    let at = c.start_of.ensures lines c.args.numbers.now are in
    let first = start-first lines c.args.numbers.now c.args.ends.now are c.args.i c.requires.within l stands 0 in
    omega (arith, at, first)

pub slice_bounds-result-start : goal.slice_bounds-result-start
slice_bounds-result-start c =
    let (lines, are) = c.requires.named in
    let (l, stands) = line-here lines c.args.numbers.now c.args.ends.now are c.args.i c.requires.within in
    let at = c.start_of.ensures lines c.args.numbers.now are in
    let first = start-first lines c.args.numbers.now c.args.ends.now are c.args.i c.requires.within l stands 0 in
    let last = end-within lines c.args.numbers.now c.args.ends.now are c.args.i c.requires.within l stands 0 in
    let low : c.start_of.result ≤ get_or c.args.ends.now c.args.i 0 = omega (arith, at, first) in
    search rules

pub slice_bounds-result-end : goal.slice_bounds-result-end
slice_bounds-result-end c =
    let (lines, are) = c.requires.named in
    let (l, stands) = line-here lines c.args.numbers.now c.args.ends.now are c.args.i c.requires.within in
    let at = c.start_of.ensures lines c.args.numbers.now are in
    let first = start-first lines c.args.numbers.now c.args.ends.now are c.args.i c.requires.within l stands 0 in
    let last = end-within lines c.args.numbers.now c.args.ends.now are c.args.i c.requires.within l stands 0 in
    let low : c.start_of.result ≤ get_or c.args.ends.now c.args.i 0 = omega (arith, at, first) in
    search rules

pub returns : goal.returns
returns c = record {
  named = λ lines l are stands.
      let at = c.start_of.ensures lines c.args.numbers.now are in
      rw at (those-there lines c.args.numbers.now c.args.ends.now are c.args.i c.requires.within l stands 0);
}
