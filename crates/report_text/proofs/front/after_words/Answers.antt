use Rattle.std.proofs.lemmas.Bool.Decides.{Decides-eqb}
use Rattle.std.proofs.lemmas.Slice.Eq.{slice_eq-Decides}
use Rattle.report_text.proofs.Fronts.{other-line}
use Rattle.report_text.proofs.front.after_words.Goals as goal

pub returns-else-eq : goal.returns-else-eq
returns-else-eq c =
    let decides = slice_eq-Decides Decides-eqb c.in_ok-line.line.now c.args.words.now c.eq.result c.eq.ensures in
    other-line c.args.words.now c.args.bytes.now c.in_ok-line.line.now c.in_ok-line.rest.now c.requires c.in_ok-line.ensures
    (λ same. let yes = decides.1 same in let no = c.if-eq.false in absurd (cc (yes, no)))
