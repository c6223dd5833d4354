use Rattle.mtl_parse.proofs.PrintedFormulas.{texts-read-back}
use Rattle.mtl_parse.proofs.printer.printed_formulas_read_back.Goals as goal

pub returns : goal.returns
returns c = texts-read-back
