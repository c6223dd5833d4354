use Rattle.skew_cli.proofs.Turns.{none-in_turn}
use Rattle.skewcheck.specs.Ended.{words_in}
use Rattle.skewcheck.proofs.answer.Goals as goal

pub returns-in-Err-clause-in_turn : goal.returns-in-Err-clause-in_turn
returns-in-Err-clause-in_turn g c = λ _. none-in_turn (words_in c.args.arguments) (g.S.Shelf.files c.args.shelf.now) (g.S.Shelf.openings c.args.shelf.now)
