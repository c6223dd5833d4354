use Rattle.std.proofs.Common.{◌∙◌, sym, map}
use Rattle.std.specs.Prelude.{string_bytes}
use Rattle.skew_words.specs.Called.{given_in}
use Rattle.skew_words.specs.Words.{conflicts_in}
use Rattle.skew_words.proofs.CommandLemmas.{none-after}
use Rattle.skew_words.proofs.words.spoken_after.Goals as goal

pub returns-then-not-make_command-clause-command : goal.returns-then-not-make_command-clause-command
returns-then-not-make_command-clause-command c =
    let given = given_in c.in_ok-given.given in
    none-after c.args.verb given (map string_bytes c.args.words.now) c.in_ok-given.ensures.given (sym (c.make_command.ensures (conflicts_in given)) ∙ c.if-not-make_command.true)
