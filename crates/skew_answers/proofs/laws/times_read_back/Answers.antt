use Rattle.skew_answers.proofs.TimesBack.{times-back}
use Rattle.skew_answers.proofs.laws.times_read_back.Goals as goal

pub returns : goal.returns
returns c = record { back = times-back }
