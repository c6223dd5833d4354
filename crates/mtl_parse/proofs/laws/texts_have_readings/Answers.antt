use Rattle.mtl_parse.proofs.Answered.{answered}
use Rattle.mtl_parse.proofs.Judging.{outcome}
use Rattle.mtl_parse.proofs.laws.texts_have_readings.Goals as goal

pub returns : goal.returns
returns c = λ text. (outcome text, answered text)
