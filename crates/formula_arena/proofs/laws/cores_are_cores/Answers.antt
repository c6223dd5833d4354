use Rattle.std.proofs.Common.{sym, ap, ◌∙◌}
use Rattle.formula_arena.specs.Subtrees.{same_form}
use Rattle.formula_arena.proofs.CoreTruth.{core-core}
use Rattle.formula_arena.proofs.FormLemmas.{form_itself, form_same}
use Rattle.formula_arena.proofs.laws.cores_are_cores.Goals as goal

pub returns : goal.returns
returns c = record {
  core = core-core;
  equality = λ f g. (form_same f g, λ e. ap (same_form f) (sym e) ∙ form_itself f);
}
