use Rattle.std.proofs.Common.{◌≡◌, ◌∙◌, sym, ap, subst, List, ℕ, true, All}
use Rattle.std.proofs.lemmas.List.{take_all}
use Rattle.std.proofs.lemmas.List.Elements.{All-more}
use Rattle.mt_model.specs.Name.{is_name}
use Rattle.mt_model.proofs.reading.are_named.Goals as goal

pub loop-name-preserved : goal.loop-name-preserved
loop-name-preserved c =
    All-more (λ (n : List ℕ). is_name n ≡ true) c.args.names.now c.loop-name.name-index c.name-item.result c.loop-name-test.true c.loop-name.invariant
    (ap is_name (sym c.name-item.is) ∙ c.bytes.ensures.name)

pub returns : goal.returns
returns c =
    subst (All (λ (n : List ℕ). is_name n ≡ true)) (take_all c.loop-name.name-index c.args.names.now c.loop-name-test.false) c.loop-name.invariant
