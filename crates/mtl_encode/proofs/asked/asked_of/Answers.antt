use Rattle.mtl_encode.proofs.asked.asked_of.Goals as goal

pub ask-requires : goal.ask-requires
ask-requires c = record { held = c.new.ensures c.args.scene.rules.now }
