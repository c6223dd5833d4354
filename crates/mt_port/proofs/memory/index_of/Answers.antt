use Rattle.mt_port.proofs.Files.{index_found, index_within, index_absent, place_found}
use Rattle.mt_port.proofs.memory.index_of.Goals as goal

pub returns-clause-found : goal.returns-clause-found
returns-clause-found c =
    index_found c.args.files.now c.args.name.now c.position_of.result c.position_of.ensures

pub returns-clause-within : goal.returns-clause-within
returns-clause-within c =
    index_within c.args.files.now c.args.name.now c.position_of.result c.position_of.ensures

pub returns-clause-absent : goal.returns-clause-absent
returns-clause-absent c =
    index_absent c.args.files.now c.args.name.now c.position_of.result c.position_of.ensures

pub returns-clause-place : goal.returns-clause-place
returns-clause-place c =
    place_found c.args.files.now c.args.name.now c.position_of.result c.position_of.ensures
