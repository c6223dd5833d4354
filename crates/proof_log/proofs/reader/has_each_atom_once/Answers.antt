use Rattle.proof_log.proofs.reader.has_each_atom_once.Goals as goal

pub returns-in-Learn : goal.returns-in-Learn
returns-in-Learn c =
    let once = rw c.as_slice.ensures.items at c.has_atoms_once.ensures.once in
    rw c.in-Learn.is once
