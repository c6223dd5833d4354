use Rattle.std.proofs.Common.{◌∙◌, ap, refl, inr}
use Rattle.skew_answers.specs.Texts.{inconsistent_text}
use Rattle.skew_commands.proofs.timing.times_of_log.Goals as goal

pub returns-in_ok-text-in-Conflict-clause-outcome : goal.returns-in_ok-text-in-Conflict-clause-outcome
returns-in_ok-text-in-Conflict-clause-outcome c =
    let conflict = rw c.in-Conflict.is at c.in_ok-times.ensures.answer in
    inr (record {
      steps = c.in-Conflict.steps;
      conflict = conflict;
      none = λ t admissible. c.conflict_excludes_timings.ensures c.args.log.now c.in-Conflict.steps t conflict.bounds conflict.conflict admissible;
      written = rw c.into_bytes-in-Conflict.ensures.value (c.in_ok-text-in-Conflict.ensures.text ∙ ap inconsistent_text c.as_slice-in-Conflict.ensures.items);
      inconsistent = refl;
    })
