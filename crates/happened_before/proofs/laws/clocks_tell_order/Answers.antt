use Rattle.std.proofs.Common.{◌<◌, length, refl, arith}
use Rattle.std.specs.Prelude.{slice_index}
use Rattle.std.proofs.lemmas.Bool.{leb-true, le-leb}
use Rattle.mt_model.specs.Timing.{host_of}
use Rattle.happened_before.proofs.BeforeLemmas.{told-by_clocks}
use Rattle.happened_before.proofs.BuildLemmas.{hosts-below}
use Rattle.happened_before.proofs.laws.clocks_tell_order.Goals as goal

pub returns : goal.returns
returns c = record {
  law = λ log e f mine other valid row first second.
      let host : host_of log e < length log.hosts = hosts-below (length log.hosts) log.rows valid.rows.each e row in
      let low : host_of log e < length mine = let size = first.hosts in omega arith in
      let told = told-by_clocks c.previous_row_is_last.ensures log e f row mine other (host_of log e) refl low first second in
      let mine_at = slice_index mine (host_of log e) in
      let other_at = slice_index other (host_of log e) in
      (λ less. told.0 (le-leb mine_at other_at less), λ past. leb-true mine_at other_at (told.1 past));
}
