use Rattle.std.proofs.Common.{◌∙◌, sym, ap, subst, ◌++◌, ◌∷◌, [], length, map, All, zero-add}
use Rattle.std.specs.Prelude.{IfSome}
use Rattle.std.specs.List.{range_with_len}
use Rattle.std.proofs.lemmas.List.Elements.{All-push}
use Rattle.std.proofs.lemmas.List.FromFn.{map-range_with_len_more}
use Rattle.mt_model.specs.Log.{IsReading}
use Rattle.mt_model.specs.Timing.{reading_of}
use Rattle.mt_model.proofs.log.Log.readings_by_row.Goals as goal

pub loop-e-preserved : goal.loop-e-preserved
loop-e-preserved c =
    let log = c.args.self.now in
    let pushed = c.in_ok-push.ensures.ok in
    record {
      list =
          pushed ∙ ap (λ xs. xs ++ c.reading_at.result ∷ []) c.loop-e.invariant.list
          ∙ ap (λ r. map (reading_of log) (range_with_len 0 c.loop-e.e) ++ r ∷ []) c.reading_at.ensures.reading
          ∙ sym (map-range_with_len_more (reading_of log) 0 c.loop-e.e c.loop-e.e (zero-add c.loop-e.e));
      valid =
          subst (All (λ r. IfSome r (IsReading (length log.hosts) (length log.rows) (length log.clocks)))) (sym pushed)
          (All-push (λ r. IfSome r (IsReading (length log.hosts) (length log.rows) (length log.clocks))) c.loop-e.list c.reading_at.result c.loop-e.invariant.valid c.reading_at.ensures.valid);
    }
