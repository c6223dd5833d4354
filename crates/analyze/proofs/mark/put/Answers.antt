use Rattle.analyze.proofs.Marked.{put_place}
use Rattle.analyze.proofs.mark.put.Goals as goal

pub returns-in_ok-insert-in-Some : goal.returns-in_ok-insert-in-Some
returns-in_ok-insert-in-Some c =
    let at = c.in-Some.ensures.place in
    record {
      put = put_place c.args.trail.now c.requires.trail c.args.before c.args.var c.in-Some.place at.0 at.1 c.args.marked.now.keys c.insert.new.self.keys
          c.if-place-before.true c.in_ok-insert-in-Some.ensures.keys;
    }
