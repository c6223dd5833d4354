use Rattle.std.proofs.Common.{◌≡◌, ◌∙◌, sym, arith, eqb, true}
use Rattle.std.proofs.lemmas.Bool.Decides.{nat_tests}
use Rattle.analyze.proofs.Marked.{greatest_here, last_has}
use Rattle.analyze.proofs.mark.has_mark_here.Goals as goal

is_same : (a b : _) → a ≡ b → eqb a b ≡ true
is_same a b same = grind (arith, nat_tests)

same_is : (a b : _) → eqb a b ≡ true → a ≡ b
same_is a b is = grind (arith, nat_tests)

pub level_at-requires-clause-in_range : goal.level_at-requires-clause-in_range
level_at-requires-clause-in_range c = c.requires.in_range c.in-Some.place.now (last_has c.args.marked.now.keys _ c.in-Some.place.now c.in-Some.ensures.last)

pub returns-in-Some : goal.returns-in-Some
returns-in-Some c =
    let t = c.args.trail.now in
    let p = c.in-Some.place.now in
    let has = last_has c.args.marked.now.keys _ p c.in-Some.ensures.last in
    record {
      here = (
        λ is. (p, has, sym c.level_at.ensures.level ∙ same_is c.level_at.result c.level.result is ∙ c.level.ensures.level),
        λ some. is_same c.level_at.result c.level.result
            (c.level_at.ensures.level ∙ greatest_here t c.requires.trail c.args.marked.now.keys p c.requires.in_range has c.in-Some.ensures.all_up_to some ∙ sym c.level.ensures.level),
      );
    }
