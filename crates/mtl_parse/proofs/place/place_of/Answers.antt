use Rattle.std.proofs.Common.{◌∙◌, ◌<◌, sym, ap, refl, arith, get_or, None}
use Rattle.std.proofs.lemmas.List.{take_rest}
use Rattle.mtl_parse.specs.States.{first_lexeme, token_in}
use Rattle.mtl_parse.proofs.PlacesAfter.{place-found, remains-all, remains-dot, remains-first, remains-found, remains-none, remains-part, remains-plain, remains-some}
use Rattle.mtl_parse.proofs.place.place_of.Goals as goal
use Rattle.mtl_parse.proofs.place.place_of.Goals.{then-is_dot+then-is_some+else-left-eq0, else-is_dot, else-is_dot-via-then-is_dot+else-is_some, else-is_dot-via-else-is_dot}

pub loop-i-init : goal.loop-i-init
loop-i-init c = remains-all c.args.bytes.now c.args.index c.requires.parses.0 c.requires.parses.1

pub loop-i-preserved-then-belong-gt0 : goal.loop-i-preserved-then-belong-gt0
loop-i-preserved-then-belong-gt0 c =
    remains-part c.args.bytes.now c.args.index c.loop-i.belong c.loop-i.i c.loop-i.last c.loop-i.left (get_or c.args.bytes.now c.loop-i.i 0)
    c.loop-i-test.true refl c.loop-i.invariant c.if-belong-gt0.true

pub returns-in_default : goal.returns-in_default
returns-in_default c =
    absurd (remains-some c.args.bytes.now c.args.index c.loop-i.belong c.loop-i.i c.loop-i.last c.loop-i.left
    (get_or c.args.bytes.now c.loop-i.i 0) c.loop-i-test.true refl c.loop-i.invariant (omega (arith, c.if-belong-gt0.false))
    (sym c.is_blank.ensures ∙ c.if-is_blank.false) c.lexeme_at.result
    (c.lexeme_at.ensures ∙ ap first_lexeme (take_rest c.args.bytes.now c.loop-i.i)) c.in_default.not-Found)

pub returns-then-left-eq0-clause-byte : goal.returns-then-left-eq0-clause-byte
returns-then-left-eq0-clause-byte c =
    remains-found c.args.bytes.now c.args.index c.loop-i.belong c.loop-i.i c.loop-i.last c.loop-i.left
    (get_or c.args.bytes.now c.loop-i.i 0) c.loop-i-test.true refl c.loop-i.invariant (omega (arith, c.if-belong-gt0.false))
    (sym c.is_blank.ensures ∙ c.if-is_blank.false) (token_in c.in-Found.token) c.in-Found.more
    (c.in-Found.ensures ∙ ap first_lexeme (take_rest c.args.bytes.now c.loop-i.i)) (sym c.is_dot.ensures ∙ c.if-is_dot.true)
    (sym c.is_some.ensures ∙ c.if-is_some.true) c.if-left-eq0.true

pub returns-then-left-eq0-clause-found : goal.returns-then-left-eq0-clause-found
returns-then-left-eq0-clause-found c = λ f is. place-found c.args.bytes.now c.args.index c.loop-i.last f is (returns-then-left-eq0-clause-byte c)

pub loop-i-preserved : goal.loop-i-preserved
loop-i-preserved c =
    let blank = sym c.is_blank.ensures ∙ c.if-is_blank.false in
    let found = c.in-Found.ensures ∙ ap first_lexeme (take_rest c.args.bytes.now c.loop-i.i) in
    elim c.if-is_dot.branch [
      | then-is_dot+then-is_some+else-left-eq0 w ↦
          let some : 0 < c.loop-i.left = omega (arith, w.if-left-eq0.false) in
          rw w.left-is (remains-dot c.args.bytes.now c.args.index c.loop-i.belong c.loop-i.i c.loop-i.last c.loop-i.left
          (get_or c.args.bytes.now c.loop-i.i 0) c.loop-i-test.true refl c.loop-i.invariant (omega (arith, c.if-belong-gt0.false))
          blank (token_in c.in-Found.token) c.in-Found.more found (sym c.is_dot.ensures ∙ w.if-is_dot.true)
          (sym w.is_some.ensures ∙ w.if-is_some.true) some)
      | else-is_dot w ↦ rw w.left-is (elim w.else-is_dot.branch [
        | else-is_dot-via-then-is_dot+else-is_some v ↦ remains-first c.args.bytes.now c.args.index c.loop-i.belong c.loop-i.i c.loop-i.last
            c.loop-i.left (get_or c.args.bytes.now c.loop-i.i 0) c.loop-i-test.true refl c.loop-i.invariant
            (omega (arith, c.if-belong-gt0.false)) blank (token_in c.in-Found.token) c.in-Found.more found
            (sym v.is_some.ensures ∙ v.if-is_some.false)
        | else-is_dot-via-else-is_dot v ↦ remains-plain c.args.bytes.now c.args.index c.loop-i.belong c.loop-i.i c.loop-i.last c.loop-i.left
            (get_or c.args.bytes.now c.loop-i.i 0) c.loop-i-test.true refl c.loop-i.invariant (omega (arith, c.if-belong-gt0.false)) blank
            (token_in c.in-Found.token) c.in-Found.more found (sym c.is_dot.ensures ∙ v.if-is_dot.false)
      ])
    ]

pub returns-clause-found : goal.returns-clause-found
returns-clause-found c =
    λ f is. place-found c.args.bytes.now c.args.index None f is
    (remains-none c.args.bytes.now c.args.index c.loop-i.belong c.loop-i.i c.loop-i.last c.loop-i.left (omega arith) c.loop-i.invariant)
