use Rattle.std.proofs.Common.{◌≡◌, ◌∙◌, sym, ap, refl, subst, rules, arith, get_or, ◌+◌, ◌++◌, ◌∷◌, []}
use Rattle.std.specs.Prelude.{map}
use Rattle.std.proofs.lemmas.List.{map-append, take_rest}
use Rattle.mtl_parse.specs.States.{first_lexeme, placed_in, token_in}
use Rattle.mtl_parse.proofs.Scanning.{Scanned, scanned-bad, scanned-nothing, scanned-part, scanned-token}
use Rattle.mtl_parse.proofs.tokens.tokens_of.Goals as goal

pub loop-i-preserved-then-belong-gt0 : goal.loop-i-preserved-then-belong-gt0
loop-i-preserved-then-belong-gt0 c =
    scanned-part c.args.bytes.now (map placed_in c.loop-i.tokens.items) c.loop-i.belong c.loop-i.i (get_or c.args.bytes.now c.loop-i.i 0)
    c.loop-i-test.true refl c.loop-i.invariant c.if-belong-gt0.true

pub returns-in-NoToken-clause-fault : goal.returns-in-NoToken-clause-fault
returns-in-NoToken-clause-fault c = λ _.
    scanned-nothing c.args.bytes.now (map placed_in c.loop-i.tokens.items) c.loop-i.belong c.loop-i.i (get_or c.args.bytes.now c.loop-i.i 0)
    c.loop-i-test.true refl c.loop-i.invariant (omega (arith, c.if-belong-gt0.false)) (sym c.is_blank.ensures ∙ c.if-is_blank.false)
    (c.in-NoToken.ensures ∙ ap first_lexeme (take_rest c.args.bytes.now c.loop-i.i))

pub returns-in-BadNumber-clause-fault : goal.returns-in-BadNumber-clause-fault
returns-in-BadNumber-clause-fault c = λ _.
    scanned-bad c.args.bytes.now (map placed_in c.loop-i.tokens.items) c.loop-i.belong c.loop-i.i (get_or c.args.bytes.now c.loop-i.i 0)
    c.loop-i-test.true refl c.loop-i.invariant (omega (arith, c.if-belong-gt0.false)) (sym c.is_blank.ensures ∙ c.if-is_blank.false)
    (c.in-BadNumber.ensures ∙ ap first_lexeme (take_rest c.args.bytes.now c.loop-i.i))

pub loop-i-preserved : goal.loop-i-preserved
loop-i-preserved c =
    let pushed : c.push.new.self.items ≡ c.loop-i.tokens.items ++ record { token = c.in-Found.token; byte = c.loop-i.i } ∷ [] = search rules in
    let listed : map placed_in c.push.new.self.items ≡ map placed_in c.loop-i.tokens.items ++ record { token = token_in c.in-Found.token; byte = c.loop-i.i } ∷ [] = ap (map placed_in) pushed ∙ map-append placed_in c.loop-i.tokens.items (record { token = c.in-Found.token; byte = c.loop-i.i } ∷ []) in
    subst (λ done. Scanned c.args.bytes.now done c.in-Found.more (c.loop-i.i + 1)) (sym listed)
    (scanned-token c.args.bytes.now (map placed_in c.loop-i.tokens.items) c.loop-i.belong c.loop-i.i (get_or c.args.bytes.now c.loop-i.i 0)
    c.loop-i-test.true refl c.loop-i.invariant (omega (arith, c.if-belong-gt0.false)) (sym c.is_blank.ensures ∙ c.if-is_blank.false)
    (token_in c.in-Found.token) c.in-Found.more (c.in-Found.ensures ∙ ap first_lexeme (take_rest c.args.bytes.now c.loop-i.i)))
