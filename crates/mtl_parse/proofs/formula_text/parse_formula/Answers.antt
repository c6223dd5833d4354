use Rattle.std.proofs.Common.{◌≡◌, ◌<◌, arith, rules, length, Ok, None}
use Rattle.std.specs.Prelude.{map}
use Rattle.std.proofs.lemmas.Bool.Decides.{nat_tests}
use Rattle.std.proofs.lemmas.Result.{err_from_is_err_and}
use Rattle.mt_model.specs.Form.{form_of}
use Rattle.mtl_parse.specs.Tokens.{tokens_of}
use Rattle.mtl_parse.specs.FormulaOf.{first_empty_interval, scanned_in_part}
use Rattle.mtl_parse.specs.Machine.{capped, read_whole}
use Rattle.mtl_parse.specs.States.{form_in, placed_in}
use Rattle.mtl_parse.proofs.Parsing.{empty-read, fault-read, high-read, low-read, low-valid, none-read, some-read, sound-read}
use Rattle.mtl_parse.proofs.formula_text.parse_formula.Goals as goal

pub returns-in_err-tokens-clause-fault : goal.returns-in_err-tokens-clause-fault
returns-in_err-tokens-clause-fault c =
    let p = err_from_is_err_and c.from_residual.result c.from_residual.ensures.1 in
    rw (p.1, p.2) (λ other. scanned_in_part _ (c.in_err-tokens.ensures.fault other))

pub returns-then-is_empty-clause-fault : goal.returns-then-is_empty-clause-fault
returns-then-is_empty-clause-fault c = λ _.
    let same = c.in_ok-tokens.tokens.ok.0 in
    let scanned : tokens_of c.args.bytes.now ≡ Ok (map placed_in c.in_ok-tokens.tokens.items) = search rules in
    none-read c.args.bytes.now c.in_ok-tokens.tokens.items scanned (grind (arith, nat_tests, same, c.if-is_empty.ensures))

pub read_tokens-requires : goal.read_tokens-requires
read_tokens-requires c =
    let scanned : tokens_of c.args.bytes.now ≡ Ok (map placed_in c.in_ok-tokens.tokens.items) = search rules in
    record { sound = rw c.deref.ensures.value (sound-read c.args.bytes.now c.in_ok-tokens.tokens.items scanned) }

pub returns-in_err-operand-clause-fault : goal.returns-in_err-operand-clause-fault
returns-in_err-operand-clause-fault c =
    let p = err_from_is_err_and c.from_residual-in_err-operand.result c.from_residual-in_err-operand.ensures.1 in
    let same = c.in_ok-tokens.tokens.ok.0 in
    let scanned : tokens_of c.args.bytes.now ≡ Ok (map placed_in c.in_ok-tokens.tokens.items) = search rules in
    let some : 0 < length c.in_ok-tokens.tokens.items = grind (arith, nat_tests, same, c.if-is_empty.ensures) in
    rw (p.1, p.2) (λ other. fault-read c.args.bytes.now (map placed_in c.in_ok-tokens.tokens.items) _ scanned
    (some-read c.in_ok-tokens.tokens.items some) (rw c.deref.ensures.value at (c.in_err-operand.ensures.fault other)))

pub returns-in-Some-clause-fault : goal.returns-in-Some-clause-fault
returns-in-Some-clause-fault c = λ _.
    let scanned : tokens_of c.args.bytes.now ≡ Ok (map placed_in c.in_ok-tokens.tokens.items) = search rules in
    let whole : read_whole capped (length c.args.bytes.now) (map placed_in c.in_ok-tokens.tokens.items) ≡ Ok (form_in c.in_ok-operand.operand) = search rules in
    empty-read c.args.bytes.now (map placed_in c.in_ok-tokens.tokens.items) (length c.args.bytes.now) c.in-Some.byte (form_in c.in_ok-operand.operand) scanned whole (search rules)

pub returns-in-TooHigh-clause-fault : goal.returns-in-TooHigh-clause-fault
returns-in-TooHigh-clause-fault c = λ _.
    let scanned : tokens_of c.args.bytes.now ≡ Ok (map placed_in c.in_ok-tokens.tokens.items) = search rules in
    let whole : read_whole capped (length c.args.bytes.now) (map placed_in c.in_ok-tokens.tokens.items) ≡ Ok (form_in c.in_ok-operand.operand) = search rules in
    let none : first_empty_interval (map placed_in c.in_ok-tokens.tokens.items) ≡ None = search rules in
    high-read c.args.bytes.now (map placed_in c.in_ok-tokens.tokens.items) (length c.args.bytes.now) scanned (rw c.in-TooHigh.is at whole) none

pub returns-in-Some-new-clause-formula : goal.returns-in-Some-new-clause-formula
returns-in-Some-new-clause-formula c =
    let scanned : tokens_of c.args.bytes.now ≡ Ok (map placed_in c.in_ok-tokens.tokens.items) = search rules in
    let whole : read_whole capped (length c.args.bytes.now) (map placed_in c.in_ok-tokens.tokens.items) ≡ Ok (form_in c.in_ok-operand.operand) = search rules in
    let none : first_empty_interval (map placed_in c.in_ok-tokens.tokens.items) ≡ None = search rules in
    let tree : read_whole capped (length c.args.bytes.now) (map placed_in c.in_ok-tokens.tokens.items) ≡ Ok (form_of c.into_tree.result) = rw c.into_tree.ensures.same (rw c.in-Low.is at whole) in
    rw c.in-Some-new.ensures.tree (low-read c.args.bytes.now (map placed_in c.in_ok-tokens.tokens.items) (length c.args.bytes.now)
    (form_of c.into_tree.result) scanned tree none c.into_tree.ensures.height)

pub unreachable-requires : goal.unreachable-requires
unreachable-requires c =
    let scanned : tokens_of c.args.bytes.now ≡ Ok (map placed_in c.in_ok-tokens.tokens.items) = search rules in
    let whole : read_whole capped (length c.args.bytes.now) (map placed_in c.in_ok-tokens.tokens.items) ≡ Ok (form_in c.in_ok-operand.operand) = search rules in
    let none : first_empty_interval (map placed_in c.in_ok-tokens.tokens.items) ≡ None = search rules in
    let tree : read_whole capped (length c.args.bytes.now) (map placed_in c.in_ok-tokens.tokens.items) ≡ Ok (form_of c.into_tree.result) = rw c.into_tree.ensures.same (rw c.in-Low.is at whole) in
    let other =
    c.in-None.ensures.valid.1 (low-valid c.args.bytes.now (map placed_in c.in_ok-tokens.tokens.items) (length c.args.bytes.now)
    (form_of c.into_tree.result) c.requires scanned tree none c.into_tree.ensures.height) in
    absurd (cc)
