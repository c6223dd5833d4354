-- Each text has an answer.
use Rattle.std.proofs.Common.{◌≡◌, refl, ℕ, List, [], ◌∷◌, length, Result, Ok, Err}
use Rattle.mtl_parse.specs.declared.fault.FormulaFault.{FormulaFault}
use Rattle.mtl_parse.specs.Tokens.{Placed, tokens_of}
use Rattle.mtl_parse.specs.FormulaOf.{FormulaOf, empty, first_empty_interval, scanned_in_part}
use Rattle.mtl_parse.specs.Machine.{State, begin, finish, read_all}
use Rattle.mtl_parse.proofs.Completeness.{plain}
use Rattle.mtl_parse.proofs.Judging.{given_end, given_refused, judged, judged_tokens, outcome, refused}

pub answered : (text : List ℕ) → FormulaOf text (outcome text)
answered text = at (tokens_of text) refl
  where
    not_empty : (p : Placed) (ps : List Placed) → p ∷ ps ≡ [] → ⊥
    not_empty p ps e = absurd (cc)

    read : (p : Placed) (ps : List Placed) → tokens_of text ≡ Ok (p ∷ ps) → (r : Result State FormulaFault)
        → read_all plain begin (p ∷ ps) ≡ r → FormulaOf text (judged_tokens (length text) (p ∷ ps) r)
    read p ps scanned (Err e) is = given_refused text (p ∷ ps) e scanned (refused (p ∷ ps) begin e is)
    read p ps scanned (Ok s) is = given_end text (p ∷ ps) s scanned (not_empty p ps) is (first_empty_interval (p ∷ ps)) refl (finish plain s) refl

    at : (r : Result (List Placed) FormulaFault) → tokens_of text ≡ r → FormulaOf text (judged (length text) r)
    at (Err e) is = scanned_in_part e is
    at (Ok []) is = empty is
    at (Ok (p ∷ ps)) is = read p ps is (read_all plain begin (p ∷ ps)) refl
