-- Want of memory is no fault of a text.
use Rattle.std.proofs.Common.{◌≡◌, subst, zero, suc, ℕ, ◌+◌, Bool, true, false, List, [], ◌∷◌, Result, Ok, Err}
use Rattle.std.specs.Prelude.{if◌then◌else◌}
use Rattle.mt_model.specs.Form.{Form}
use Rattle.mtl_parse.specs.declared.fault.FormulaFault.{FormulaFault}
use Rattle.mtl_parse.specs.declared.fault.FormulaFault.TheVariants as fault
use Rattle.mtl_parse.specs.Tokens.{Placed, Lexeme, Found, NoToken, BadNumber, is_blank, lexeme_at, then_tokens, tokens_from, tokens_of, with_token}
use Rattle.mtl_parse.specs.FormulaOf.{FormulaOf, scanned_in_part}
use Rattle.mtl_parse.specs.Laws.{NoTextLacksMemory}

-- a fault other than want of memory
abbrev IsOfText : FormulaFault → Type 0
IsOfText fault.Memory = ⊥
IsOfText _ = Unit {0}

-- an answer other than want of memory
abbrev HasNoWant : {X : Type 0} → Result X FormulaFault → Type 0
HasNoWant (Ok x) = Unit {0}
HasNoWant (Err f) = IsOfText f

one_more : (p : Placed) (r : Result (List Placed) FormulaFault) → HasNoWant r → HasNoWant (with_token p r)
one_more p (Ok ps) h = tt
one_more p (Err f) h = h

then_more : (place : ℕ) (l : Lexeme) (after : ℕ → Result (List Placed) FormulaFault) → ((more : ℕ) → HasNoWant (after more)) → HasNoWant (then_tokens place l after)
then_more place (Found t more) after h = one_more (record { token = t; byte = place }) (after more) (h more)
then_more place NoToken after h = tt
then_more place BadNumber after h = tt

from : (bytes : List ℕ) (belong place : ℕ) → HasNoWant (tokens_from belong place bytes)
from [] zero place = tt
from [] (suc belong) place = tt
from (b ∷ bs) (suc belong) place = from bs belong (place + 1)
from (b ∷ bs) zero place = by (λ n. from bs n (place + 1)) (is_blank b)
  where
    by : ((n : ℕ) → HasNoWant (tokens_from n (place + 1) bs)) → (v : Bool)
        → HasNoWant (if v then tokens_from 0 (place + 1) bs else then_tokens place (lexeme_at b bs) (λ more. tokens_from more (place + 1) bs))
    by on true = on 0
    by on false = then_more place (lexeme_at b bs) (λ more. tokens_from more (place + 1) bs) on

scanned : (text : List ℕ) (f : FormulaFault) → tokens_of text ≡ Err f → IsOfText f
scanned text f is = subst HasNoWant is (from text 0 0)

reads : (text : List ℕ) (r : Result Form FormulaFault) → FormulaOf text r → HasNoWant r
reads text r (scanned_in_part f is) = scanned text f is
reads text r _ = tt

pub no-memory : NoTextLacksMemory
no-memory text is = reads text (Err fault.Memory) is
