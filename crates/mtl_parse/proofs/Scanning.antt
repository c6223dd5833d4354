-- The tokens of a text, byte by byte.
use Rattle.std.proofs.Common.{◌≡◌, ◌∙◌, sym, ap, refl, arith, zero, suc, ℕ, ◌+◌, ◌-◌, ◌<◌, false, List, [], ◌∷◌, ◌++◌, append_assoc, length, drop, get_or, drop-cons, add-one, Result, Ok, Err}
use Rattle.mtl_parse.specs.declared.fault.FormulaFault.{FormulaFault}
use Rattle.mtl_parse.specs.declared.fault.FormulaFault.TheVariants as fault
use Rattle.mtl_parse.specs.Tokens.{Placed, Token, Lexeme, Found, NoToken, BadNumber, is_blank, then_tokens, tokens_from, tokens_of, with_token}
use Rattle.mtl_parse.specs.States.{first_lexeme}

pub from-next : (bytes : List ℕ) (i b : ℕ) → i < length bytes → b ≡ get_or bytes i 0 → drop i bytes ≡ b ∷ drop (i + 1) bytes
from-next bytes i b h is = drop-cons bytes i 0 h ∙ rw (is, add-one) refl

module _ (bytes : List ℕ) (i b : ℕ) (within : i < length bytes) (is : b ≡ get_or bytes i 0) where
  -- a byte that belongs to the token before
  pub passed-part : (belong : ℕ) → 0 < belong → tokens_from belong i (drop i bytes) ≡ tokens_from (belong - 1) (i + 1) (drop (i + 1) bytes)
  passed-part belong some =
      let more : belong ≡ suc (belong - 1) = omega arith in
      ap (λ n. tokens_from n i (drop i bytes)) more ∙ ap (tokens_from (suc (belong - 1)) i) (from-next bytes i b within is)

  pub passed-lexeme : is_blank b ≡ false → tokens_from 0 i (drop i bytes) ≡ then_tokens i (first_lexeme (drop i bytes)) (λ more. tokens_from more (i + 1) (drop (i + 1) bytes))
  passed-lexeme blank =
      ap (tokens_from 0 i) (from-next bytes i b within is)
      ∙ rw blank refl
      ∙ ap (λ bs. then_tokens i (first_lexeme bs) (λ more. tokens_from more (i + 1) (drop (i + 1) bytes))) (sym (from-next bytes i b within is))

-- no bytes have no tokens
pub no-bytes : (belong place : ℕ) → tokens_from belong place [] ≡ Ok []
no-bytes zero place = refl
no-bytes (suc belong) place = refl

abbrev pub prepended : List Placed → Result (List Placed) FormulaFault → Result (List Placed) FormulaFault
prepended done (Ok ps) = Ok (done ++ ps)
prepended done (Err e) = Err e

prepended_more : (done : List Placed) (p : Placed) (r : Result (List Placed) FormulaFault) → prepended (done ++ p ∷ []) r ≡ prepended done (with_token p r)
prepended_more done p (Ok ps) = ap Ok (append_assoc done (p ∷ []) ps)
prepended_more done p (Err e) = refl

-- these tokens are read up to a place of the text
pub record Scanned (text : List ℕ) (done : List Placed) (belong i : ℕ) : Type 0 where
  pub same : prepended done (tokens_from belong i (drop i text)) ≡ tokens_of text

module _ (text : List ℕ) (done : List Placed) (belong i b : ℕ) (within : i < length text) (is : b ≡ get_or text i 0) (s : Scanned text done belong i) where
  pub scanned-part : 0 < belong → Scanned text done (belong - 1) (i + 1)
  scanned-part some = record { same = ap (prepended done) (sym (passed-part text i b within is belong some)) ∙ s.same }

  module _ (own : belong ≡ 0) where
    begun : prepended done (tokens_from 0 i (drop i text)) ≡ tokens_of text
    begun = ap (λ n. prepended done (tokens_from n i (drop i text))) (sym own) ∙ s.same

    module _ (blank : is_blank b ≡ false) where
      lexeme : (l : Lexeme) → l ≡ first_lexeme (drop i text) → prepended done (then_tokens i l (λ more. tokens_from more (i + 1) (drop (i + 1) text))) ≡ tokens_of text
      lexeme l found =
          ap (λ l. prepended done (then_tokens i l (λ more. tokens_from more (i + 1) (drop (i + 1) text)))) found
          ∙ ap (prepended done) (sym (passed-lexeme text i b within is blank)) ∙ begun

      pub scanned-token : (t : Token) (more : ℕ) → Found t more ≡ first_lexeme (drop i text) → Scanned text (done ++ record { token = t; byte = i } ∷ []) more (i + 1)
      scanned-token t more found = record { same = prepended_more done (record { token = t; byte = i }) (tokens_from more (i + 1) (drop (i + 1) text)) ∙ lexeme (Found t more) found }

      pub scanned-nothing : NoToken ≡ first_lexeme (drop i text) → tokens_of text ≡ Err (fault.Token i)
      scanned-nothing found = sym (lexeme NoToken found)

      pub scanned-bad : BadNumber ≡ first_lexeme (drop i text) → tokens_of text ≡ Err (fault.Number i)
      scanned-bad found = sym (lexeme BadNumber found)
