-- The tokens of a text are those of which it is made.
use Rattle.std.proofs.Common.{◌≡◌, ◌∙◌, sym, ap, subst, refl, arith, ℕ, zero, suc, ◌+◌, ◌≤◌, Bool, true, false, List, [], ◌∷◌, ◌++◌, length, length-append, append-nil, drop, Result, Ok, Err}
use Rattle.std.specs.Prelude.{if◌then◌else◌}
use Rattle.mt_model.specs.Name.{is_digit}
use Rattle.mtl_parse.specs.declared.fault.FormulaFault.{FormulaFault}
use Rattle.mtl_parse.specs.declared.fault.FormulaFault.TheVariants as fault
use Rattle.mtl_parse.specs.Tokens.{Token, Placed, Lexeme, Found, NoToken, BadNumber, is_blank, lexeme_at, then_tokens, tokens_from, tokens_of, with_token}
use Rattle.mtl_parse.specs.Machine.{is_sound}
use Rattle.mtl_parse.specs.TokenTexts.{AreBlanksAndTokens, BeginsNoToken, HasFault, OtherTextsHaveFaults, TextsAreBlanksAndTokens, fault_at, nothing, blank, token, is_longest, token_text}
use Rattle.mtl_parse.proofs.PrintedTokens.{passed}
use Rattle.mtl_parse.proofs.Scanning.{prepended}
use Rattle.mtl_parse.proofs.SoundTokens.{SoundIfFound, lexeme_sound}
use Rattle.mtl_parse.proofs.TokenLexemes.{bad-digit, found-stands, no-digit, stands-found}

-- what is found is that of which the bytes are made

-- the bytes from a place to an end are blanks and the tokens that were found, or have the fault that was found
abbrev IsScan : (end place : ℕ) → List ℕ → Result (List Placed) FormulaFault → Type 0
IsScan end place bytes (Ok ps) = AreBlanksAndTokens end [] place bytes ps
IsScan end place bytes (Err f) = HasFault place bytes f

after_blank : (end place b : ℕ) (bs : List ℕ) (r : Result (List Placed) FormulaFault) → is_blank b ≡ true → IsScan end (place + 1) bs r → IsScan end place (b ∷ bs) r
after_blank end place b bs (Ok ps) test s = blank place b bs ps test s
after_blank end place b bs (Err f) test s = record {
  place = s.place;
  byte = s.byte;
  after = s.after;
  tokens = s.tokens;
  before = blank place b bs s.tokens test s.before;
  solid = s.solid;
  none = s.none;
  fault = s.fault;
}

after_token : (end place : ℕ) (t : Token) (after bytes : List ℕ) (r : Result (List Placed) FormulaFault) → bytes ≡ token_text t ++ after
    → is_sound t ≡ true → is_longest t after ≡ true → IsScan end (place + length (token_text t)) after r
    → IsScan end place bytes (with_token (record { token = t; byte = place }) r)
after_token end place t after bytes (Ok ps) text sound longest s = token place t after bytes ps text sound longest s
after_token end place t after bytes (Err f) text sound longest s = record {
  place = s.place;
  byte = s.byte;
  after = s.after;
  tokens = record { token = t; byte = place } ∷ s.tokens;
  before = token place t after bytes s.tokens text sound longest s.before;
  solid = s.solid;
  none = s.none;
  fault = s.fault;
}

-- where a token's text stands that is as long as it can be, it is found
not_found : (b : ℕ) (bs : List ℕ) → ((t : Token) (more : ℕ) → lexeme_at b bs ≡ Found t more → ⊥) → BeginsNoToken (b ∷ bs)
not_found b bs none t after text sound longest =
    let f = stands-found t after sound longest in
    let whole : b ∷ bs ≡ f.first ∷ f.more ++ after = text ∙ ap (λ u. u ++ after) f.text in
    let first : f.first ≡ b = cc in
    let rest : f.more ++ after ≡ bs = cc in
    none t (length f.more) (ap (λ c. lexeme_at c bs) (sym first) ∙ ap (lexeme_at f.first) (sym rest) ∙ f.found)

module _ (end place b : ℕ) (bs : List ℕ) (at : end ≡ place + 1 + length bs) (solid : is_blank b ≡ false) (on : (n next : ℕ) → next ≡ place + 1 + n → n ≤ length bs → IsScan end next (drop n bs) (tokens_from n (place + 1) bs)) where
  here : (f : FormulaFault) → ((t : Token) (more : ℕ) → lexeme_at b bs ≡ Found t more → ⊥) → f ≡ fault_at b place → HasFault place (b ∷ bs) f
  here f none is = record { place = place; byte = b; after = bs; tokens = []; before = nothing; solid = solid; none = not_found b bs none; fault = is }

  scan_at : (l : Lexeme) → lexeme_at b bs ≡ l → IsScan end place (b ∷ bs) (then_tokens place l (λ more. tokens_from more (place + 1) bs))
  scan_at (Found t more) found =
      let s = found-stands b bs t more found in
      let size = s.size in
      let sound : is_sound t ≡ true = subst SoundIfFound found (lexeme_sound b bs) in
      let within : more ≤ length bs = omega (arith, ap length s.text, length-append (token_text t) (drop more bs)) in
      after_token end place t (drop more bs) (b ∷ bs) (tokens_from more (place + 1) bs) s.text sound s.longest (on more (place + length (token_text t)) (omega arith) within)
  scan_at NoToken found =
      let other : is_digit b ≡ false = no-digit b bs found in
      here (fault.Token place) (λ t more is. let both : NoToken ≡ Found t more = sym found ∙ is in absurd (cc both)) (rw other refl)
  scan_at BadNumber found =
      let digit : is_digit b ≡ true = bad-digit b bs found in
      here (fault.Number place) (λ t more is. let both : BadNumber ≡ Found t more = sym found ∙ is in absurd (cc both)) (rw digit refl)

scan_from : (bytes : List ℕ) (belong place next end : ℕ) → next ≡ place + belong → end ≡ place + length bytes → belong ≤ length bytes
    → IsScan end next (drop belong bytes) (tokens_from belong place bytes)
scan_from [] zero place next end at ends within = let same : end ≡ next = omega arith in subst (λ n. AreBlanksAndTokens end [] n [] []) same nothing
scan_from [] (suc belong) place next end at ends within = absurd (omega arith)
scan_from (b ∷ bs) (suc belong) place next end at ends within = scan_from bs belong (place + 1) next end (omega arith) (omega arith) (omega arith)
scan_from (b ∷ bs) zero place next end at ends within =
    let same : place ≡ next = omega arith in
    subst (λ n. IsScan end n (b ∷ bs) (tokens_from 0 place (b ∷ bs))) same (by (λ n next at within. scan_from bs n (place + 1) next end at (omega arith) within) (is_blank b) refl)
  where
    by : ((n next : ℕ) → next ≡ place + 1 + n → n ≤ length bs → IsScan end next (drop n bs) (tokens_from n (place + 1) bs)) → (v : Bool) → is_blank b ≡ v
        → IsScan end place (b ∷ bs) (if v then tokens_from 0 (place + 1) bs else then_tokens place (lexeme_at b bs) (λ more. tokens_from more (place + 1) bs))
    by on true test = after_blank end place b bs (tokens_from 0 (place + 1) bs) test (on 0 (place + 1) (omega arith) (omega arith))
    by on false test = scan_at end place b bs (omega arith) test on (lexeme_at b bs) refl

scan : (text : List ℕ) → IsScan (length text) 0 text (tokens_of text)
scan text = scan_from text 0 0 0 (length text) (omega arith) (omega arith) (omega arith)

-- that of which the bytes are made is found

found_at : (place next b : ℕ) (inner after : List ℕ) (t : Token) (r : Result (List Placed) FormulaFault) → is_blank b ≡ false
    → lexeme_at b (inner ++ after) ≡ Found t (length inner) → next ≡ place + 1 + length inner → tokens_from 0 next after ≡ r
    → tokens_from 0 place (b ∷ inner ++ after) ≡ with_token (record { token = t; byte = place }) r
found_at place next b inner after t r solid found at rest = rw (solid, found) (ap (with_token (record { token = t; byte = place })) (passed inner after (place + 1) next at ∙ rest))

no_more : (r : Result (List Placed) FormulaFault) → prepended [] r ≡ r
no_more (Ok ps) = refl
no_more (Err f) = refl

one_more : (p : Placed) (ps : List Placed) (r : Result (List Placed) FormulaFault) → with_token p (prepended ps r) ≡ prepended (p ∷ ps) r
one_more p ps (Ok qs) = refl
one_more p ps (Err f) = refl

found_from : (end : ℕ) (rest : List ℕ) (place : ℕ) (bytes : List ℕ) (ps : List Placed) → AreBlanksAndTokens end rest place bytes ps → tokens_from 0 place bytes ≡ prepended ps (tokens_from 0 end rest)
found_from end rest place bytes ps nothing = sym (no_more (tokens_from 0 end rest))
found_from end rest place bytes ps (blank p b bs qs test are) = rw test (found_from end rest (p + 1) bs qs are)
found_from end rest place bytes ps (token p t after bs qs text sound longest are) =
    let f = stands-found t after sound longest in
    let size = ap length f.text in
    ap (tokens_from 0 p) (text ∙ ap (λ u. u ++ after) f.text)
    ∙ found_at p (p + length (token_text t)) f.first f.more after t (prepended qs (tokens_from 0 end rest)) f.solid f.found (omega arith) (found_from end rest (p + length (token_text t)) after qs are)
    ∙ one_more (record { token = t; byte = p }) qs (tokens_from 0 end rest)

-- a byte that is no blank and begins no token is a fault
faulty : (place b : ℕ) (bs : List ℕ) → is_blank b ≡ false → BeginsNoToken (b ∷ bs) → tokens_from 0 place (b ∷ bs) ≡ Err (fault_at b place)
faulty place b bs solid none = rw solid (by (lexeme_at b bs) refl)
  where
    by : (l : Lexeme) → lexeme_at b bs ≡ l → then_tokens place l (λ more. tokens_from more (place + 1) bs) ≡ Err (fault_at b place)
    by (Found t more) found =
        let s = found-stands b bs t more found in
        absurd (none t (drop more bs) s.text (subst SoundIfFound found (lexeme_sound b bs)) s.longest)
    by NoToken found = let other : is_digit b ≡ false = no-digit b bs found in rw other refl
    by BadNumber found = let digit : is_digit b ≡ true = bad-digit b bs found in rw digit refl

fault_from : (text : List ℕ) (f : FormulaFault) → HasFault 0 text f → tokens_of text ≡ Err f
fault_from text f s = found_from s.place (s.byte ∷ s.after) 0 text s.tokens s.before ∙ ap (prepended s.tokens) (faulty s.place s.byte s.after s.solid s.none) ∙ ap Err (sym s.fault)

pub blanks-and-tokens : TextsAreBlanksAndTokens
blanks-and-tokens text ps = (λ is. subst (IsScan (length text) 0 text) is (scan text), λ are. found_from (length text) [] 0 text ps are ∙ ap Ok (append-nil ps))

pub other-texts : OtherTextsHaveFaults
other-texts text f = (λ is. subst (IsScan (length text) 0 text) is (scan text), λ s. fault_from text f s)
