-- The formula that a text is, or its fault.
use Rattle.std.specs.Prelude.{◌≡◌, ◌≤◌, ◌<◌, ℕ, nat_lt, Bool, false, List, [], ◌∷◌, ◌++◌, length, map, Option, Some, None, Result, Ok, Err, if◌then◌else◌}
use Rattle.mt_model.specs.declared.limits.TheConstants.{MAX_HEIGHT}
use Rattle.mt_model.specs.Form.{Form, height_of}
use Rattle.mtl_parse.specs.declared.fault.FormulaFault.{FormulaFault}
use Rattle.mtl_parse.specs.declared.fault.FormulaFault.TheVariants as fault
use Rattle.mtl_parse.specs.Tokens.{Token, OpenBracket, Comma, Number, Placed, tokens_of}
use Rattle.mtl_parse.specs.Grammar.{Implication, Reads}

-- the tokens without their places
abbrev pub tokens_in : List Placed → List Token
tokens_in ps = map (λ p. p.token) ps

-- the tokens are a whole formula
abbrev pub Whole : List Placed → Type 0
Whole ps = (f : Form) × Reads Implication (tokens_in ps) f

-- some formula's tokens begin with these
abbrev pub Begins : List Placed → Type 0
Begins ps = (more : List Token) × (f : Form) × Reads Implication (tokens_in ps ++ more) f

-- p is the first token such that no formula's tokens begin with the tokens up to and including it, and these stand before it
pub record IsUnexpected (ps front : List Placed) (p : Placed) : Type 0 where
  pub after : List Placed
  pub parts : ps ≡ front ++ p ∷ after
  pub begins : Begins front
  pub unexpected : Begins (front ++ p ∷ []) → ⊥

-- a number below another begins the tokens
abbrev pub begins_below : ℕ → List Token → Bool
begins_below low (Number high ∷ ts) = nat_lt high low
begins_below low _ = false

-- a comma, and then a number below another
abbrev pub has_bound_below : ℕ → List Token → Bool
has_bound_below low (Comma ∷ ts) = begins_below low ts
has_bound_below low _ = false

-- a number, a comma, and then a number below the first
abbrev pub has_bounds_exchanged : List Token → Bool
has_bounds_exchanged (Number low ∷ ts) = has_bound_below low ts
has_bounds_exchanged _ = false

-- an interval whose first bound is above its second begins the tokens
abbrev pub begins_with_empty_interval : List Token → Bool
begins_with_empty_interval (OpenBracket ∷ ts) = has_bounds_exchanged ts
begins_with_empty_interval _ = false

-- the byte of the leftmost `[` of an interval whose first bound is above its second
abbrev pub first_empty_interval : List Placed → Option ℕ
first_empty_interval [] = None
first_empty_interval (p ∷ ps) = if begins_with_empty_interval (p.token ∷ tokens_in ps) then Some p.byte else first_empty_interval ps

-- the formula that the text is, or the first fault that it has in the order of the cases
pub data FormulaOf (text : List ℕ) : Result Form FormulaFault → Type 0 where
  -- some byte begins no token, or a number is out of form
  scanned_in_part : (f : FormulaFault) → tokens_of text ≡ Err f → FormulaOf text (Err f)
  empty : tokens_of text ≡ Ok [] → FormulaOf text (Err (fault.Empty 0))
  -- what stands before a token is a whole formula, and no formula goes on with the token
  trailing : (ps front : List Placed) (p : Placed) → tokens_of text ≡ Ok ps → IsUnexpected ps front p → Whole front → FormulaOf text (Err (fault.Trailing p.byte))
  -- no formula goes on with a token, and what stands before it is no whole formula
  unexpected : (ps front : List Placed) (p : Placed) → tokens_of text ≡ Ok ps → IsUnexpected ps front p → (Whole front → ⊥) → FormulaOf text (Err (fault.Expected p.byte))
  -- the text ends within a formula
  cut_short : (ps : List Placed) → tokens_of text ≡ Ok ps → (ps ≡ [] → ⊥) → Begins ps → (Whole ps → ⊥) → FormulaOf text (Err (fault.Expected (length text)))
  empty_interval : (ps : List Placed) (byte : ℕ) → tokens_of text ≡ Ok ps → Whole ps → first_empty_interval ps ≡ Some byte → FormulaOf text (Err (fault.EmptyInterval byte))
  too_deep : (ps : List Placed) (f : Form) → tokens_of text ≡ Ok ps → Reads Implication (tokens_in ps) f → first_empty_interval ps ≡ None → MAX_HEIGHT < height_of f → FormulaOf text (Err (fault.TooDeep 0))
  formula : (ps : List Placed) (f : Form) → tokens_of text ≡ Ok ps → Reads Implication (tokens_in ps) f → first_empty_interval ps ≡ None → height_of f ≤ MAX_HEIGHT → FormulaOf text (Ok f)
