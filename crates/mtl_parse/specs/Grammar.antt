-- The grammar of formulas, as a relation between tokens and what they are.
use Rattle.std.specs.Prelude.{◌≡◌, ℕ, false, List, [], ◌∷◌, ◌++◌, codes, Option, Some, None}
use Rattle.mt_model.specs.declared.tree.Interval.{Interval}
use Rattle.mt_model.specs.Form.{Form, True, False, Prop, Not, And, Or, Implies, Until, Since, Eventually, Always, Once, Historically}
use Rattle.mt_model.specs.Name.{is_reserved}
use Rattle.mtl_parse.specs.Tokens.{Infix, U, S, Prefix, F, G, O, H, Token, Open, Close, OpenBracket, CloseBracket, Comma, Dot, Bang, Ampersand, Bar, Arrow, InfixLetter, PrefixLetter, Number, Word}

-- the formula that `U` or `S` makes of two
abbrev pub infix_form : Infix → Interval → Form → Form → Form
infix_form U I f g = Until I f g
infix_form S I f g = Since I f g

-- the formula that `F`, `G`, `O` or `H` makes of one
abbrev pub prefix_form : Prefix → Interval → Form → Form
prefix_form F I f = Eventually I f
prefix_form G I f = Always I f
prefix_form O I f = Once I f
prefix_form H I f = Historically I f

-- an interval by its bounds
abbrev pub from_to : ℕ → Option ℕ → Interval
from_to low high = record { low = low; high = high }

-- the tokens are the interval: no tokens are `[0,inf]`
pub data ReadsInterval : List Token → Interval → Type 0 where
  everything : ReadsInterval [] (from_to 0 None)
  bounded : (low high : ℕ) → ReadsInterval (OpenBracket ∷ Number low ∷ Comma ∷ Number high ∷ CloseBracket ∷ []) (from_to low (Some high))
  unbounded : (low : ℕ) → ReadsInterval (OpenBracket ∷ Number low ∷ Comma ∷ Word (codes "inf") ∷ CloseBracket ∷ []) (from_to low None)

-- the levels of the grammar, from the one that binds loosest
pub data Level : Type 0 where
  Implication : Level
  Disjunction : Level
  Conjunction : Level
  UntilOrSince : Level
  Unary : Level
  Atom : Level

-- the tokens are the formula, which is of the level
pub data Reads : Level → List Token → Form → Type 0 where
  -- `->` binds to the right
  implies : (left right ts : List Token) (f g : Form) → ts ≡ left ++ Arrow ∷ right → Reads Disjunction left f → Reads Implication right g → Reads Implication ts (Implies f g)
  implication : (ts : List Token) (f : Form) → Reads Disjunction ts f → Reads Implication ts f
  -- `|` binds to the left
  or : (left right ts : List Token) (f g : Form) → ts ≡ left ++ Bar ∷ right → Reads Disjunction left f → Reads Conjunction right g → Reads Disjunction ts (Or f g)
  disjunction : (ts : List Token) (f : Form) → Reads Conjunction ts f → Reads Disjunction ts f
  -- `&` binds to the left
  and : (left right ts : List Token) (f g : Form) → ts ≡ left ++ Ampersand ∷ right → Reads Conjunction left f → Reads UntilOrSince right g → Reads Conjunction ts (And f g)
  conjunction : (ts : List Token) (f : Form) → Reads UntilOrSince ts f → Reads Conjunction ts f
  -- `U` and `S` bind together, to the right
  timed : (op : Infix) (left interval right ts : List Token) (I : Interval) (f g : Form) → ts ≡ left ++ InfixLetter op ∷ interval ++ right
      → Reads Unary left f → ReadsInterval interval I → Reads UntilOrSince right g → Reads UntilOrSince ts (infix_form op I f g)
  until_or_since : (ts : List Token) (f : Form) → Reads Unary ts f → Reads UntilOrSince ts f
  not : (ts : List Token) (f : Form) → Reads Unary ts f → Reads Unary (Bang ∷ ts) (Not f)
  prefixed : (op : Prefix) (interval operand ts : List Token) (I : Interval) (f : Form) → ts ≡ PrefixLetter op ∷ interval ++ operand
      → ReadsInterval interval I → Reads Unary operand f → Reads Unary ts (prefix_form op I f)
  unary : (ts : List Token) (f : Form) → Reads Atom ts f → Reads Unary ts f
  constant_true : Reads Atom (Word (codes "true") ∷ []) True
  constant_false : Reads Atom (Word (codes "false") ∷ []) False
  -- the host of a proposition is not `true`, `false` or `inf`; its name is any word
  proposition : (host name : List ℕ) → is_reserved host ≡ false → Reads Atom (Word host ∷ Dot ∷ Word name ∷ []) (Prop host name)
  -- parentheses leave no trace
  parentheses : (inner ts : List Token) (f : Form) → ts ≡ Open ∷ inner ++ Close ∷ [] → Reads Implication inner f → Reads Atom ts f
