-- From each state some tokens lead to a formula.
use Rattle.std.proofs.Common.{◌≡◌, ◌∙◌, refl, arith, ◌≤◌, List, [], ◌∷◌, Some, None}
use Rattle.std.specs.Prelude.{codes, is_some, not}
use Rattle.mt_model.specs.Form.{Form, True, Prop}
use Rattle.mtl_parse.specs.Tokens.{Token, Close, CloseBracket, Comma, Dot, Number, Word}
use Rattle.mtl_parse.specs.Grammar.{from_to}
use Rattle.mtl_parse.specs.Machine.{OfOne, OfTwo, Pending, Opened, Negation, Timed, LeftOfAnd, LeftOfOr, LeftOfImplies, Stage, Wanted, HostRead, DotRead, LetterRead, BracketRead, LowRead, CommaRead, HighRead, Read, State, applied, complete, finish, finished, has_opened, is_whole, strength}
use Rattle.mtl_parse.proofs.Completeness.{completes_first, join, plain, read, run}

-- tokens that close what is open
record Closes (stack : List Pending) (f : Form) : Type 0 where
  more : List Token
  form : Form
  leads : run (read stack f) more ≡ Some form
  first : completes_first more ≤ 1

closes_on : (p : Pending) (ps : List Pending) (f : Form) → 1 ≤ strength p → Closes ps (applied p f) → Closes (p ∷ ps) f
closes_on p ps f strong c = let first = c.first in record { more = c.more; form = c.form; leads = join p ps f c.more (omega arith) strong ∙ c.leads; first = first }

closes : (stack : List Pending) (f : Form) → Closes stack f
closes [] f = record { more = []; form = f; leads = refl; first = omega arith }
closes (Opened ∷ ps) f = let c = closes ps f in record { more = Close ∷ c.more; form = c.form; leads = c.leads; first = omega arith }
closes (Negation ∷ ps) f = closes_on Negation ps f (omega arith) (closes ps (applied Negation f))
closes (Timed (OfOne op) I ∷ ps) f = closes_on (Timed (OfOne op) I) ps f (omega arith) (closes ps (applied (Timed (OfOne op) I) f))
closes (Timed (OfTwo op g) I ∷ ps) f = closes_on (Timed (OfTwo op g) I) ps f (omega arith) (closes ps (applied (Timed (OfTwo op g) I) f))
closes (LeftOfAnd g ∷ ps) f = closes_on (LeftOfAnd g) ps f (omega arith) (closes ps (applied (LeftOfAnd g) f))
closes (LeftOfOr g ∷ ps) f = closes_on (LeftOfOr g) ps f (omega arith) (closes ps (applied (LeftOfOr g) f))
closes (LeftOfImplies g ∷ ps) f = closes_on (LeftOfImplies g) ps f (omega arith) (closes ps (applied (LeftOfImplies g) f))

pub record Reaches (s : State) : Type 0 where
  pub more : List Token
  pub form : Form
  pub leads : run s more ≡ Some form

pub reaches : (stack : List Pending) (stage : Stage) → Reaches (record { stack = stack; stage = stage })
reaches stack Wanted = let c = closes stack True in record { more = Word (codes "true") ∷ c.more; form = c.form; leads = c.leads }
reaches stack (HostRead host) = let c = closes stack (Prop host (codes "true")) in record { more = Dot ∷ Word (codes "true") ∷ c.more; form = c.form; leads = c.leads }
reaches stack (DotRead host) = let c = closes stack (Prop host (codes "true")) in record { more = Word (codes "true") ∷ c.more; form = c.form; leads = c.leads }
reaches stack (LetterRead l) = let c = closes (Timed l (from_to 0 None) ∷ stack) True in record { more = Word (codes "true") ∷ c.more; form = c.form; leads = c.leads }
reaches stack (BracketRead l) = let c = closes (Timed l (from_to 0 None) ∷ stack) True in record { more = Number 0 ∷ Comma ∷ Word (codes "inf") ∷ CloseBracket ∷ Word (codes "true") ∷ c.more; form = c.form; leads = c.leads }
reaches stack (LowRead l low) = let c = closes (Timed l (from_to low None) ∷ stack) True in record { more = Comma ∷ Word (codes "inf") ∷ CloseBracket ∷ Word (codes "true") ∷ c.more; form = c.form; leads = c.leads }
reaches stack (CommaRead l low) = let c = closes (Timed l (from_to low None) ∷ stack) True in record { more = Word (codes "inf") ∷ CloseBracket ∷ Word (codes "true") ∷ c.more; form = c.form; leads = c.leads }
reaches stack (HighRead l I) = let c = closes (Timed l I ∷ stack) True in record { more = CloseBracket ∷ Word (codes "true") ∷ c.more; form = c.form; leads = c.leads }
reaches stack (Read f) = let c = closes stack f in record { more = c.more; form = c.form; leads = c.leads }

pub nothing_open : (cap : Form → Form) (stack : List Pending) (f : Form) → is_some (finished (complete cap 1 stack f)) ≡ not (has_opened stack)
nothing_open cap [] f = refl
nothing_open cap (Opened ∷ ps) f = refl
nothing_open cap (Negation ∷ ps) f = nothing_open cap ps (cap (applied Negation f))
nothing_open cap (Timed (OfOne op) I ∷ ps) f = nothing_open cap ps (cap (applied (Timed (OfOne op) I) f))
nothing_open cap (Timed (OfTwo op g) I ∷ ps) f = nothing_open cap ps (cap (applied (Timed (OfTwo op g) I) f))
nothing_open cap (LeftOfAnd g ∷ ps) f = nothing_open cap ps (cap (applied (LeftOfAnd g) f))
nothing_open cap (LeftOfOr g ∷ ps) f = nothing_open cap ps (cap (applied (LeftOfOr g) f))
nothing_open cap (LeftOfImplies g ∷ ps) f = nothing_open cap ps (cap (applied (LeftOfImplies g) f))

-- a state is whole where it gives a formula
pub whole : (stack : List Pending) (stage : Stage) → is_some (finish plain (record { stack = stack; stage = stage })) ≡ is_whole (record { stack = stack; stage = stage })
whole stack (Read f) = nothing_open plain stack f
whole stack _ = refl
