-- How a formula is read token by token, without recursion over what it nests.
use Rattle.std.specs.Prelude.{◌||◌, ℕ, nat_le, not, Bool, true, false, List, [], ◌∷◌, Option, Some, None, Result, Ok, Err, if◌then◌else◌, option_map, bytes_eq, codes}
use Rattle.std.proofs.Common.{zero, suc}
use Rattle.mt_model.specs.declared.limits.TheConstants.{MAX_DISTANCE, MAX_HEIGHT}
use Rattle.mt_model.specs.declared.tree.Interval.{Interval}
use Rattle.mt_model.specs.Form.{Form, True, False, Prop, Not, And, Or, Implies, height_of}
use Rattle.mt_model.specs.Name.{is_name}
use Rattle.mtl_parse.specs.declared.fault.FormulaFault.{FormulaFault}
use Rattle.mtl_parse.specs.declared.fault.FormulaFault.TheVariants as fault
use Rattle.mtl_parse.specs.Tokens.{Infix, Prefix, Token, Open, Close, OpenBracket, CloseBracket, Comma, Dot, Bang, Ampersand, Bar, Arrow, InfixLetter, PrefixLetter, Number, Word, Placed}
use Rattle.mtl_parse.specs.Grammar.{prefix_form, infix_form, from_to}

-- a letter that was read: `F`, `G`, `O` or `H`, or the left side of a `U` or `S`
pub data Letter : Type 0 where
  OfOne : Prefix → Letter
  OfTwo : Infix → Form → Letter

-- what stands before an operand and waits for it
pub data Pending : Type 0 where
  Opened : Pending
  Negation : Pending
  Timed : Letter → Interval → Pending
  LeftOfAnd : Form → Pending
  LeftOfOr : Form → Pending
  LeftOfImplies : Form → Pending

-- the formula that a letter with its interval makes of its operand
abbrev pub timed : Letter → Interval → Form → Form
timed (OfOne op) I f = prefix_form op I f
timed (OfTwo op g) I f = infix_form op I g f

-- what was pending, with its operand
abbrev pub applied : Pending → Form → Form
applied Opened f = f
applied Negation f = Not f
applied (Timed l I) f = timed l I f
applied (LeftOfAnd g) f = And g f
applied (LeftOfOr g) f = Or g f
applied (LeftOfImplies g) f = Implies g f

-- how tightly a letter binds
abbrev pub letter_strength : Letter → ℕ
letter_strength (OfOne op) = 5
letter_strength (OfTwo op f) = 4

-- how tightly what is pending binds: the more, the tighter
abbrev pub strength : Pending → ℕ
strength Opened = 0
strength Negation = 5
strength (Timed l I) = letter_strength l
strength (LeftOfAnd f) = 3
strength (LeftOfOr f) = 2
strength (LeftOfImplies f) = 1

-- it is an open parenthesis
abbrev pub is_opened : Pending → Bool
is_opened Opened = true
is_opened _ = false

-- a parenthesis is open
abbrev pub has_opened : List Pending → Bool
has_opened [] = false
has_opened (p ∷ ps) = is_opened p || has_opened ps

-- what the last tokens were
pub data Stage : Type 0 where
  Wanted : Stage
  HostRead : (host : List ℕ) → Stage
  DotRead : (host : List ℕ) → Stage
  LetterRead : Letter → Stage
  BracketRead : Letter → Stage
  LowRead : Letter → (low : ℕ) → Stage
  CommaRead : Letter → (low : ℕ) → Stage
  HighRead : Letter → Interval → Stage
  Read : Form → Stage

-- what was read: what is pending, the innermost first, and the last tokens
pub record State : Type 0 where
  pub stack : List Pending
  pub stage : Stage

-- an operand with what is still pending before it
pub record Completed : Type 0 where
  pub stack : List Pending
  pub form : Form

-- nothing is read
abbrev pub begin : State
begin = record { stack = []; stage = Wanted }

-- the state of these parts
abbrev pub at_stage : List Pending → Stage → Option State
at_stage stack stage = Some (record { stack = stack; stage = stage })

-- an operand, with all that is pending before it and binds at least so tightly; each formula that is made is capped
abbrev pub complete : (Form → Form) → ℕ → List Pending → Form → Completed
complete cap n [] f = record { stack = []; form = f }
complete cap n (p ∷ ps) f = if nat_le n (strength p) then complete cap n ps (cap (applied p f)) else record { stack = p ∷ ps; form = f }

-- the innermost of what is pending binds at least so tightly
abbrev pub top_binds : ℕ → List Pending → Bool
top_binds n [] = false
top_binds n (p ∷ ps) = nat_le n (strength p)

-- after a word where an operand is wanted
abbrev pub after_word : List Pending → List ℕ → Option State
after_word stack word =
    if bytes_eq word (codes "true") then at_stage stack (Read True)
    else if bytes_eq word (codes "false") then at_stage stack (Read False)
    else if bytes_eq word (codes "inf") then None
    else at_stage stack (HostRead word)

-- after a token where an operand is wanted
abbrev pub step_wanted : List Pending → Token → Option State
step_wanted stack Open = at_stage (Opened ∷ stack) Wanted
step_wanted stack Bang = at_stage (Negation ∷ stack) Wanted
step_wanted stack (PrefixLetter op) = at_stage stack (LetterRead (OfOne op))
step_wanted stack (Word word) = after_word stack word
step_wanted stack _ = None

-- after a token behind a host
abbrev pub step_host : List Pending → List ℕ → Token → Option State
step_host stack host Dot = at_stage stack (DotRead host)
step_host stack host _ = None

-- after a token behind a host and its dot
abbrev pub step_dot : List Pending → List ℕ → Token → Option State
step_dot stack host (Word name) = at_stage stack (Read (Prop host name))
step_dot stack host _ = None

-- a letter without an interval is one of `[0,inf]`
abbrev pub step_letter : List Pending → Letter → Token → Option State
step_letter stack l OpenBracket = at_stage stack (BracketRead l)
step_letter stack l t = step_wanted (Timed l (from_to 0 None) ∷ stack) t

-- after a token behind a letter and `[`
abbrev pub step_bracket : List Pending → Letter → Token → Option State
step_bracket stack l (Number low) = at_stage stack (LowRead l low)
step_bracket stack l _ = None

-- after a token behind these and the lower bound
abbrev pub step_low : List Pending → Letter → ℕ → Token → Option State
step_low stack l low Comma = at_stage stack (CommaRead l low)
step_low stack l low _ = None

-- the upper bound that a token is, and none for `inf`
abbrev pub high_bound : Token → Option (Option ℕ)
high_bound (Number high) = Some (Some high)
high_bound (Word word) = if bytes_eq word (codes "inf") then Some None else None
high_bound _ = None

-- after a token behind these and the comma
abbrev pub step_comma : List Pending → Letter → ℕ → Token → Option State
step_comma stack l low t = option_map (λ high. record { stack = stack; stage = HighRead l (from_to low high) }) (high_bound t)

-- after a token behind these and the upper bound
abbrev pub step_high : List Pending → Letter → Interval → Token → Option State
step_high stack l I CloseBracket = at_stage (Timed l I ∷ stack) Wanted
step_high stack l I _ = None

-- an operand becomes the left side of what follows it
abbrev pub left_of : (Form → Pending) → Completed → Option State
left_of side c = at_stage (side c.form ∷ c.stack) Wanted

-- a letter with its left side
abbrev pub letter_after : Infix → Completed → Option State
letter_after op c = at_stage c.stack (LetterRead (OfTwo op c.form))

-- the last parenthesis is closed, if one is open
abbrev pub closed_at : List Pending → Form → Option State
closed_at [] f = None
closed_at (p ∷ ps) f = at_stage ps (Read f)

-- the same for an operand that is complete
abbrev pub closed : Completed → Option State
closed c = closed_at c.stack c.form

-- after a token behind an operand: `&` and `|` complete what binds as tightly, `U`, `S` and `->` do not
abbrev pub step_read : (Form → Form) → List Pending → Form → Token → Option State
step_read cap stack f Close = closed (complete cap 1 stack f)
step_read cap stack f Ampersand = left_of LeftOfAnd (complete cap 3 stack f)
step_read cap stack f Bar = left_of LeftOfOr (complete cap 2 stack f)
step_read cap stack f Arrow = left_of LeftOfImplies (complete cap 2 stack f)
step_read cap stack f (InfixLetter op) = letter_after op (complete cap 5 stack f)
step_read cap stack f _ = None

-- after a token at any stage
abbrev pub step_at : (Form → Form) → List Pending → Stage → Token → Option State
step_at cap stack Wanted = step_wanted stack
step_at cap stack (HostRead host) = step_host stack host
step_at cap stack (DotRead host) = step_dot stack host
step_at cap stack (LetterRead l) = step_letter stack l
step_at cap stack (BracketRead l) = step_bracket stack l
step_at cap stack (LowRead l low) = step_low stack l low
step_at cap stack (CommaRead l low) = step_comma stack l low
step_at cap stack (HighRead l I) = step_high stack l I
step_at cap stack (Read f) = step_read cap stack f

-- the state after one more token
abbrev pub step : (Form → Form) → State → Token → Option State
step cap s = step_at cap s.stack s.stage

-- the formula, if nothing is pending before it
abbrev pub finished_at : List Pending → Form → Option Form
finished_at [] f = Some f
finished_at (p ∷ ps) f = None

-- the same for an operand that is complete
abbrev pub finished : Completed → Option Form
finished c = finished_at c.stack c.form

-- the formula at a stage
abbrev pub finish_at : (Form → Form) → List Pending → Stage → Option Form
finish_at cap stack (Read f) = finished (complete cap 1 stack f)
finish_at cap stack _ = None

-- the formula that was read, where nothing is left open
abbrev pub finish : (Form → Form) → State → Option Form
finish cap s = finish_at cap s.stack s.stage

-- an operand was read and no parenthesis is open
abbrev pub is_whole_at : List Pending → Stage → Bool
is_whole_at stack (Read f) = not (has_opened stack)
is_whole_at stack _ = false

-- the tokens that were read are a formula
abbrev pub is_whole : State → Bool
is_whole s = is_whole_at s.stack s.stage

-- the fault of a token at a byte, behind an operand: where a parenthesis is open something else was expected, else the formula ends before it
abbrev pub refusal_behind : List Pending → ℕ → FormulaFault
refusal_behind stack byte = if not (has_opened stack) then fault.Trailing byte else fault.Expected byte

-- the fault of a token at a byte, which no formula goes on with
abbrev pub refusal : State → ℕ → FormulaFault
refusal s byte = if is_whole s then fault.Trailing byte else fault.Expected byte

-- a state, or the fault where there is none
abbrev pub step_result : Option State → FormulaFault → Result State FormulaFault
step_result (Some s) f = Ok s
step_result None f = Err f

-- the state after one more token, or its fault
abbrev pub read_one : (Form → Form) → State → Placed → Result State FormulaFault
read_one cap s p = step_result (step cap s p.token) (refusal s p.byte)

-- what is read after a state, if there is one
abbrev pub read_after : Result State FormulaFault → (State → Result State FormulaFault) → Result State FormulaFault
read_after (Ok s) go_on = go_on s
read_after (Err f) go_on = Err f

-- the state after more tokens, or the fault of the first that is refused
abbrev pub read_all : (Form → Form) → State → List Placed → Result State FormulaFault
read_all cap s [] = Ok s
read_all cap s (p ∷ ps) = read_after (read_one cap s p) (λ next. read_all cap next ps)

-- the formula that was read, or the end of the text as the place where more was expected
abbrev pub ended : ℕ → Option Form → Result Form FormulaFault
ended end (Some f) = Ok f
ended end None = Err (fault.Expected end)

-- the same after the tokens, if none is refused
abbrev pub ended_after : (Form → Form) → ℕ → Result State FormulaFault → Result Form FormulaFault
ended_after cap end (Ok s) = ended end (finish cap s)
ended_after cap end (Err f) = Err f

-- the formula that the tokens of a text with this end are, or the fault of the first that is refused
abbrev pub read_whole : (Form → Form) → ℕ → List Placed → Result Form FormulaFault
read_whole cap end ps = ended_after cap end (read_all cap begin ps)

-- signs `!` before `true`
abbrev pub negations : ℕ → Form
negations zero = True
negations (suc n) = Not (negations n)

-- a formula higher than 200
unfoldable pub tall : Form
tall = negations 200

-- one formula stands for all that are higher than 200
abbrev pub capped : Form → Form
capped f = if nat_le (height_of f) MAX_HEIGHT then f else tall

-- a word is a name, and a number at most 10^18
abbrev pub is_sound : Token → Bool
is_sound (Word word) = is_name word
is_sound (Number value) = nat_le value MAX_DISTANCE
is_sound _ = true
