-- Formulas that are too high may be taken for one another while a text is read.
use Rattle.std.proofs.Common.{◌≡◌, ◌∙◌, sym, ap, refl, arith, zero, suc, ℕ, ◌+◌, ◌≤◌, ◌<◌, Bool, true, false, List, [], ◌∷◌, Option, Some, None, Result, Ok, Err, inl, inr}
use Rattle.std.specs.Prelude.{max, nat_le, not, if◌then◌else◌, option_map, bytes_eq, codes}
use Rattle.std.proofs.lemmas.Bool.{cases_Bool, le-leb, lt-leb, leb-true, leb-false}
use Rattle.mt_model.specs.declared.limits.TheConstants.{MAX_HEIGHT}
use Rattle.mt_model.specs.declared.tree.Interval.{Interval}
use Rattle.mt_model.specs.Form.{Form, Not, And, Or, Implies, height_of}
use Rattle.mtl_parse.specs.declared.fault.FormulaFault.{FormulaFault}
use Rattle.mtl_parse.specs.declared.fault.FormulaFault.TheVariants as fault
use Rattle.mtl_parse.specs.Tokens.{Infix, U, S, Prefix, F, G, O, H, Token, Close, CloseBracket, Comma, Dot, Ampersand, Bar, Arrow, InfixLetter, Number, Word, Placed}
use Rattle.mtl_parse.specs.Grammar.{prefix_form, infix_form, from_to}
use Rattle.mtl_parse.specs.Machine.{Letter, OfOne, OfTwo, Pending, Opened, Negation, Timed, LeftOfAnd, LeftOfOr, LeftOfImplies, Stage, Wanted, HostRead, DotRead, LetterRead, BracketRead, LowRead, CommaRead, HighRead, Read, State, Completed, after_word, applied, capped, closed, complete, finish, finished, has_opened, is_whole, left_of, letter_after, negations, read_after, read_all, refusal, step_at, step_comma, step_letter, step_read, step_result, step_wanted, strength, tall}
use Rattle.mtl_parse.proofs.Completeness.{plain}

negations_height : (n : ℕ) → height_of (negations n) ≡ n + 1
negations_height zero = refl
negations_height (suc n) = let inner = negations_height n in omega (arith, inner)

pub tall_high : MAX_HEIGHT < height_of tall
unfolding tall
tall_high = let h = negations_height 200 in omega (arith, h)

pub capped-low : (f : Form) → height_of f ≤ MAX_HEIGHT → capped f ≡ f
capped-low f h = ap (λ v. if v then f else tall) (le-leb (height_of f) MAX_HEIGHT h)

pub capped-high : (f : Form) → MAX_HEIGHT < height_of f → capped f ≡ tall
capped-high f h = ap (λ v. if v then f else tall) (lt-leb (height_of f) MAX_HEIGHT h)

-- a formula is low or high
pub data Fits (f : Form) : Type 0 where
  fits_in : height_of f ≤ MAX_HEIGHT → Fits f
  too_high : MAX_HEIGHT < height_of f → Fits f

pub fits : (f : Form) → Fits f
fits f = elim (cases_Bool (nat_le (height_of f) MAX_HEIGHT)) [
  | inl h ↦ fits_in (leb-true (height_of f) MAX_HEIGHT h)
  | inr h ↦ too_high (leb-false (height_of f) MAX_HEIGHT h)
]

capped_capped : (f : Form) → capped (capped f) ≡ capped f
capped_capped f = by (fits f)
  where
    by : Fits f → capped (capped f) ≡ capped f
    by (fits_in h) = ap capped (capped-low f h)
    by (too_high h) = ap capped (capped-high f h) ∙ capped-high tall tall_high ∙ sym (capped-high f h)

-- a node over one formula
over_one : (node : Form → Form) → ((f : Form) → height_of (node f) ≡ height_of f + 1) → (f : Form) → capped (node (capped f)) ≡ capped (node f)
over_one node heights f = by (fits f)
  where
    by : Fits f → capped (node (capped f)) ≡ capped (node f)
    by (fits_in h) = ap (λ g. capped (node g)) (capped-low f h)
    by (too_high h) =
        let t = tall_high in
        ap (λ g. capped (node g)) (capped-high f h)
        ∙ capped-high (node tall) (let e = heights tall in omega (arith, e, t))
        ∙ sym (capped-high (node f) (let e = heights f in omega (arith, e)))

over_two : (node : Form → Form → Form) → ((g f : Form) → height_of (node g f) ≡ max (height_of g) (height_of f) + 1) → (g f : Form) → capped (node (capped g) (capped f)) ≡ capped (node g f)
over_two node heights g f = right (fits f) ∙ left (fits g)
  where
    right : Fits f → capped (node (capped g) (capped f)) ≡ capped (node (capped g) f)
    right (fits_in h) = ap (λ x. capped (node (capped g) x)) (capped-low f h)
    right (too_high h) =
        let t = tall_high in
        ap (λ x. capped (node (capped g) x)) (capped-high f h)
        ∙ capped-high (node (capped g) tall) (let e = heights (capped g) tall in omega (arith, e, t))
        ∙ sym (capped-high (node (capped g) f) (let e = heights (capped g) f in omega (arith, e)))

    left : Fits g → capped (node (capped g) f) ≡ capped (node g f)
    left (fits_in h) = ap (λ x. capped (node x f)) (capped-low g h)
    left (too_high h) =
        let t = tall_high in
        ap (λ x. capped (node x f)) (capped-high g h)
        ∙ capped-high (node tall f) (let e = heights tall f in omega (arith, e, t))
        ∙ sym (capped-high (node g f) (let e = heights g f in omega (arith, e)))

height_before : (op : Prefix) (I : Interval) (f : Form) → height_of (prefix_form op I f) ≡ height_of f + 1
height_before F I f = refl
height_before G I f = refl
height_before O I f = refl
height_before H I f = refl

height_between : (op : Infix) (I : Interval) (g f : Form) → height_of (infix_form op I g f) ≡ max (height_of g) (height_of f) + 1
height_between U I g f = refl
height_between S I g f = refl

abbrev cap_letter : Letter → Letter
cap_letter (OfOne op) = OfOne op
cap_letter (OfTwo op f) = OfTwo op (capped f)

abbrev cap_pending : Pending → Pending
cap_pending Opened = Opened
cap_pending Negation = Negation
cap_pending (Timed l I) = Timed (cap_letter l) I
cap_pending (LeftOfAnd f) = LeftOfAnd (capped f)
cap_pending (LeftOfOr f) = LeftOfOr (capped f)
cap_pending (LeftOfImplies f) = LeftOfImplies (capped f)

abbrev cap_stack : List Pending → List Pending
cap_stack [] = []
cap_stack (p ∷ ps) = cap_pending p ∷ cap_stack ps

abbrev cap_stage : Stage → Stage
cap_stage Wanted = Wanted
cap_stage (HostRead host) = HostRead host
cap_stage (DotRead host) = DotRead host
cap_stage (LetterRead l) = LetterRead (cap_letter l)
cap_stage (BracketRead l) = BracketRead (cap_letter l)
cap_stage (LowRead l low) = LowRead (cap_letter l) low
cap_stage (CommaRead l low) = CommaRead (cap_letter l) low
cap_stage (HighRead l I) = HighRead (cap_letter l) I
cap_stage (Read f) = Read (capped f)

-- a state with each formula that is too high replaced
abbrev pub cap_state : State → State
cap_state s = record { stack = cap_stack s.stack; stage = cap_stage s.stage }

abbrev cap_completed : Completed → Completed
cap_completed c = record { stack = cap_stack c.stack; form = capped c.form }

abbrev pub cap_result : Result State FormulaFault → Result State FormulaFault
cap_result (Ok s) = Ok (cap_state s)
cap_result (Err e) = Err e

applied_capped : (p : Pending) (f : Form) → capped (applied (cap_pending p) (capped f)) ≡ capped (applied p f)
applied_capped Opened f = capped_capped f
applied_capped Negation f = over_one Not (λ f. refl) f
applied_capped (Timed (OfOne op) I) f = over_one (prefix_form op I) (height_before op I) f
applied_capped (Timed (OfTwo op g) I) f = over_two (infix_form op I) (height_between op I) g f
applied_capped (LeftOfAnd g) f = over_two And (λ g f. refl) g f
applied_capped (LeftOfOr g) f = over_two Or (λ g f. refl) g f
applied_capped (LeftOfImplies g) f = over_two Implies (λ g f. refl) g f

same_strength : (p : Pending) → strength (cap_pending p) ≡ strength p
same_strength Opened = refl
same_strength Negation = refl
same_strength (Timed (OfOne op) I) = refl
same_strength (Timed (OfTwo op g) I) = refl
same_strength (LeftOfAnd g) = refl
same_strength (LeftOfOr g) = refl
same_strength (LeftOfImplies g) = refl

complete_capped : (n : ℕ) (stack : List Pending) (f : Form) → complete capped n (cap_stack stack) (capped f) ≡ cap_completed (complete plain n stack f)
complete_capped n [] f = refl
complete_capped n (p ∷ ps) f =
    ap (λ k. if nat_le n k then complete capped n (cap_stack ps) (capped (applied (cap_pending p) (capped f))) else record { stack = cap_pending p ∷ cap_stack ps; form = capped f }) (same_strength p)
    ∙ ap (λ g. if nat_le n (strength p) then complete capped n (cap_stack ps) g else record { stack = cap_pending p ∷ cap_stack ps; form = capped f }) (applied_capped p f)
    ∙ by (complete_capped n ps (applied p f)) (nat_le n (strength p))
  where
    by : complete capped n (cap_stack ps) (capped (applied p f)) ≡ cap_completed (complete plain n ps (applied p f)) → (v : Bool)
        → (if v then complete capped n (cap_stack ps) (capped (applied p f)) else
        record { stack = cap_pending p ∷ cap_stack ps; form = capped f }) ≡ cap_completed
        (if v then complete plain n ps (applied p f) else record { stack = p ∷ ps; form = f })
    by h true = h
    by h false = refl

word_capped : (stack : List Pending) (word : List ℕ) → after_word (cap_stack stack) word ≡ option_map cap_state (after_word stack word)
word_capped stack word = elim (cases_Bool (bytes_eq word (codes "true"))) [
  | inl it ↦ rw it refl
  | inr first ↦ rw first (elim (cases_Bool (bytes_eq word (codes "false"))) [
    | inl it ↦ rw it refl
    | inr second ↦ rw second (elim (cases_Bool (bytes_eq word (codes "inf"))) [
      | inl it ↦ rw it refl
      | inr third ↦ rw third refl
    ])
  ])
]

wanted_capped : (stack : List Pending) (t : Token) → step_wanted (cap_stack stack) t ≡ option_map cap_state (step_wanted stack t)
wanted_capped stack (Word word) = word_capped stack word
wanted_capped stack _ = refl

letter_capped : (stack : List Pending) (l : Letter) (t : Token) → step_letter (cap_stack stack) (cap_letter l) t ≡ option_map cap_state (step_letter stack l t)
letter_capped stack l (Word word) = word_capped (Timed l (from_to 0 None) ∷ stack) word
letter_capped stack l _ = refl

inf_capped : (stack : List Pending) (l : Letter) (lo : ℕ) (word : List ℕ) → step_comma (cap_stack stack) (cap_letter l) lo (Word word) ≡ option_map cap_state (step_comma stack l lo (Word word))
inf_capped stack l lo word = elim (cases_Bool (bytes_eq word (codes "inf"))) [
  | inl it ↦ rw it refl
  | inr other ↦ rw other refl
]

closed_capped : (stack : List Pending) (f : Form) → closed (cap_completed (record { stack = stack; form = f })) ≡ option_map cap_state (closed (record { stack = stack; form = f }))
closed_capped [] f = refl
closed_capped (p ∷ ps) f = refl

read_capped : (stack : List Pending) (f : Form) (t : Token) → step_read capped (cap_stack stack) (capped f) t ≡ option_map cap_state (step_read plain stack f t)
read_capped stack f Close = ap closed (complete_capped 1 stack f) ∙ closed_capped (complete plain 1 stack f).stack (complete plain 1 stack f).form
read_capped stack f Ampersand = ap (left_of LeftOfAnd) (complete_capped 3 stack f)
read_capped stack f Bar = ap (left_of LeftOfOr) (complete_capped 2 stack f)
read_capped stack f Arrow = ap (left_of LeftOfImplies) (complete_capped 2 stack f)
read_capped stack f (InfixLetter op) = ap (letter_after op) (complete_capped 5 stack f)
read_capped stack f _ = refl

host_capped : (stack : List Pending) (host : List ℕ) (t : Token) → step_at capped (cap_stack stack) (HostRead host) t ≡ option_map cap_state (step_at plain stack (HostRead host) t)
host_capped stack host Dot = refl
host_capped stack host _ = refl

dot_capped : (stack : List Pending) (host : List ℕ) (t : Token) → step_at capped (cap_stack stack) (DotRead host) t ≡ option_map cap_state (step_at plain stack (DotRead host) t)
dot_capped stack host (Word name) = refl
dot_capped stack host _ = refl

bracket_capped : (stack : List Pending) (l : Letter) (t : Token) → step_at capped (cap_stack stack) (BracketRead (cap_letter l)) t ≡ option_map cap_state (step_at plain stack (BracketRead l) t)
bracket_capped stack l (Number n) = refl
bracket_capped stack l _ = refl

low_capped : (stack : List Pending) (l : Letter) (lo : ℕ) (t : Token) → step_at capped (cap_stack stack) (LowRead (cap_letter l) lo) t ≡ option_map cap_state (step_at plain stack (LowRead l lo) t)
low_capped stack l lo Comma = refl
low_capped stack l lo _ = refl

comma_capped : (stack : List Pending) (l : Letter) (lo : ℕ) (t : Token)
    → step_at capped (cap_stack stack) (CommaRead (cap_letter l) lo) t ≡ option_map cap_state (step_at plain stack (CommaRead l lo) t)
comma_capped stack l lo (Word word) = inf_capped stack l lo word
comma_capped stack l lo _ = refl

high_capped : (stack : List Pending) (l : Letter) (I : Interval) (t : Token)
    → step_at capped (cap_stack stack) (HighRead (cap_letter l) I) t ≡ option_map cap_state (step_at plain stack (HighRead l I) t)
high_capped stack l I CloseBracket = refl
high_capped stack l I _ = refl

step_capped : (stack : List Pending) (stage : Stage) (t : Token) → step_at capped (cap_stack stack) (cap_stage stage) t ≡ option_map cap_state (step_at plain stack stage t)
step_capped stack Wanted = wanted_capped stack
step_capped stack (HostRead host) = host_capped stack host
step_capped stack (DotRead host) = dot_capped stack host
step_capped stack (LetterRead l) = letter_capped stack l
step_capped stack (BracketRead l) = bracket_capped stack l
step_capped stack (LowRead l lo) = low_capped stack l lo
step_capped stack (CommaRead l lo) = comma_capped stack l lo
step_capped stack (HighRead l I) = high_capped stack l I
step_capped stack (Read f) = read_capped stack f

opened_capped : (stack : List Pending) → has_opened (cap_stack stack) ≡ has_opened stack
opened_capped [] = refl
opened_capped (Opened ∷ ps) = refl
opened_capped (Negation ∷ ps) = opened_capped ps
opened_capped (Timed l I ∷ ps) = opened_capped ps
opened_capped (LeftOfAnd f ∷ ps) = opened_capped ps
opened_capped (LeftOfOr f ∷ ps) = opened_capped ps
opened_capped (LeftOfImplies f ∷ ps) = opened_capped ps

whole_capped : (stack : List Pending) (stage : Stage) → is_whole (record { stack = cap_stack stack; stage = cap_stage stage }) ≡ is_whole (record { stack = stack; stage = stage })
whole_capped stack (Read f) = ap not (opened_capped stack)
whole_capped stack _ = refl

-- the tokens of a text are read in the same way
pub read_all_capped : (ps : List Placed) (s : State) → read_all capped (cap_state s) ps ≡ cap_result (read_all plain s ps)
read_all_capped [] s = refl
read_all_capped (p ∷ ps) s =
    ap (λ v. read_after (step_result (step_at capped (cap_stack s.stack) (cap_stage s.stage) p.token)
    (if v then fault.Trailing p.byte else fault.Expected p.byte)) (λ n. read_all capped n ps)) (whole_capped s.stack s.stage)
    ∙ ap (λ o. read_after (step_result o (refusal s p.byte)) (λ n. read_all capped n ps)) (step_capped s.stack s.stage p.token)
    ∙ by (read_all_capped ps) (step_at plain s.stack s.stage p.token)
  where
    by : ((n : State) → read_all capped (cap_state n) ps ≡ cap_result (read_all plain n ps)) → (o : Option State)
        → read_after (step_result (option_map cap_state o) (refusal s p.byte)) (λ n. read_all capped n ps) ≡ cap_result (read_after (step_result o (refusal s p.byte)) (λ n. read_all plain n ps))
    by on None = refl
    by on (Some n) = on n

finished_capped : (stack : List Pending) (f : Form) → finished (cap_completed (record { stack = stack; form = f })) ≡ option_map capped (finished (record { stack = stack; form = f }))
finished_capped [] f = refl
finished_capped (p ∷ ps) f = refl

-- and so is their end
pub finish_capped : (stack : List Pending) (stage : Stage)
    → finish capped (record { stack = cap_stack stack; stage = cap_stage stage }) ≡ option_map capped (finish plain (record { stack = stack; stage = stage }))
finish_capped stack (Read f) = ap finished (complete_capped 1 stack f) ∙ finished_capped (complete plain 1 stack f).stack (complete plain 1 stack f).form
finish_capped stack _ = refl
