-- A formula's tokens lead to it.
use Rattle.std.proofs.Common.{◌≡◌, ◌∙◌, sym, ap, refl, arith, ℕ, ◌≤◌, ◌<◌, Bool, true, false, List, [], ◌∷◌, ◌++◌, append_assoc, append-nil, Option, Some, None}
use Rattle.std.specs.Prelude.{◌||◌, nat_le, bytes_eq, codes, option_and_then}
use Rattle.mt_model.specs.declared.tree.Interval.{Interval}
use Rattle.mt_model.specs.Form.{Form}
use Rattle.mt_model.specs.Name.{is_reserved}
use Rattle.mtl_parse.specs.Tokens.{Infix, Token, Open, Close, OpenBracket, CloseBracket, Comma, Dot, Bang, Ampersand, Bar, Arrow, InfixLetter, PrefixLetter, Number, Word}
use Rattle.mtl_parse.specs.Grammar.{Level, Implication, Disjunction, Conjunction, UntilOrSince, Unary, Atom, Reads, ReadsInterval, from_to, everything, bounded, unbounded, implies, implication, or, disjunction, and, conjunction, timed, until_or_since, not, prefixed, unary, constant_true, constant_false, proposition, parentheses}
use Rattle.mtl_parse.specs.Machine.{Letter, OfOne, OfTwo, Pending, Opened, Negation, Timed, LeftOfAnd, LeftOfOr, LeftOfImplies, Wanted, HostRead, LetterRead, Read, State, after_word, applied, at_stage, begin, closed, complete, finish, finished, left_of, letter_after, step, strength}
use Rattle.std.proofs.lemmas.Bool.{le-leb, lt-leb}

abbrev pub plain : Form → Form
plain f = f

-- the formula that the state and the tokens after it give
abbrev pub run : State → List Token → Option Form
run s [] = finish plain s
run s (t ∷ ts) = option_and_then (λ next. run next ts) (step plain s t)

abbrev pub wanted : List Pending → State
wanted stack = record { stack = stack; stage = Wanted }

abbrev pub read : List Pending → Form → State
read stack f = record { stack = stack; stage = Read f }

-- what binds at least so tightly is complete before the token
abbrev pub completes : Token → ℕ
completes Close = 1
completes Ampersand = 3
completes Bar = 2
completes Arrow = 2
completes (InfixLetter op) = 5
completes _ = 0

-- the same for the first of tokens, and for their end
abbrev pub completes_first : List Token → ℕ
completes_first [] = 1
completes_first (t ∷ ts) = completes t

abbrev pub top_strength : List Pending → ℕ
top_strength [] = 0
top_strength (p ∷ ps) = strength p

-- the most that the tokens after a formula of the level may complete
abbrev pub rank : Level → ℕ
rank Implication = 1
rank Disjunction = 2
rank Conjunction = 3
rank UntilOrSince = 4
rank Unary = 5
rank Atom = 6

-- what stands before a formula of the level binds less tightly
abbrev entry : Level → ℕ
entry Implication = 2
entry Disjunction = 2
entry Conjunction = 3
entry UntilOrSince = 5
entry Unary = 6
entry Atom = 6

-- what is pending and binds less tightly stays
pub kept : (n : ℕ) (stack : List Pending) (f : Form) → top_strength stack < n → complete plain n stack f ≡ record { stack = stack; form = f }
kept n [] f h = refl
kept n (p ∷ ps) f h = let less : nat_le n (strength p) ≡ false = lt-leb n (strength p) h in rw less refl

popped : (n : ℕ) (p : Pending) (stack : List Pending) (f : Form) → n ≤ strength p → complete plain n (p ∷ stack) f ≡ complete plain n stack (applied p f)
popped n p stack f h = let more : nat_le n (strength p) ≡ true = le-leb n (strength p) h in rw more refl

-- what is pending is complete before such tokens
pub join : (p : Pending) (stack : List Pending) (f : Form) (rest : List Token) → completes_first rest ≤ strength p → 0 < strength p
    → run (read (p ∷ stack) f) rest ≡ run (read stack (applied p f)) rest
join p stack f [] h some = ap finished (popped 1 p stack f h)
join p stack f (Open ∷ ts) h some = refl
join p stack f (Close ∷ ts) h some = ap (λ c. option_and_then (λ next. run next ts) (closed c)) (popped 1 p stack f h)
join p stack f (OpenBracket ∷ ts) h some = refl
join p stack f (CloseBracket ∷ ts) h some = refl
join p stack f (Comma ∷ ts) h some = refl
join p stack f (Dot ∷ ts) h some = refl
join p stack f (Bang ∷ ts) h some = refl
join p stack f (Ampersand ∷ ts) h some = ap (λ c. option_and_then (λ next. run next ts) (left_of LeftOfAnd c)) (popped 3 p stack f h)
join p stack f (Bar ∷ ts) h some = ap (λ c. option_and_then (λ next. run next ts) (left_of LeftOfOr c)) (popped 2 p stack f h)
join p stack f (Arrow ∷ ts) h some = ap (λ c. option_and_then (λ next. run next ts) (left_of LeftOfImplies c)) (popped 2 p stack f h)
join p stack f (InfixLetter op ∷ ts) h some = ap (λ c. option_and_then (λ next. run next ts) (letter_after op c)) (popped 5 p stack f h)
join p stack f (PrefixLetter op ∷ ts) h some = refl
join p stack f (Number n ∷ ts) h some = refl
join p stack f (Word word ∷ ts) h some = refl

abbrev is_bracket : Token → Bool
is_bracket OpenBracket = true
is_bracket _ = false

abbrev begins_with_bracket : List Token → Bool
begins_with_bracket [] = false
begins_with_bracket (t ∷ ts) = is_bracket t

-- what begins with something begins as it does
along : (left more ts rest : List Token) → ts ≡ left ++ more → ((xs : List Token) → begins_with_bracket (left ++ xs) ≡ false) → begins_with_bracket (ts ++ rest) ≡ false
along left more ts rest e begins = ap (λ xs. begins_with_bracket (xs ++ rest)) e ∙ ap begins_with_bracket (append_assoc left more rest) ∙ begins (more ++ rest)

-- a formula does not begin with `[`
no_bracket : {level : Level} {ts : List Token} {f : Form} → Reads level ts f → (rest : List Token) → begins_with_bracket (ts ++ rest) ≡ false
no_bracket (implies left right ts f g e l r) rest = along left (Arrow ∷ right) ts rest e (no_bracket l)
no_bracket (implication ts f r) rest = no_bracket r rest
no_bracket (or left right ts f g e l r) rest = along left (Bar ∷ right) ts rest e (no_bracket l)
no_bracket (disjunction ts f r) rest = no_bracket r rest
no_bracket (and left right ts f g e l r) rest = along left (Ampersand ∷ right) ts rest e (no_bracket l)
no_bracket (conjunction ts f r) rest = no_bracket r rest
no_bracket (timed op left interval right ts I f g e l i r) rest = along left (InfixLetter op ∷ interval ++ right) ts rest (e ∙ append_assoc left (InfixLetter op ∷ interval) right) (no_bracket l)
no_bracket (until_or_since ts f r) rest = no_bracket r rest
no_bracket (not ts f r) rest = refl
no_bracket (prefixed op interval operand ts I f e i r) rest = ap (λ xs. begins_with_bracket (xs ++ rest)) e
no_bracket (unary ts f r) rest = no_bracket r rest
no_bracket constant_true rest = refl
no_bracket constant_false rest = refl
no_bracket (proposition host name free) rest = refl
no_bracket (parentheses inner ts f e r) rest = ap (λ xs. begins_with_bracket (xs ++ rest)) e

no_interval : (l : Letter) (stack : List Pending) (ts : List Token) → begins_with_bracket ts ≡ false
    → run (record { stack = stack; stage = LetterRead l }) ts ≡ run (wanted (Timed l (from_to 0 None) ∷ stack)) ts
no_interval l stack [] h = refl
no_interval l stack (Open ∷ ts) h = refl
no_interval l stack (Close ∷ ts) h = refl
no_interval l stack (OpenBracket ∷ ts) h = absurd (cc)
no_interval l stack (CloseBracket ∷ ts) h = refl
no_interval l stack (Comma ∷ ts) h = refl
no_interval l stack (Dot ∷ ts) h = refl
no_interval l stack (Bang ∷ ts) h = refl
no_interval l stack (Ampersand ∷ ts) h = refl
no_interval l stack (Bar ∷ ts) h = refl
no_interval l stack (Arrow ∷ ts) h = refl
no_interval l stack (InfixLetter op ∷ ts) h = refl
no_interval l stack (PrefixLetter op ∷ ts) h = refl
no_interval l stack (Number n ∷ ts) h = refl
no_interval l stack (Word word ∷ ts) h = refl

-- an interval behind its letter
interval_read : {interval : List Token} {I : Interval} → ReadsInterval interval I → (l : Letter) (stack : List Pending) (ts : List Token) → begins_with_bracket ts ≡ false
    → run (record { stack = stack; stage = LetterRead l }) (interval ++ ts) ≡ run (wanted (Timed l I ∷ stack)) ts
interval_read everything l stack ts h = no_interval l stack ts h
interval_read (bounded low high) l stack ts h = refl
interval_read (unbounded low) l stack ts h = refl

pub none_of_three : (a b c : Bool) → (a || b || c) ≡ false → (a ≡ false) × (b ≡ false) × (c ≡ false)
none_of_three true b c h = cc
none_of_three false true c h = cc
none_of_three false false c h = (refl, refl, h)

host_read : (stack : List Pending) (host : List ℕ) → is_reserved host ≡ false → after_word stack host ≡ at_stage stack (HostRead host)
host_read stack host free =
    let tests = none_of_three (bytes_eq host (codes "true")) (bytes_eq host (codes "false")) (bytes_eq host (codes "inf")) free in
    let first : bytes_eq host (codes "true") ≡ false = tests.0 in
    let second : bytes_eq host (codes "false") ≡ false = tests.1 in
    let third : bytes_eq host (codes "inf") ≡ false = tests.2 in
    rw (first, second, third) refl

parted : (left more ts : List Token) (stack : List Pending) (rest : List Token) → ts ≡ left ++ more → run (wanted stack) (ts ++ rest) ≡ run (wanted stack) (left ++ (more ++ rest))
parted left more ts stack rest e = ap (λ xs. run (wanted stack) (xs ++ rest)) e ∙ ap (run (wanted stack)) (append_assoc left more rest)

-- the tokens between the sides of a `U` or `S`
timed_read : (op : Infix) (left interval right : List Token) (I : Interval) (f : Form) → ReadsInterval interval I → (stack : List Pending) (rest : List Token)
    → complete plain 5 stack f ≡ record { stack = stack; form = f } → begins_with_bracket (right ++ rest) ≡ false
    → run (read stack f) (InfixLetter op ∷ ((interval ++ right) ++ rest)) ≡ run (wanted (Timed (OfTwo op f) I ∷ stack)) (right ++ rest)
timed_read op left interval right I f i stack rest keeps begins =
    ap (λ c. option_and_then (λ next. run next ((interval ++ right) ++ rest)) (letter_after op c)) keeps
    ∙ ap (run (record { stack = stack; stage = LetterRead (OfTwo op f) })) (append_assoc interval right rest)
    ∙ interval_read i (OfTwo op f) stack (right ++ rest) begins

-- the tokens of a formula of the level, where one is wanted and what follows leaves it as it is
pub leads : {level : Level} {ts : List Token} {f : Form} → Reads level ts f
    → (stack : List Pending) (rest : List Token) → top_strength stack < entry level → completes_first rest ≤ rank level
    → run (wanted stack) (ts ++ rest) ≡ run (read stack f) rest
leads (implies left right ts f g e l r) stack rest low after =
    parted left (Arrow ∷ right) ts stack rest e
    ∙ leads l stack (Arrow ∷ right ++ rest) low (omega arith)
    ∙ ap (λ c. option_and_then (λ next. run next (right ++ rest)) (left_of LeftOfImplies c)) (kept 2 stack f low)
    ∙ leads r (LeftOfImplies f ∷ stack) rest (omega arith) after
    ∙ join (LeftOfImplies f) stack g rest after (omega arith)
leads (implication ts f r) stack rest low after = leads r stack rest low (omega arith)
leads (or left right ts f g e l r) stack rest low after =
    parted left (Bar ∷ right) ts stack rest e
    ∙ leads l stack (Bar ∷ right ++ rest) low (omega arith)
    ∙ ap (λ c. option_and_then (λ next. run next (right ++ rest)) (left_of LeftOfOr c)) (kept 2 stack f low)
    ∙ leads r (LeftOfOr f ∷ stack) rest (omega arith) (omega arith)
    ∙ join (LeftOfOr f) stack g rest after (omega arith)
leads (disjunction ts f r) stack rest low after = leads r stack rest (omega arith) (omega arith)
leads (and left right ts f g e l r) stack rest low after =
    parted left (Ampersand ∷ right) ts stack rest e
    ∙ leads l stack (Ampersand ∷ right ++ rest) low (omega arith)
    ∙ ap (λ c. option_and_then (λ next. run next (right ++ rest)) (left_of LeftOfAnd c)) (kept 3 stack f low)
    ∙ leads r (LeftOfAnd f ∷ stack) rest (omega arith) (omega arith)
    ∙ join (LeftOfAnd f) stack g rest after (omega arith)
leads (conjunction ts f r) stack rest low after = leads r stack rest (omega arith) (omega arith)
leads (timed op left interval right ts I f g e l i r) stack rest low after =
    parted left (InfixLetter op ∷ interval ++ right) ts stack rest (e ∙ append_assoc left (InfixLetter op ∷ interval) right)
    ∙ leads l stack ((InfixLetter op ∷ interval ++ right) ++ rest) (omega arith) (omega arith)
    ∙ timed_read op left interval right I f i stack rest (kept 5 stack f low) (no_bracket r rest)
    ∙ leads r (Timed (OfTwo op f) I ∷ stack) rest (omega arith) after
    ∙ join (Timed (OfTwo op f) I) stack g rest after (omega arith)
leads (until_or_since ts f r) stack rest low after = leads r stack rest (omega arith) (omega arith)
leads (not ts f r) stack rest low after =
    leads r (Negation ∷ stack) rest (omega arith) after
    ∙ join Negation stack f rest after (omega arith)
leads (prefixed op interval operand ts I f e i r) stack rest low after =
    ap (λ xs. run (wanted stack) (xs ++ rest)) e
    ∙ ap (run (record { stack = stack; stage = LetterRead (OfOne op) })) (append_assoc interval operand rest)
    ∙ interval_read i (OfOne op) stack (operand ++ rest) (no_bracket r rest)
    ∙ leads r (Timed (OfOne op) I ∷ stack) rest (omega arith) after
    ∙ join (Timed (OfOne op) I) stack f rest after (omega arith)
leads (unary ts f r) stack rest low after = leads r stack rest low (omega arith)
leads constant_true stack rest low after = refl
leads constant_false stack rest low after = refl
leads (proposition host name free) stack rest low after =
    ap (option_and_then (λ next. run next (Dot ∷ Word name ∷ rest))) (host_read stack host free)
leads (parentheses inner ts f e r) stack rest low after =
    ap (λ xs. run (wanted stack) (xs ++ rest)) e
    ∙ ap (run (wanted (Opened ∷ stack))) (append_assoc inner (Close ∷ []) rest)
    ∙ leads r (Opened ∷ stack) (Close ∷ rest) (omega arith) (omega arith)

pub run-reads : (ts : List Token) (f : Form) → Reads Implication ts f → run begin ts ≡ Some f
run-reads ts f r = ap (run begin) (sym (append-nil ts)) ∙ leads r [] [] (omega arith) (omega arith)

pub same_formula : (ts : List Token) (f g : Form) → Reads Implication ts f → Reads Implication ts g → f ≡ g
same_formula ts f g r s = let p = run-reads ts f r in let q = run-reads ts g s in cc
