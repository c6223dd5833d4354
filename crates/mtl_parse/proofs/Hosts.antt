-- The tokens that a dot follows.
use Rattle.std.proofs.Common.{◌≡◌, ◌∙◌, sym, ap, refl, Bool, true, false, List, [], ◌∷◌, ◌++◌, append_assoc, append-nil}
use Rattle.std.proofs.lemmas.List.{map-append}
use Rattle.std.specs.Prelude.{map, if◌then◌else◌}
use Rattle.mt_model.specs.declared.tree.Interval.{Interval}
use Rattle.mt_model.specs.Form.{Form, And, Implies, Or, propositions_of}
use Rattle.mtl_parse.specs.Tokens.{Infix, U, S, Prefix, F, G, O, H, Token, Placed, Open, Close, CloseBracket, Bang, Ampersand, Bar, Arrow, InfixLetter, PrefixLetter, Word}
use Rattle.mtl_parse.specs.Grammar.{Level, Implication, Reads, ReadsInterval, prefix_form, infix_form, everything, bounded, unbounded, implies, implication, or, disjunction, and, conjunction, timed, until_or_since, not, prefixed, unary, constant_true, constant_false, proposition, parentheses}
use Rattle.mtl_parse.specs.FormulaOf.{tokens_in}
use Rattle.mtl_parse.specs.Places.{is_dot, begins_with_dot, before_dots}

abbrev begins : List Token → Bool
begins [] = false
begins (t ∷ ts) = is_dot t

abbrev dotted : List Token → List Token
dotted [] = []
dotted (t ∷ ts) = if begins ts then t ∷ dotted ts else dotted ts

abbrev pub hosts : Form → List Token
hosts f = map (λ p. Word p.host) (propositions_of f)

same_begin : (ps : List Placed) → begins_with_dot ps ≡ begins (tokens_in ps)
same_begin [] = refl
same_begin (p ∷ ps) = refl

picked : (d : Bool) (p : Placed) (ps : List Placed) (ts : List Token) → tokens_in ps ≡ ts → tokens_in (if d then p ∷ ps else ps) ≡ (if d then p.token ∷ ts else ts)
picked true p ps ts h = ap (λ xs. p.token ∷ xs) h
picked false p ps ts h = h

dotted_placed : (ps : List Placed) → tokens_in (before_dots ps) ≡ dotted (tokens_in ps)
dotted_placed [] = refl
dotted_placed (p ∷ ps) =
    picked (begins_with_dot ps) p (before_dots ps) (dotted (tokens_in ps)) (dotted_placed ps)
    ∙ ap (λ v. if v then p.token ∷ dotted (tokens_in ps) else dotted (tokens_in ps)) (same_begin ps)

-- what begins with something begins as it does
along : (left more ts rest : List Token) → ts ≡ left ++ more → ((xs : List Token) → begins (left ++ xs) ≡ false) → begins (ts ++ rest) ≡ false
along left more ts rest e so = ap (λ xs. begins (xs ++ rest)) e ∙ ap begins (append_assoc left more rest) ∙ so (more ++ rest)

-- a formula does not begin with a dot
begins_so : {level : Level} {ts : List Token} {f : Form} → Reads level ts f → (rest : List Token) → begins (ts ++ rest) ≡ false
begins_so (implies left right ts f g e l r) rest = along left (Arrow ∷ right) ts rest e (begins_so l)
begins_so (implication ts f r) rest = begins_so r rest
begins_so (or left right ts f g e l r) rest = along left (Bar ∷ right) ts rest e (begins_so l)
begins_so (disjunction ts f r) rest = begins_so r rest
begins_so (and left right ts f g e l r) rest = along left (Ampersand ∷ right) ts rest e (begins_so l)
begins_so (conjunction ts f r) rest = begins_so r rest
begins_so (timed op left interval right ts I f g e l i r) rest = along left (InfixLetter op ∷ interval ++ right) ts rest (e ∙ append_assoc left (InfixLetter op ∷ interval) right) (begins_so l)
begins_so (until_or_since ts f r) rest = begins_so r rest
begins_so (not ts f r) rest = refl
begins_so (prefixed op interval operand ts I f e i r) rest = ap (λ xs. begins (xs ++ rest)) e
begins_so (unary ts f r) rest = begins_so r rest
begins_so constant_true rest = refl
begins_so constant_false rest = refl
begins_so (proposition host name free) rest = refl
begins_so (parentheses inner ts f e r) rest = ap (λ xs. begins (xs ++ rest)) e

passed : (t : Token) (ts : List Token) → begins ts ≡ false → dotted (t ∷ ts) ≡ dotted ts
passed t ts h = ap (λ v. if v then t ∷ dotted ts else dotted ts) h

-- an interval behind its letter has no dot
interval_begins : {interval : List Token} {I : Interval} → ReadsInterval interval I → (rest : List Token) → begins rest ≡ false → begins (interval ++ rest) ≡ false
interval_begins everything rest h = h
interval_begins (bounded low high) rest h = refl
interval_begins (unbounded low) rest h = refl

interval_passed : {interval : List Token} {I : Interval} → ReadsInterval interval I → (rest : List Token) → begins rest ≡ false → dotted (interval ++ rest) ≡ dotted rest
interval_passed everything rest h = refl
interval_passed (bounded low high) rest h = passed CloseBracket rest h
interval_passed (unbounded low) rest h = passed CloseBracket rest h

hosts_before : (op : Prefix) (I : Interval) (f : Form) → hosts (prefix_form op I f) ≡ hosts f
hosts_before F I f = refl
hosts_before G I f = refl
hosts_before O I f = refl
hosts_before H I f = refl

hosts_two : (f g : Form) → map (λ p. Word p.host) (propositions_of f ++ propositions_of g) ≡ hosts f ++ hosts g
hosts_two f g = map-append (λ p. Word p.host) (propositions_of f) (propositions_of g)

hosts_between : (op : Infix) (I : Interval) (f g : Form) → hosts (infix_form op I f g) ≡ hosts f ++ hosts g
hosts_between U I f g = hosts_two f g
hosts_between S I f g = hosts_two f g

-- what stands between two formulas is no host
joined : (left more ts rest : List Token) (f g h : Form) → ts ≡ left ++ more → hosts h ≡ hosts f ++ hosts g
    → dotted (left ++ (more ++ rest)) ≡ hosts f ++ dotted (more ++ rest) → dotted (more ++ rest) ≡ hosts g ++ dotted rest → dotted (ts ++ rest) ≡ hosts h ++ dotted rest
joined left more ts rest f g h e both l r =
    ap (λ xs. dotted (xs ++ rest)) e
    ∙ ap dotted (append_assoc left more rest)
    ∙ l
    ∙ ap (λ xs. hosts f ++ xs) r
    ∙ sym (append_assoc (hosts f) (hosts g) (dotted rest))
    ∙ ap (λ xs. xs ++ dotted rest) (sym both)

finds : {level : Level} {ts : List Token} {f : Form} → Reads level ts f → (rest : List Token) → begins rest ≡ false → dotted (ts ++ rest) ≡ hosts f ++ dotted rest
finds (implies left right ts f g e l r) rest h =
    joined left (Arrow ∷ right) ts rest f g (Implies f g) e (hosts_two f g) (finds l (Arrow ∷ right ++ rest) refl)
    (passed Arrow (right ++ rest) (begins_so r rest) ∙ finds r rest h)
finds (implication ts f r) rest h = finds r rest h
finds (or left right ts f g e l r) rest h =
    joined left (Bar ∷ right) ts rest f g (Or f g) e (hosts_two f g) (finds l (Bar ∷ right ++ rest) refl)
    (passed Bar (right ++ rest) (begins_so r rest) ∙ finds r rest h)
finds (disjunction ts f r) rest h = finds r rest h
finds (and left right ts f g e l r) rest h =
    joined left (Ampersand ∷ right) ts rest f g (And f g) e (hosts_two f g) (finds l (Ampersand ∷ right ++ rest) refl)
    (passed Ampersand (right ++ rest) (begins_so r rest) ∙ finds r rest h)
finds (conjunction ts f r) rest h = finds r rest h
finds (timed op left interval right ts I f g e l i r) rest h =
    joined left (InfixLetter op ∷ interval ++ right) ts rest f g (infix_form op I f g) (e ∙ append_assoc left (InfixLetter op ∷ interval) right) (hosts_between op I f g)
    (finds l ((InfixLetter op ∷ interval ++ right) ++ rest) refl)
    (ap (λ xs. dotted (InfixLetter op ∷ xs)) (append_assoc interval right rest)
    ∙ passed (InfixLetter op) (interval ++ (right ++ rest)) (interval_begins i (right ++ rest) (begins_so r rest))
    ∙ interval_passed i (right ++ rest) (begins_so r rest)
    ∙ finds r rest h)
finds (until_or_since ts f r) rest h = finds r rest h
finds (not ts f r) rest h = passed Bang (ts ++ rest) (begins_so r rest) ∙ finds r rest h
finds (prefixed op interval operand ts I f e i r) rest h =
    ap (λ xs. dotted (xs ++ rest)) e
    ∙ ap (λ xs. dotted (PrefixLetter op ∷ xs)) (append_assoc interval operand rest)
    ∙ passed (PrefixLetter op) (interval ++ (operand ++ rest)) (interval_begins i (operand ++ rest) (begins_so r rest))
    ∙ interval_passed i (operand ++ rest) (begins_so r rest)
    ∙ finds r rest h
    ∙ ap (λ xs. xs ++ dotted rest) (sym (hosts_before op I f))
finds (unary ts f r) rest h = finds r rest h
finds constant_true rest h = passed _ rest h
finds constant_false rest h = passed _ rest h
finds (proposition host name free) rest h = ap (λ xs. Word host ∷ xs) (passed (Word name) rest h)
finds (parentheses inner ts f e r) rest h =
    ap (λ xs. dotted (xs ++ rest)) e
    ∙ ap (λ xs. dotted (Open ∷ xs)) (append_assoc inner (Close ∷ []) rest)
    ∙ passed Open (inner ++ Close ∷ rest) (begins_so r (Close ∷ rest))
    ∙ finds r (Close ∷ rest) refl
    ∙ ap (λ xs. hosts f ++ xs) (passed Close rest h)

pub hosts-before-dots : (ps : List Placed) (f : Form) → Reads Implication (tokens_in ps) f → tokens_in (before_dots ps) ≡ hosts f
hosts-before-dots ps f r =
    dotted_placed ps
    ∙ ap dotted (sym (append-nil (tokens_in ps)))
    ∙ finds r [] refl
    ∙ append-nil (hosts f)
