-- What tokens lead to is a formula that they are.
use Rattle.std.proofs.Common.{◌≡◌, ◌∙◌, sym, ap, refl, subst, arith, ℕ, ◌≤◌, ◌<◌, true, false, List, [], ◌∷◌, ◌++◌, append_assoc, append-nil, Option, Some, None, inl, inr}
use Rattle.std.specs.Prelude.{nat_le, bytes_eq, codes, option_and_then}
use Rattle.std.proofs.lemmas.Bool.{cases_Bool, leb-true, leb-false}
use Rattle.std.proofs.lemmas.Slice.Eq.{bytes_eq-Decides}
use Rattle.mt_model.specs.declared.tree.Interval.{Interval}
use Rattle.mt_model.specs.Form.{Form, True, False, Prop}
use Rattle.mt_model.specs.Name.{is_reserved}
use Rattle.mtl_parse.specs.Tokens.{Infix, Token, Open, Close, OpenBracket, CloseBracket, Comma, Dot, Bang, Ampersand, Bar, Arrow, InfixLetter, PrefixLetter, Number, Word}
use Rattle.mtl_parse.specs.Grammar.{Level, Implication, Disjunction, Conjunction, UntilOrSince, Unary, Atom, Reads, ReadsInterval, from_to, everything, bounded, unbounded, implies, implication, or, disjunction, and, conjunction, timed, until_or_since, not, prefixed, unary, constant_true, constant_false, proposition, parentheses}
use Rattle.mtl_parse.specs.Machine.{Letter, OfOne, OfTwo, Pending, Opened, Negation, Timed, LeftOfAnd, LeftOfOr, LeftOfImplies, Stage, Wanted, HostRead, DotRead, LetterRead, BracketRead, LowRead, CommaRead, HighRead, Read, State, Completed, after_word, applied, begin, closed, complete, finish_at, finished, left_of, letter_after, letter_strength, step, step_at, step_wanted, step_host, step_dot, step_letter, step_bracket, step_low, step_comma, step_high, step_read, strength}
use Rattle.mtl_parse.proofs.Completeness.{plain, rank, run, top_strength}

-- a formula of a level is one of each level that binds less tightly
to_unary : (level : Level) (ts : List Token) (f : Form) → 5 ≤ rank level → Reads level ts f → Reads Unary ts f
to_unary Unary ts f h r = r
to_unary Atom ts f h r = unary ts f r
to_unary _ ts f h r = absurd (omega arith)

to_until : (level : Level) (ts : List Token) (f : Form) → 4 ≤ rank level → Reads level ts f → Reads UntilOrSince ts f
to_until UntilOrSince ts f h r = r
to_until Unary ts f h r = until_or_since ts f r
to_until Atom ts f h r = until_or_since ts f (unary ts f r)
to_until _ ts f h r = absurd (omega arith)

to_conjunction : (level : Level) (ts : List Token) (f : Form) → 3 ≤ rank level → Reads level ts f → Reads Conjunction ts f
to_conjunction Implication ts f h r = absurd (omega arith)
to_conjunction Disjunction ts f h r = absurd (omega arith)
to_conjunction Conjunction ts f h r = r
to_conjunction UntilOrSince ts f h r = conjunction ts f r
to_conjunction Unary ts f h r = conjunction ts f (until_or_since ts f r)
to_conjunction Atom ts f h r = conjunction ts f (until_or_since ts f (unary ts f r))

to_disjunction : (level : Level) (ts : List Token) (f : Form) → 2 ≤ rank level → Reads level ts f → Reads Disjunction ts f
to_disjunction Implication ts f h r = absurd (omega arith)
to_disjunction Disjunction ts f h r = r
to_disjunction Conjunction ts f h r = disjunction ts f r
to_disjunction UntilOrSince ts f h r = disjunction ts f (conjunction ts f r)
to_disjunction Unary ts f h r = disjunction ts f (conjunction ts f (until_or_since ts f r))
to_disjunction Atom ts f h r = disjunction ts f (conjunction ts f (until_or_since ts f (unary ts f r)))

to_implication : (level : Level) (ts : List Token) (f : Form) → Reads level ts f → Reads Implication ts f
to_implication Implication ts f r = r
to_implication Disjunction ts f r = implication ts f r
to_implication Conjunction ts f r = implication ts f (disjunction ts f r)
to_implication UntilOrSince ts f r = implication ts f (disjunction ts f (conjunction ts f r))
to_implication Unary ts f r = implication ts f (disjunction ts f (conjunction ts f (until_or_since ts f r)))
to_implication Atom ts f r = implication ts f (disjunction ts f (conjunction ts f (until_or_since ts f (unary ts f r))))

-- the tokens are a formula of a level, and then one more token
record LeftRead (level : Level) (t : Token) (f : Form) (ts : List Token) : Type 0 where
  left : List Token
  split : ts ≡ left ++ t ∷ []
  reads : Reads level left f

abbrev LetterReads : Letter → List Token → Type 0
LetterReads (OfOne op) ts = ts ≡ PrefixLetter op ∷ []
LetterReads (OfTwo op f) ts = LeftRead Unary (InfixLetter op) f ts

-- the tokens are a letter with its left side and its interval
record TimedRead (l : Letter) (I : Interval) (ts : List Token) : Type 0 where
  letter : List Token
  interval : List Token
  split : ts ≡ letter ++ interval
  reads : LetterReads l letter
  reads_interval : ReadsInterval interval I

-- the tokens are what is pending
abbrev PendingRead : Pending → List Token → Type 0
PendingRead Opened ts = ts ≡ Open ∷ []
PendingRead Negation ts = ts ≡ Bang ∷ []
PendingRead (Timed l I) ts = TimedRead l I ts
PendingRead (LeftOfAnd f) ts = LeftRead Conjunction Ampersand f ts
PendingRead (LeftOfOr f) ts = LeftRead Disjunction Bar f ts
PendingRead (LeftOfImplies f) ts = LeftRead Disjunction Arrow f ts

-- the level of what is made with it
abbrev made : Pending → Level
made Opened = Atom
made Negation = Unary
made (Timed (OfOne op) I) = Unary
made (Timed (OfTwo op f) I) = UntilOrSince
made (LeftOfAnd f) = Conjunction
made (LeftOfOr f) = Disjunction
made (LeftOfImplies f) = Implication

-- how tightly its operand binds at least
abbrev operand_rank : Pending → ℕ
operand_rank Opened = 1
operand_rank Negation = 5
operand_rank (Timed (OfOne op) I) = 5
operand_rank (Timed (OfTwo op f) I) = 4
operand_rank (LeftOfAnd f) = 4
operand_rank (LeftOfOr f) = 3
operand_rank (LeftOfImplies f) = 1

abbrev takes : List Pending → ℕ
takes [] = 1
takes (p ∷ ps) = operand_rank p

abbrev StackRead : List Pending → List Token → Type 0
StackRead [] ts = ts ≡ []
StackRead (p ∷ ps) ts = (out : List Token) × (inner : List Token) × (ts ≡ out ++ inner) × StackRead ps out × PendingRead p inner × (takes ps ≤ rank (made p))

-- a letter, and tokens behind it
record Behind (stack : List Pending) (l : Letter) (more ts : List Token) : Type 0 where
  letter : List Token
  split : ts ≡ letter ++ more
  reads : LetterReads l letter
  fits : takes stack ≤ letter_strength l

record IntervalBegun (stack : List Pending) (l : Letter) (I : Interval) (ts : List Token) : Type 0 where
  more : List Token
  behind : Behind stack l more ts
  closes : ReadsInterval (more ++ CloseBracket ∷ []) I

abbrev StageRead : List Pending → Stage → List Token → Type 0
StageRead stack Wanted ts = ts ≡ []
StageRead stack (HostRead host) ts = (ts ≡ Word host ∷ []) × (is_reserved host ≡ false)
StageRead stack (DotRead host) ts = (ts ≡ Word host ∷ Dot ∷ []) × (is_reserved host ≡ false)
StageRead stack (LetterRead l) ts = Behind stack l [] ts
StageRead stack (BracketRead l) ts = Behind stack l (OpenBracket ∷ []) ts
StageRead stack (LowRead l low) ts = Behind stack l (OpenBracket ∷ Number low ∷ []) ts
StageRead stack (CommaRead l low) ts = Behind stack l (OpenBracket ∷ Number low ∷ Comma ∷ []) ts
StageRead stack (HighRead l I) ts = IntervalBegun stack l I ts
StageRead stack (Read f) ts = Reads Atom ts f

-- the tokens are what was read up to a state
record StateRead (stack : List Pending) (stage : Stage) (ts : List Token) : Type 0 where
  out : List Token
  inner : List Token
  split : ts ≡ out ++ inner
  prefix_form : StackRead stack out
  reads : StageRead stack stage inner

abbrev NextRead : Option State → List Token → Type 0
NextRead None ts = Unit {0}
NextRead (Some s) ts = StateRead s.stack s.stage ts

timed_reads : (l : Letter) (I : Interval) (ts a : List Token) (level : Level) (g : Form) → TimedRead l I ts → Reads level a g
    → operand_rank (Timed l I) ≤ rank level → Reads (made (Timed l I)) (ts ++ a) (applied (Timed l I) g)
timed_reads (OfOne op) I ts a level g read r h =
    prefixed op read.interval a (ts ++ a) I g (ap (λ xs. xs ++ a) (read.split ∙ ap (λ xs. xs ++ read.interval) read.reads)) read.reads_interval (to_unary level a g h r)
timed_reads (OfTwo op f) I ts a level g read r h =
    timed op read.reads.left read.interval a (ts ++ a) I f g
    (ap (λ xs. xs ++ a) (read.split ∙ ap (λ xs. xs ++ read.interval) read.reads.split) ∙ simp append_assoc) read.reads.reads
    read.reads_interval (to_until level a g h r)

-- what is pending with its operand
applied_reads : (p : Pending) (ts a : List Token) (level : Level) (g : Form) → PendingRead p ts → Reads level a g
    → operand_rank p ≤ rank level → 0 < strength p → Reads (made p) (ts ++ a) (applied p g)
applied_reads Opened ts a level g read r h some = absurd (omega arith)
applied_reads Negation ts a level g read r h some = subst (λ xs. Reads Unary (xs ++ a) (applied Negation g)) (sym read) (not a g (to_unary level a g h r))
applied_reads (Timed l I) ts a level g read r h some = timed_reads l I ts a level g read r h
applied_reads (LeftOfAnd f) ts a level g read r h some = and read.left a (ts ++ a) f g (ap (λ xs. xs ++ a) read.split ∙ append_assoc read.left (Ampersand ∷ []) a) read.reads (to_until level a g h r)
applied_reads (LeftOfOr f) ts a level g read r h some = or read.left a (ts ++ a) f g (ap (λ xs. xs ++ a) read.split ∙ append_assoc read.left (Bar ∷ []) a) read.reads (to_conjunction level a g h r)
applied_reads (LeftOfImplies f) ts a level g read r h some =
    implies read.left a (ts ++ a) f g (ap (λ xs. xs ++ a) read.split ∙ append_assoc read.left (Arrow ∷ []) a) read.reads
    (to_implication level a g r)

-- the tokens are what is still pending and an operand, which binds at least so tightly
record Reduced (n : ℕ) (stack : List Pending) (f : Form) (ts : List Token) : Type 0 where
  out : List Token
  inner : List Token
  level : Level
  split : ts ≡ out ++ inner
  below : StackRead stack out
  reads : Reads level inner f
  fits : takes stack ≤ rank level
  tight : n ≤ rank level
  low : top_strength stack < n

made_strength : (p : Pending) → 0 < strength p → strength p ≤ rank (made p)
made_strength Opened h = absurd (omega arith)
made_strength Negation h = omega arith
made_strength (Timed (OfOne op) I) h = omega arith
made_strength (Timed (OfTwo op f) I) h = omega arith
made_strength (LeftOfAnd f) h = omega arith
made_strength (LeftOfOr f) h = omega arith
made_strength (LeftOfImplies f) h = omega arith

complete_reads : (n : ℕ) (stack : List Pending) (f : Form) (o a : List Token) (level : Level) → 0 < n → StackRead stack o → Reads level a f → takes stack ≤ rank level → n ≤ rank level
    → Reduced n (complete plain n stack f).stack (complete plain n stack f).form (o ++ a)
complete_reads n [] f o a level some read r h tight = record { out = o; inner = a; level = level; split = refl; below = read; reads = r; fits = h; tight = tight; low = some }
complete_reads n (p ∷ ps) f o a level some read r h tight = elim (cases_Bool (nat_le n (strength p))) [
  | inl more ↦
      let enough : n ≤ strength p = leb-true n (strength p) more in
      let is_some : 0 < strength p = omega arith in
      let strong : strength p ≤ rank (made p) = made_strength p is_some in
      let whole : read.0 ++ (read.1 ++ a) ≡ o ++ a = sym (ap (λ xs. xs ++ a) read.2 ∙ append_assoc read.0 read.1 a) in
      rw more (subst (λ xs. Reduced n (complete plain n ps (applied p f)).stack (complete plain n ps (applied p f)).form xs) whole
      (complete_reads n ps (applied p f) read.0 (read.1 ++ a) (made p) some read.3 (applied_reads p read.1 a level f read.4 r h is_some) read.5 (omega arith)))
  | inr less ↦ rw less (record { out = o; inner = a; level = level; split = refl; below = read; reads = r; fits = h; tight = tight; low = leb-false n (strength p) less })
]

takes_few : (stack : List Pending) → takes stack ≤ 5
takes_few [] = omega arith
takes_few (Opened ∷ ps) = omega arith
takes_few (Negation ∷ ps) = omega arith
takes_few (Timed (OfOne op) I ∷ ps) = omega arith
takes_few (Timed (OfTwo op f) I ∷ ps) = omega arith
takes_few (LeftOfAnd f ∷ ps) = omega arith
takes_few (LeftOfOr f ∷ ps) = omega arith
takes_few (LeftOfImplies f ∷ ps) = omega arith

takes_less : (stack : List Pending) → (top_strength stack < 5 → takes stack ≤ 4) × (top_strength stack < 3 → takes stack ≤ 3) × (top_strength stack < 2 → takes stack ≤ 1)
takes_less [] = (λ h. omega arith, λ h. omega arith, λ h. omega arith)
takes_less (Opened ∷ ps) = (λ h. omega arith, λ h. omega arith, λ h. omega arith)
takes_less (Negation ∷ ps) = (λ h. omega arith, λ h. omega arith, λ h. omega arith)
takes_less (Timed (OfOne op) I ∷ ps) = (λ h. omega arith, λ h. omega arith, λ h. omega arith)
takes_less (Timed (OfTwo op f) I ∷ ps) = (λ h. omega arith, λ h. omega arith, λ h. omega arith)
takes_less (LeftOfAnd f ∷ ps) = (λ h. omega arith, λ h. omega arith, λ h. omega arith)
takes_less (LeftOfOr f ∷ ps) = (λ h. omega arith, λ h. omega arith, λ h. omega arith)
takes_less (LeftOfImplies f ∷ ps) = (λ h. omega arith, λ h. omega arith, λ h. omega arith)

-- the next token goes on with the stage
grown : (stack : List Pending) (stage next : Stage) (ts : List Token) (t : Token) (read : StateRead stack stage ts) → StageRead stack next (read.inner ++ t ∷ []) → StateRead stack next (ts ++ t ∷ [])
grown stack stage next ts t read reads = record {
  out = read.out;
  inner = read.inner ++ t ∷ [];
  split = ap (λ xs. xs ++ t ∷ []) read.split ∙ append_assoc read.out read.inner (t ∷ []);
  prefix_form = read.prefix_form;
  reads = reads;
}

-- the tokens of the stage become something that is pending
pushed : (p : Pending) (stack : List Pending) (out inner ts : List Token) → ts ≡ out ++ inner → StackRead stack out → PendingRead p inner
    → takes stack ≤ rank (made p) → StateRead (p ∷ stack) Wanted ts
pushed p stack out inner ts e prefix_form own fits = record { out = ts; inner = []; split = sym (append-nil ts); prefix_form = (out, inner, e, prefix_form, own, fits); reads = refl }

same_bytes : (word text : List ℕ) → bytes_eq word text ≡ true → text ≡ word
same_bytes word text h = sym ((bytes_eq-Decides word text).0 h)

alone : (t : Token) (inner : List Token) → inner ≡ [] → inner ++ t ∷ [] ≡ t ∷ []
alone t inner e = ap (λ xs. xs ++ t ∷ []) e

word_reads : (stack : List Pending) (word : List ℕ) (ts : List Token) → StateRead stack Wanted ts → NextRead (after_word stack word) (ts ++ Word word ∷ [])
word_reads stack word ts read =
    let one : Word word ∷ [] ≡ read.inner ++ Word word ∷ [] = sym (alone (Word word) read.inner read.reads) in
    elim (cases_Bool (bytes_eq word (codes "true"))) [
      | inl it ↦ rw it (grown stack Wanted (Read True) ts (Word word) read (subst (λ xs. Reads Atom xs True) one (subst (λ w. Reads Atom (Word w ∷ []) True) (same_bytes word (codes "true") it) constant_true)))
      | inr first ↦ rw first (elim (cases_Bool (bytes_eq word (codes "false"))) [
        | inl it ↦ rw it (grown stack Wanted (Read False) ts (Word word) read (subst (λ xs. Reads Atom xs False) one (subst (λ w. Reads Atom (Word w ∷ []) False) (same_bytes word (codes "false") it) constant_false)))
        | inr second ↦ rw second (elim (cases_Bool (bytes_eq word (codes "inf"))) [
          | inl it ↦ rw it tt
          | inr third ↦ rw third (grown stack Wanted (HostRead word) ts (Word word) read (sym one, rw (first, second, third) refl))
        ])
      ])
    ]

wanted_reads : (stack : List Pending) (t : Token) (ts : List Token) → StateRead stack Wanted ts → NextRead (step_wanted stack t) (ts ++ t ∷ [])
wanted_reads stack Open ts read =
    let few = takes_few stack in
    pushed Opened stack read.out (Open ∷ []) (ts ++ Open ∷ [])
    (ap (λ xs. xs ++ Open ∷ []) (read.split ∙ ap (λ xs. read.out ++ xs) read.reads ∙ append-nil read.out)) read.prefix_form refl
    (omega arith)
wanted_reads stack Bang ts read =
    pushed Negation stack read.out (Bang ∷ []) (ts ++ Bang ∷ [])
    (ap (λ xs. xs ++ Bang ∷ []) (read.split ∙ ap (λ xs. read.out ++ xs) read.reads ∙ append-nil read.out)) read.prefix_form refl
    (takes_few stack)
wanted_reads stack (PrefixLetter op) ts read =
    grown stack Wanted (LetterRead (OfOne op)) ts (PrefixLetter op) read
    (record {
      letter = PrefixLetter op ∷ [];
      split = alone (PrefixLetter op) read.inner read.reads;
      reads = refl;
      fits = takes_few stack;
    })
wanted_reads stack (Word word) ts read = word_reads stack word ts read
wanted_reads stack _ ts read = tt

host_reads : (stack : List Pending) (host : List ℕ) (t : Token) (ts : List Token) → StateRead stack (HostRead host) ts → NextRead (step_host stack host t) (ts ++ t ∷ [])
host_reads stack host Dot ts read = grown stack (HostRead host) (DotRead host) ts Dot read (ap (λ xs. xs ++ Dot ∷ []) read.reads.0, read.reads.1)
host_reads stack host _ ts read = tt

dot_reads : (stack : List Pending) (host : List ℕ) (t : Token) (ts : List Token) → StateRead stack (DotRead host) ts → NextRead (step_dot stack host t) (ts ++ t ∷ [])
dot_reads stack host (Word name) ts read =
    grown stack (DotRead host) (Read (Prop host name)) ts (Word name) read
    (subst (λ xs. Reads Atom (xs ++ Word name ∷ []) (Prop host name)) (sym read.reads.0) (proposition host name read.reads.1))
dot_reads stack host _ ts read = tt

made_letter : (l : Letter) (I : Interval) → letter_strength l ≤ rank (made (Timed l I))
made_letter (OfOne op) I = omega arith
made_letter (OfTwo op f) I = omega arith

-- a letter without an interval
letter_wanted : (stack : List Pending) (l : Letter) (ts : List Token) → StateRead stack (LetterRead l) ts → StateRead (Timed l (from_to 0 None) ∷ stack) Wanted ts
letter_wanted stack l ts read =
    let fits = read.reads.fits in
    pushed (Timed l (from_to 0 None)) stack read.out read.inner ts read.split read.prefix_form
    (record {
      letter = read.reads.letter;
      interval = [];
      split = read.reads.split;
      reads = read.reads.reads;
      reads_interval = everything;
    }) (omega (arith, made_letter l (from_to 0 None)))

letter_reads : (stack : List Pending) (l : Letter) (t : Token) (ts : List Token) → StateRead stack (LetterRead l) ts → NextRead (step_letter stack l t) (ts ++ t ∷ [])
letter_reads stack l OpenBracket ts read = grown stack (LetterRead l) (BracketRead l) ts OpenBracket read (record {
  letter = read.reads.letter;
  split = ap (λ xs. xs ++ OpenBracket ∷ []) (read.reads.split ∙ append-nil read.reads.letter);
  reads = read.reads.reads;
  fits = read.reads.fits;
})
letter_reads stack l Open ts read = wanted_reads (Timed l (from_to 0 None) ∷ stack) Open ts (letter_wanted stack l ts read)
letter_reads stack l Bang ts read = wanted_reads (Timed l (from_to 0 None) ∷ stack) Bang ts (letter_wanted stack l ts read)
letter_reads stack l (PrefixLetter op) ts read = wanted_reads (Timed l (from_to 0 None) ∷ stack) (PrefixLetter op) ts (letter_wanted stack l ts read)
letter_reads stack l (Word word) ts read = wanted_reads (Timed l (from_to 0 None) ∷ stack) (Word word) ts (letter_wanted stack l ts read)
letter_reads stack l _ ts read = tt

-- one more token of an interval
behind : (stack : List Pending) (l : Letter) (more ts : List Token) (t : Token) → Behind stack l more ts → Behind stack l (more ++ t ∷ []) (ts ++ t ∷ [])
behind stack l more ts t b = record { letter = b.letter; split = ap (λ xs. xs ++ t ∷ []) b.split ∙ append_assoc b.letter more (t ∷ []); reads = b.reads; fits = b.fits }

bracket_reads : (stack : List Pending) (l : Letter) (t : Token) (ts : List Token) → StateRead stack (BracketRead l) ts → NextRead (step_bracket stack l t) (ts ++ t ∷ [])
bracket_reads stack l (Number low) ts read = grown stack (BracketRead l) (LowRead l low) ts (Number low) read (behind stack l _ read.inner (Number low) read.reads)
bracket_reads stack l _ ts read = tt

low_reads : (stack : List Pending) (l : Letter) (low : ℕ) (t : Token) (ts : List Token) → StateRead stack (LowRead l low) ts → NextRead (step_low stack l low t) (ts ++ t ∷ [])
low_reads stack l low Comma ts read = grown stack (LowRead l low) (CommaRead l low) ts Comma read (behind stack l _ read.inner Comma read.reads)
low_reads stack l low _ ts read = tt

inf_reads : (stack : List Pending) (l : Letter) (low : ℕ) (word : List ℕ) (ts : List Token) → StateRead stack (CommaRead l low) ts
    → NextRead (step_comma stack l low (Word word)) (ts ++ Word word ∷ [])
inf_reads stack l low word ts read = elim (cases_Bool (bytes_eq word (codes "inf"))) [
  | inl it ↦ rw it (grown stack (CommaRead l low) (HighRead l (from_to low None)) ts (Word word) read (record {
    more = OpenBracket ∷ Number low ∷ Comma ∷ Word word ∷ [];
    behind = behind stack l (OpenBracket ∷ Number low ∷ Comma ∷ []) read.inner (Word word) read.reads;
    closes = subst (λ w. ReadsInterval (OpenBracket ∷ Number low ∷ Comma ∷ Word w ∷ CloseBracket ∷ []) (from_to low None)) (same_bytes word (codes "inf") it) (unbounded low);
  }))
  | inr other ↦ rw other tt
]

comma_reads : (stack : List Pending) (l : Letter) (low : ℕ) (t : Token) (ts : List Token) → StateRead stack (CommaRead l low) ts → NextRead (step_comma stack l low t) (ts ++ t ∷ [])
comma_reads stack l low (Number high) ts read = grown stack (CommaRead l low) (HighRead l (from_to low (Some high))) ts (Number high) read (record {
  more = OpenBracket ∷ Number low ∷ Comma ∷ Number high ∷ [];
  behind = behind stack l (OpenBracket ∷ Number low ∷ Comma ∷ []) read.inner (Number high) read.reads;
  closes = bounded low high;
})
comma_reads stack l low (Word word) ts read = inf_reads stack l low word ts read
comma_reads stack l low _ ts read = tt

high_reads : (stack : List Pending) (l : Letter) (I : Interval) (t : Token) (ts : List Token) → StateRead stack (HighRead l I) ts → NextRead (step_high stack l I t) (ts ++ t ∷ [])
high_reads stack l I CloseBracket ts read =
    let b = behind stack l read.reads.more read.inner CloseBracket read.reads.behind in
    let fits = b.fits in
    pushed (Timed l I) stack read.out (read.inner ++ CloseBracket ∷ []) (ts ++ CloseBracket ∷ [])
    (ap (λ xs. xs ++ CloseBracket ∷ []) read.split ∙ append_assoc read.out read.inner (CloseBracket ∷ [])) read.prefix_form
    (record { letter = b.letter; interval = read.reads.more ++ CloseBracket ∷ []; split = b.split; reads = b.reads; reads_interval = read.reads.closes }) (omega (arith, made_letter l I))
high_reads stack l I _ ts read = tt

-- what an operand is with what stands before it
operand_reads : (n : ℕ) (stack : List Pending) (f : Form) (ts : List Token) → 0 < n → n ≤ 6 → StateRead stack (Read f) ts
    → Reduced n (complete plain n stack f).stack (complete plain n stack f).form ts
operand_reads n stack f ts some most read =
    let few = takes_few stack in
    subst (λ xs. Reduced n (complete plain n stack f).stack (complete plain n stack f).form xs) (sym read.split)
    (complete_reads n stack f read.out read.inner Atom some read.prefix_form read.reads (omega arith) most)

-- the operand becomes a left side
side_reads : (level : Level) (t : Token) (f : Form) (inner : List Token) → Reads level inner f → LeftRead level t f (inner ++ t ∷ [])
side_reads level t f inner r = record { left = inner; split = refl; reads = r }

split_more : (t : Token) (ts out inner : List Token) → ts ≡ out ++ inner → ts ++ t ∷ [] ≡ out ++ (inner ++ t ∷ [])
split_more t ts out inner e = ap (λ xs. xs ++ t ∷ []) e ∙ append_assoc out inner (t ∷ [])

and_reads : (c : Completed) (ts : List Token) → Reduced 3 c.stack c.form ts → NextRead (left_of LeftOfAnd c) (ts ++ Ampersand ∷ [])
and_reads c ts r =
    pushed (LeftOfAnd c.form) c.stack r.out (r.inner ++ Ampersand ∷ []) (ts ++ Ampersand ∷ [])
    (split_more Ampersand ts r.out r.inner r.split) r.below
    (side_reads Conjunction Ampersand c.form r.inner (to_conjunction r.level r.inner c.form r.tight r.reads)) ((takes_less c.stack).1 r.low)

or_reads : (c : Completed) (ts : List Token) → Reduced 2 c.stack c.form ts → NextRead (left_of LeftOfOr c) (ts ++ Bar ∷ [])
or_reads c ts r =
    let few = (takes_less c.stack).2 r.low in
    pushed (LeftOfOr c.form) c.stack r.out (r.inner ++ Bar ∷ []) (ts ++ Bar ∷ []) (split_more Bar ts r.out r.inner r.split) r.below
    (side_reads Disjunction Bar c.form r.inner (to_disjunction r.level r.inner c.form r.tight r.reads)) (omega arith)

implies_reads : (c : Completed) (ts : List Token) → Reduced 2 c.stack c.form ts → NextRead (left_of LeftOfImplies c) (ts ++ Arrow ∷ [])
implies_reads c ts r =
    pushed (LeftOfImplies c.form) c.stack r.out (r.inner ++ Arrow ∷ []) (ts ++ Arrow ∷ []) (split_more Arrow ts r.out r.inner r.split)
    r.below (side_reads Disjunction Arrow c.form r.inner (to_disjunction r.level r.inner c.form r.tight r.reads))
    ((takes_less c.stack).2 r.low)

between_reads : (op : Infix) (c : Completed) (ts : List Token) → Reduced 5 c.stack c.form ts → NextRead (letter_after op c) (ts ++ InfixLetter op ∷ [])
between_reads op c ts r = record {
  out = r.out;
  inner = r.inner ++ InfixLetter op ∷ [];
  split = split_more (InfixLetter op) ts r.out r.inner r.split;
  prefix_form = r.below;
  reads = record { letter = r.inner ++ InfixLetter op ∷ []; split = sym (append-nil (r.inner ++ InfixLetter op ∷ [])); reads = side_reads Unary (InfixLetter op) c.form r.inner (to_unary r.level r.inner c.form r.tight r.reads); fits = (takes_less c.stack).0 r.low };
}

closes : (ps : List Pending) (f : Form) (ts : List Token) → Reduced 1 (Opened ∷ ps) f ts → StateRead ps (Read f) (ts ++ Close ∷ [])
closes ps f ts r =
    let below = r.below in
    record {
      out = below.0;
      inner = (Open ∷ r.inner) ++ Close ∷ [];
      split = ap (λ xs. xs ++ Close ∷ []) (r.split ∙ ap (λ xs. xs ++ r.inner) (below.2 ∙ ap (λ xs. below.0 ++ xs) below.4)) ∙ simp append_assoc;
      prefix_form = below.3;
      reads = parentheses r.inner ((Open ∷ r.inner) ++ Close ∷ []) f refl (to_implication r.level r.inner f r.reads);
    }

close_reads : (stack : List Pending) (f : Form) (ts : List Token) → Reduced 1 stack f ts → NextRead (closed (record { stack = stack; form = f })) (ts ++ Close ∷ [])
close_reads [] f ts r = tt
close_reads (Opened ∷ ps) f ts r = closes ps f ts r
close_reads (Negation ∷ ps) f ts r = let low = r.low in absurd (omega arith)
close_reads (Timed (OfOne op) I ∷ ps) f ts r = let low = r.low in absurd (omega arith)
close_reads (Timed (OfTwo op g) I ∷ ps) f ts r = let low = r.low in absurd (omega arith)
close_reads (LeftOfAnd g ∷ ps) f ts r = let low = r.low in absurd (omega arith)
close_reads (LeftOfOr g ∷ ps) f ts r = let low = r.low in absurd (omega arith)
close_reads (LeftOfImplies g ∷ ps) f ts r = let low = r.low in absurd (omega arith)

read_reads : (stack : List Pending) (f : Form) (t : Token) (ts : List Token) → StateRead stack (Read f) ts → NextRead (step_read plain stack f t) (ts ++ t ∷ [])
read_reads stack f Close ts read = close_reads (complete plain 1 stack f).stack (complete plain 1 stack f).form ts (operand_reads 1 stack f ts (omega arith) (omega arith) read)
read_reads stack f Ampersand ts read = and_reads (complete plain 3 stack f) ts (operand_reads 3 stack f ts (omega arith) (omega arith) read)
read_reads stack f Bar ts read = or_reads (complete plain 2 stack f) ts (operand_reads 2 stack f ts (omega arith) (omega arith) read)
read_reads stack f Arrow ts read = implies_reads (complete plain 2 stack f) ts (operand_reads 2 stack f ts (omega arith) (omega arith) read)
read_reads stack f (InfixLetter op) ts read = between_reads op (complete plain 5 stack f) ts (operand_reads 5 stack f ts (omega arith) (omega arith) read)
read_reads stack f _ ts read = tt

step_reads : (stack : List Pending) (stage : Stage) (t : Token) (ts : List Token) → StateRead stack stage ts → NextRead (step_at plain stack stage t) (ts ++ t ∷ [])
step_reads stack Wanted = wanted_reads stack
step_reads stack (HostRead host) = host_reads stack host
step_reads stack (DotRead host) = dot_reads stack host
step_reads stack (LetterRead l) = letter_reads stack l
step_reads stack (BracketRead l) = bracket_reads stack l
step_reads stack (LowRead l low) = low_reads stack l low
step_reads stack (CommaRead l low) = comma_reads stack l low
step_reads stack (HighRead l I) = high_reads stack l I
step_reads stack (Read f) = read_reads stack f

finished_reads : (c : Completed) (ts : List Token) (f : Form) → Reduced 1 c.stack c.form ts → finished c ≡ Some f → Reads Implication ts f
finished_reads c ts f = by c.stack c.form
  where
    by : (stack : List Pending) (g : Form) → Reduced 1 stack g ts → finished (record { stack = stack; form = g }) ≡ Some f → Reads Implication ts f
    by [] g r h =
        let same : g ≡ f = cc in
        let all : r.inner ≡ ts = sym (r.split ∙ ap (λ xs. xs ++ r.inner) r.below) in
        subst (λ xs. Reads Implication xs f) all (subst (λ k. Reads Implication r.inner k) same (to_implication r.level r.inner g r.reads))
    by (p ∷ ps) g r h = absurd (cc)

finish_reads : (stack : List Pending) (stage : Stage) (ts : List Token) (f : Form) → StateRead stack stage ts → finish_at plain stack stage ≡ Some f → Reads Implication ts f
finish_reads stack (Read g) ts f read h = finished_reads (complete plain 1 stack g) ts f (operand_reads 1 stack g ts (omega arith) (omega arith) read) h
finish_reads stack _ ts f read h = absurd (cc)

reads_from : (ts : List Token) (s : State) (done : List Token) (f : Form) → StateRead s.stack s.stage done → run s ts ≡ Some f → Reads Implication (done ++ ts) f
reads_from [] s done f read h = subst (λ xs. Reads Implication xs f) (sym (append-nil done)) (finish_reads s.stack s.stage done f read h)
reads_from (t ∷ ts) s done f read h =
    let more : (o : Option State) → NextRead o (done ++ t ∷ []) → option_and_then (λ next. run next ts) o ≡ Some f → Reads Implication (done ++ t ∷ ts) f = λ o. elim o as (λ o. NextRead o (done ++ t ∷ []) → option_and_then (λ next. run next ts) o ≡ Some f → Reads Implication (done ++ t ∷ ts) f) [
      | None ↦ λ r e. absurd (cc)
      | Some next ↦ λ r e. subst (λ xs. Reads Implication xs f) (append_assoc done (t ∷ []) ts) (reads_from ts next (done ++ t ∷ []) f r e)
    ] in
    more (step plain s t) (step_reads s.stack s.stage t done read) h

-- what tokens lead to is what they are
pub reads-run : (ts : List Token) (f : Form) → run begin ts ≡ Some f → Reads Implication ts f
reads-run ts f h = reads_from ts begin [] f (record { out = []; inner = []; split = refl; prefix_form = refl; reads = refl }) h
