-- Each text has one answer, which the machine gives.
use Rattle.std.proofs.Common.{◌≡◌, ◌∙◌, sym, ap, refl, subst, ℕ, true, false, List, [], ◌∷◌, ◌++◌, length, append-nil, Option, Some, None, Result, Ok, Err, inl, inr}
use Rattle.std.specs.Prelude.{nat_le, is_some, if◌then◌else◌, option_and_then}
use Rattle.std.proofs.lemmas.Bool.{cases_Bool, le-leb, lt-leb, leb-true, leb-false}
use Rattle.mt_model.specs.declared.limits.TheConstants.{MAX_HEIGHT}
use Rattle.mt_model.specs.Form.{Form, height_of}
use Rattle.mtl_parse.specs.declared.fault.FormulaFault.{FormulaFault}
use Rattle.mtl_parse.specs.declared.fault.FormulaFault.TheVariants as fault
use Rattle.mtl_parse.specs.Tokens.{Token, Placed, tokens_of}
use Rattle.mtl_parse.specs.Grammar.{Implication, Reads}
use Rattle.mtl_parse.specs.FormulaOf.{Begins, FormulaOf, IsUnexpected, Whole, tokens_in, first_empty_interval, scanned_in_part, empty, trailing, unexpected, cut_short, empty_interval, too_deep, formula}
use Rattle.mtl_parse.specs.Machine.{State, begin, finish, is_whole, read_after, read_all, read_one, refusal, step, step_result}
use Rattle.mtl_parse.proofs.Completeness.{plain, run, run-reads}
use Rattle.mtl_parse.proofs.Soundness.{reads-run}
use Rattle.mtl_parse.proofs.Viability.{reaches, whole}

-- what tokens give after a state, if it was reached
abbrev pub run_after : Result State FormulaFault → List Token → Option Form
run_after (Ok s) ts = run s ts
run_after (Err e) ts = None

run_placed : (ps : List Placed) (s : State) (more : List Token) → run s (tokens_in ps ++ more) ≡ run_after (read_all plain s ps) more
run_placed [] s more = refl
run_placed (p ∷ ps) s more = next (λ n. run_placed ps n more) (step plain s p.token)
  where
    next : ((n : State) → run n (tokens_in ps ++ more) ≡ run_after (read_all plain n ps) more) → (o : Option State)
        → option_and_then (λ s. run s (tokens_in ps ++ more)) o ≡ run_after (read_after (step_result o (refusal s p.byte)) (λ n. read_all plain n ps)) more
    next on None = refl
    next on (Some n) = on n

reached : (r : Result State FormulaFault) (more : List Token) (f : Form) → run_after r more ≡ Some f → (s : State) × (r ≡ Ok s)
reached (Ok s) more f h = (s, refl)
reached (Err e) more f h = absurd (cc)

-- tokens that a formula begins with are read
begins_read : (ps : List Placed) → Begins ps → (s : State) × (read_all plain begin ps ≡ Ok s)
begins_read ps b = reached (read_all plain begin ps) b.0 b.1 (sym (run_placed ps begin b.0) ∙ run-reads (tokens_in ps ++ b.0) b.1 b.2)

read_begins : (ps : List Placed) (s : State) → read_all plain begin ps ≡ Ok s → Begins ps
read_begins ps s h =
    let r = reaches s.stack s.stage in
    (r.more, r.form, reads-run (tokens_in ps ++ r.more) r.form (run_placed ps begin r.more ∙ ap (λ x. run_after x r.more) h ∙ r.leads))

whole_run : (ps : List Placed) (s : State) → read_all plain begin ps ≡ Ok s → run begin (tokens_in ps) ≡ finish plain s
whole_run ps s h = ap (run begin) (sym (append-nil (tokens_in ps))) ∙ run_placed ps begin [] ∙ ap (λ x. run_after x []) h

-- the tokens of a formula are read, and give it
formula_read : (ps : List Placed) (f : Form) → Reads Implication (tokens_in ps) f → (s : State) × (read_all plain begin ps ≡ Ok s) × (finish plain s ≡ Some f)
formula_read ps f r =
    let all : Begins ps = ([], f, subst (λ ts. Reads Implication ts f) (sym (append-nil (tokens_in ps))) r) in
    let b = begins_read ps all in
    (b.0, b.1, sym (whole_run ps b.0 b.1) ∙ run-reads (tokens_in ps) f r)

pub read_formula : (ps : List Placed) (s : State) (f : Form) → read_all plain begin ps ≡ Ok s → finish plain s ≡ Some f → Reads Implication (tokens_in ps) f
read_formula ps s f h e = reads-run (tokens_in ps) f (whole_run ps s h ∙ e)

some_form : (o : Option Form) → is_some o ≡ true → (f : Form) × (o ≡ Some f)
some_form None h = absurd (cc)
some_form (Some f) h = (f, refl)

none_form : (o : Option Form) → is_some o ≡ false → o ≡ None
none_form None h = refl
none_form (Some f) h = absurd (cc)

-- the tokens before a state are a formula where it is whole
whole_read : (ps : List Placed) (s : State) → read_all plain begin ps ≡ Ok s → is_whole s ≡ true → Whole ps
whole_read ps s h w = let f = some_form (finish plain s) (whole s.stack s.stage ∙ w) in (f.0, read_formula ps s f.0 h f.1)

not_whole_read : (ps : List Placed) (s : State) → read_all plain begin ps ≡ Ok s → finish plain s ≡ None → Whole ps → ⊥
not_whole_read ps s h none w = let other : None ≡ Some w.0 = sym none ∙ sym (whole_run ps s h) ∙ run-reads (tokens_in ps) w.0 w.1 in absurd (cc)

is_whole_read : (ps : List Placed) (s : State) → read_all plain begin ps ≡ Ok s → Whole ps → is_whole s ≡ true
is_whole_read ps s h w = sym (whole s.stack s.stage) ∙ ap is_some (sym (whole_run ps s h) ∙ run-reads (tokens_in ps) w.0 w.1)

is_not_whole : (ps : List Placed) (s : State) → read_all plain begin ps ≡ Ok s → (Whole ps → ⊥) → is_whole s ≡ false
is_not_whole ps s h other = elim (cases_Bool (is_whole s)) [
  | inl w ↦ absurd (other (whole_read ps s h w))
  | inr w ↦ w
]

read_before : (front rest : List Placed) (s next : State) → read_all plain s front ≡ Ok next → read_all plain s (front ++ rest) ≡ read_all plain next rest
read_before [] rest s next h = let same : s ≡ next = cc in ap (λ s. read_all plain s rest) same
read_before (p ∷ ps) rest s next h = by (λ n. read_before ps rest n next) (read_one plain s p) h
  where
    by : ((n : State) → read_all plain n ps ≡ Ok next → read_all plain n (ps ++ rest) ≡ read_all plain next rest)
        → (r : Result State FormulaFault) → read_after r (λ n. read_all plain n ps) ≡ Ok next
        → read_after r (λ n. read_all plain n (ps ++ rest)) ≡ read_all plain next rest
    by on (Ok n) h = on n h
    by on (Err e) h = absurd (cc)

-- the fault of the first token that is refused
pub record Refused (s : State) (ps : List Placed) (e : FormulaFault) : Type 0 where
  pub front : List Placed
  pub place : Placed
  pub after : List Placed
  pub state : State
  pub parts : ps ≡ front ++ place ∷ after
  pub reaches : read_all plain s front ≡ Ok state
  pub refuses : step plain state place.token ≡ None
  pub fault : e ≡ refusal state place.byte

pub refused : (ps : List Placed) (s : State) (e : FormulaFault) → read_all plain s ps ≡ Err e → Refused s ps e
refused [] s e h = absurd (cc)
refused (p ∷ ps) s e h = by (λ n. refused ps n e) (step plain s p.token) refl h
  where
    by : ((n : State) → read_all plain n ps ≡ Err e → Refused n ps e) → (o : Option State) → step plain s p.token ≡ o
        → read_after (step_result o (refusal s p.byte)) (λ n. read_all plain n ps) ≡ Err e → Refused s (p ∷ ps) e
    by on None is h = record { front = []; place = p; after = ps; state = s; parts = refl; reaches = refl; refuses = is; fault = cc }
    by on (Some n) is h =
        let r = on n h in
        record {
          front = p ∷ r.front;
          place = r.place;
          after = r.after;
          state = r.state;
          parts = ap (λ xs. p ∷ xs) r.parts;
          reaches = ap (λ o. read_after (step_result o (refusal s p.byte)) (λ n. read_all plain n r.front)) is ∙ r.reaches;
          refuses = r.refuses;
          fault = r.fault;
        }

one_read : (front : List Placed) (p : Placed) (s : State) → read_all plain begin front ≡ Ok s
    → read_all plain begin (front ++ p ∷ []) ≡ read_after (step_result (step plain s p.token) (refusal s p.byte)) Ok
one_read front p s h = read_before front (p ∷ []) begin s h ∙ by (step_result (step plain s p.token) (refusal s p.byte))
  where
    by : (r : Result State FormulaFault) → read_after r (λ n. Ok n) ≡ read_after r Ok
    by (Ok n) = refl
    by (Err e) = refl

is_unexpected : (ps front after : List Placed) (p : Placed) (s : State) → ps ≡ front ++ p ∷ after → read_all plain begin front ≡ Ok s → step plain s p.token ≡ None → IsUnexpected ps front p
is_unexpected ps front after p s parts h none = record {
  after = after;
  parts = parts;
  begins = read_begins front s h;
  unexpected = λ b.
      let r = begins_read (front ++ p ∷ []) b in
      let other : Err (refusal s p.byte) ≡ Ok r.0 = sym (one_read front p s h ∙ ap (λ o. read_after (step_result o (refusal s p.byte)) Ok) none) ∙ r.1 in
      absurd (cc);
}

-- the token that is unexpected is refused
refuses_unexpected : (ps front : List Placed) (p : Placed) → IsUnexpected ps front p → (s : State) × (read_all plain begin front ≡ Ok s) × (read_all plain begin ps ≡ Err (refusal s p.byte))
refuses_unexpected ps front p u =
    let b = begins_read front u.begins in
    let none = by (step plain b.0 p.token) refl in
    (b.0, b.1, ap (read_all plain begin) u.parts ∙ read_before front (p ∷ u.after) begin b.0 b.1 ∙ ap (λ o. read_after (step_result o (refusal b.0 p.byte)) (λ n. read_all plain n u.after)) none)
  where
    by : (o : Option State) → step plain (begins_read front u.begins).0 p.token ≡ o → step plain (begins_read front u.begins).0 p.token ≡ None
    by None is = is
    by (Some n) is =
        absurd (u.unexpected (read_begins (front ++ p ∷ []) n
        (one_read front p (begins_read front u.begins).0 (begins_read front u.begins).1
        ∙ ap (λ o. read_after (step_result o (refusal (begins_read front u.begins).0 p.byte)) Ok) is)))

-- the answer for what was read to the end
abbrev pub judged_end : ℕ → Option ℕ → Option Form → Result Form FormulaFault
judged_end n o None = Err (fault.Expected n)
judged_end n (Some byte) (Some f) = Err (fault.EmptyInterval byte)
judged_end n None (Some f) = if nat_le (height_of f) MAX_HEIGHT then Ok f else Err (fault.TooDeep 0)

abbrev pub judged_tokens : ℕ → List Placed → Result State FormulaFault → Result Form FormulaFault
judged_tokens n ps (Err e) = Err e
judged_tokens n ps (Ok s) = judged_end n (first_empty_interval ps) (finish plain s)

abbrev pub judged : ℕ → Result (List Placed) FormulaFault → Result Form FormulaFault
judged n (Err e) = Err e
judged n (Ok []) = Err (fault.Empty 0)
judged n (Ok (p ∷ ps)) = judged_tokens n (p ∷ ps) (read_all plain begin (p ∷ ps))

-- the answer for a text
abbrev pub outcome : List ℕ → Result Form FormulaFault
outcome text = judged (length text) (tokens_of text)

some_tokens : (n : ℕ) (ps : List Placed) → (ps ≡ [] → ⊥) → judged n (Ok ps) ≡ judged_tokens n ps (read_all plain begin ps)
some_tokens n [] h = absurd (h refl)
some_tokens n (p ∷ ps) h = refl

not_empty : (ps front after : List Placed) (p : Placed) → ps ≡ front ++ p ∷ after → ps ≡ [] → ⊥
not_empty ps [] after p h e = absurd (cc)
not_empty ps (q ∷ front) after p h e = absurd (cc)

no_formula : (f : Form) → Reads Implication [] f → ⊥
no_formula f r = let none : None ≡ Some f = run-reads [] f r in absurd (cc)

not_empty_formula : (ps : List Placed) (f : Form) → Reads Implication (tokens_in ps) f → ps ≡ [] → ⊥
not_empty_formula ps f r e = no_formula f (subst (λ ps. Reads Implication (tokens_in ps) f) e r)

judged_unexpected : (text : List ℕ) (ps front : List Placed) (p : Placed) → tokens_of text ≡ Ok ps → IsUnexpected ps front p
    → (s : State) × (read_all plain begin front ≡ Ok s) × (outcome text ≡ Err (refusal s p.byte))
judged_unexpected text ps front p scanned u =
    let r = refuses_unexpected ps front p u in
    (r.0, r.1, ap (judged (length text)) scanned ∙ some_tokens (length text) ps (not_empty ps front u.after p u.parts) ∙ ap (judged_tokens (length text) ps) r.2)

judged_formula : (text : List ℕ) (ps : List Placed) (f : Form) → tokens_of text ≡ Ok ps → Reads Implication (tokens_in ps) f
    → outcome text ≡ judged_end (length text) (first_empty_interval ps) (Some f)
judged_formula text ps f scanned r =
    let s = formula_read ps f r in
    ap (judged (length text)) scanned ∙ some_tokens (length text) ps (not_empty_formula ps f r) ∙ ap (judged_tokens (length text) ps) s.1 ∙ ap (judged_end (length text) (first_empty_interval ps)) s.2

-- no text has another answer
pub one_answer : (text : List ℕ) (r : Result Form FormulaFault) → FormulaOf text r → outcome text ≡ r
one_answer text r (scanned_in_part e scanned) = ap (judged (length text)) scanned
one_answer text r (empty scanned) = ap (judged (length text)) scanned
one_answer text r (trailing ps front p scanned u w) =
    let j = judged_unexpected text ps front p scanned u in
    j.2 ∙ ap (λ v. Err (if v then fault.Trailing p.byte else fault.Expected p.byte)) (is_whole_read front j.0 j.1 w)
one_answer text r (unexpected ps front p scanned u other) =
    let j = judged_unexpected text ps front p scanned u in
    j.2 ∙ ap (λ v. Err (if v then fault.Trailing p.byte else fault.Expected p.byte)) (is_not_whole front j.0 j.1 other)
one_answer text r (cut_short ps scanned some begins other) =
    let b = begins_read ps begins in
    let none : finish plain b.0 ≡ None = none_form (finish plain b.0) (whole b.0.stack b.0.stage ∙ is_not_whole ps b.0 b.1 other) in
    ap (judged (length text)) scanned ∙ some_tokens (length text) ps some ∙ ap (judged_tokens (length text) ps) b.1 ∙ ap (judged_end (length text) (first_empty_interval ps)) none
one_answer text r (empty_interval ps byte scanned w found) =
    judged_formula text ps w.0 scanned w.1 ∙ ap (λ o. judged_end (length text) o (Some w.0)) found
one_answer text r (too_deep ps f scanned reads none high) =
    judged_formula text ps f scanned reads ∙ ap (λ o. judged_end (length text) o (Some f)) none ∙ ap (λ v. if v then Ok f else Err (fault.TooDeep 0)) (lt-leb (height_of f) MAX_HEIGHT high)
one_answer text r (formula ps f scanned reads none low) =
    judged_formula text ps f scanned reads ∙ ap (λ o. judged_end (length text) o (Some f)) none ∙ ap (λ v. if v then Ok f else Err (fault.TooDeep 0)) (le-leb (height_of f) MAX_HEIGHT low)

pub given_refused : (text : List ℕ) (ps : List Placed) (e : FormulaFault) → tokens_of text ≡ Ok ps → Refused begin ps e → FormulaOf text (Err e)
given_refused text ps e scanned r = subst (λ e. FormulaOf text (Err e)) (sym r.fault) (elim (cases_Bool (is_whole r.state)) [
  | inl w ↦ rw w (trailing ps r.front r.place scanned (is_unexpected ps r.front r.after r.place r.state r.parts r.reaches r.refuses) (whole_read r.front r.state r.reaches w))
  | inr w ↦ rw w (unexpected ps r.front r.place scanned (is_unexpected ps r.front r.after r.place r.state r.parts r.reaches r.refuses) (λ v. let other : true ≡ false = sym (is_whole_read r.front r.state r.reaches v) ∙ w in absurd (cc)))
])

pub given_end : (text : List ℕ) (ps : List Placed) (s : State) → tokens_of text ≡ Ok ps → (ps ≡ [] → ⊥) → read_all plain begin ps ≡ Ok s
    → (o : Option ℕ) → first_empty_interval ps ≡ o → (m : Option Form) → finish plain s ≡ m → FormulaOf text (judged_end (length text) o m)
given_end text ps s scanned some h o is None none = cut_short ps scanned some (read_begins ps s h) (not_whole_read ps s h none)
given_end text ps s scanned some h (Some byte) is (Some f) found = empty_interval ps byte scanned (f, read_formula ps s f h found) is
given_end text ps s scanned some h None is (Some f) found = elim (cases_Bool (nat_le (height_of f) MAX_HEIGHT)) [
  | inl low ↦ rw low (formula ps f scanned (read_formula ps s f h found) is (leb-true (height_of f) MAX_HEIGHT low))
  | inr high ↦ rw high (too_deep ps f scanned (read_formula ps s f h found) is (leb-false (height_of f) MAX_HEIGHT high))
]

-- a text that is a formula
pub record IsFormulaText (text : List ℕ) (f : Form) : Type 0 where
  pub tokens : List Placed
  pub scanned : tokens_of text ≡ Ok tokens
  pub reads : Reads Implication (tokens_in tokens) f

abbrev FormulaIfOk : List ℕ → Result Form FormulaFault → Type 0
FormulaIfOk text (Ok f) = IsFormulaText text f
FormulaIfOk text (Err e) = Unit {0}

formula_if_ok : (text : List ℕ) (r : Result Form FormulaFault) → FormulaOf text r → FormulaIfOk text r
formula_if_ok text r (scanned_in_part e scanned) = tt
formula_if_ok text r (empty scanned) = tt
formula_if_ok text r (trailing ps front p scanned u w) = tt
formula_if_ok text r (unexpected ps front p scanned u other) = tt
formula_if_ok text r (cut_short ps scanned some begins other) = tt
formula_if_ok text r (empty_interval ps byte scanned w found) = tt
formula_if_ok text r (too_deep ps f scanned reads none high) = tt
formula_if_ok text r (formula ps f scanned reads none low) = record { tokens = ps; scanned = scanned; reads = reads }

pub formula_text : (text : List ℕ) (f : Form) → FormulaOf text (Ok f) → IsFormulaText text f
formula_text text f is = formula_if_ok text (Ok f) is
