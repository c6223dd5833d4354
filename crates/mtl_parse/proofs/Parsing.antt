-- From what the code reads to the answer for a text.
use Rattle.std.proofs.Common.{◌≡◌, ◌∙◌, sym, ap, refl, subst, arith, ℕ, ◌≤◌, ◌<◌, ◌^◌, true, List, [], ◌∷◌, length, Option, Some, None, Result, Ok, Err}
use Rattle.std.specs.Prelude.{◌&&◌, map, option_map}
use Rattle.std.specs.List.{list_all}
use Rattle.mt_model.specs.declared.limits.TheConstants.{MAX_HEIGHT}
use Rattle.mt_model.specs.Form.{Form, IsFormula, height_of}
use Rattle.mtl_parse.specs.declared.fault.FormulaFault.{FormulaFault}
use Rattle.mtl_parse.specs.declared.fault.FormulaFault.TheVariants as fault
use Rattle.mtl_parse.specs.Tokens.{Placed, tokens_of}
use Rattle.mtl_parse.specs.Grammar.{Implication, Reads}
use Rattle.mtl_parse.specs.FormulaOf.{FormulaOf, empty, empty_interval, first_empty_interval, formula, tokens_in, too_deep}
use Rattle.mtl_parse.specs.Machine.{State, begin, capped, ended, ended_after, finish, is_sound, read_all, read_whole, tall}
use Rattle.mtl_parse.specs.States.{placed_in, token_in}
use Rattle.mtl_parse.specs.declared.token.Placed.{Placed as ScannedPlaced}
use Rattle.mtl_parse.proofs.Completeness.{plain}
use Rattle.mtl_parse.proofs.Judging.{given_end, given_refused, read_formula, refused}
use Rattle.mtl_parse.proofs.Capping.{Fits, cap_result, capped-high, capped-low, finish_capped, fits, fits_in, read_all_capped, tall_high, too_high}
use Rattle.mtl_parse.proofs.SoundTokens.{tokens-sound}
use Rattle.mtl_parse.proofs.Valid.{text-valid}

-- the same with no formula replaced
whole_capped : (n : ℕ) (ps : List Placed) → read_whole capped n ps ≡ ended_after capped n (cap_result (read_all plain begin ps))
whole_capped n ps = ap (ended_after capped n) (read_all_capped ps begin)

-- the formula that the tokens are, of which the code keeps the capped one
record WasRead (ps : List Placed) (g : Form) : Type 0 where
  form : Form
  reads : Reads Implication (tokens_in ps) form
  capped_is : capped form ≡ g

was_read : (n : ℕ) (ps : List Placed) (g : Form) → read_whole capped n ps ≡ Ok g → WasRead ps g
was_read n ps g h = at (read_all plain begin ps) refl (sym (whole_capped n ps) ∙ h)
  where
    at_end : (s : State) → read_all plain begin ps ≡ Ok s → (m : Option Form) → finish plain s ≡ m → ended n (option_map capped m) ≡ Ok g → WasRead ps g
    at_end s is None none e = absurd (cc)
    at_end s is (Some f) found e = record { form = f; reads = read_formula ps s f is found; capped_is = cc }

    at : (r : Result State FormulaFault) → read_all plain begin ps ≡ r → ended_after capped n (cap_result r) ≡ Ok g → WasRead ps g
    at (Err x) is e = absurd (cc)
    at (Ok s) is e = at_end s is (finish plain s) refl (ap (ended n) (sym (finish_capped s.stack s.stage)) ∙ e)

-- a fault of the tokens
pub fault-read : (text : List ℕ) (ps : List Placed) (x : FormulaFault) → tokens_of text ≡ Ok ps → (ps ≡ [] → ⊥) → read_whole capped (length text) ps ≡ Err x → FormulaOf text (Err x)
fault-read text ps x scanned some h = at (read_all plain begin ps) refl (sym (whole_capped (length text) ps) ∙ h)
  where
    at_end : (s : State) → read_all plain begin ps ≡ Ok s → (m : Option Form) → finish plain s ≡ m → ended (length text) (option_map capped m) ≡ Err x → FormulaOf text (Err x)
    at_end s is (Some f) found e = absurd (cc)
    at_end s is None none e = subst (λ y. FormulaOf text y) e (given_end text ps s scanned some is (first_empty_interval ps) refl None none)

    at : (r : Result State FormulaFault) → read_all plain begin ps ≡ r → ended_after capped (length text) (cap_result r) ≡ Err x → FormulaOf text (Err x)
    at (Err y) is e = subst (λ z. FormulaOf text z) e (given_refused text ps y scanned (refused ps begin y is))
    at (Ok s) is e = at_end s is (finish plain s) refl (ap (ended (length text)) (sym (finish_capped s.stack s.stage)) ∙ e)

-- a formula with an empty interval
pub empty-read : (text : List ℕ) (ps : List Placed) (n byte : ℕ) (g : Form) → tokens_of text ≡ Ok ps → read_whole capped n ps ≡ Ok g
    → first_empty_interval ps ≡ Some byte → FormulaOf text (Err (fault.EmptyInterval byte))
empty-read text ps n byte g scanned h found = let w = was_read n ps g h in empty_interval ps byte scanned (w.form, w.reads) found

-- a formula of which nothing is kept
pub high-read : (text : List ℕ) (ps : List Placed) (n : ℕ) → tokens_of text ≡ Ok ps → read_whole capped n ps ≡ Ok tall → first_empty_interval ps ≡ None → FormulaOf text (Err (fault.TooDeep 0))
high-read text ps n scanned h none = let w = was_read n ps tall h in too_deep ps w.form scanned w.reads none (by w (fits w.form))
  where
    by : (w : WasRead ps tall) → Fits w.form → MAX_HEIGHT < height_of w.form
    by w (too_high high) = high
    by w (fits_in low) = let same : w.form ≡ tall = sym (capped-low w.form low) ∙ w.capped_is in subst (λ f. MAX_HEIGHT < height_of f) (sym same) tall_high

low_same : (ps : List Placed) (g : Form) (w : WasRead ps g) → height_of g ≤ MAX_HEIGHT → w.form ≡ g
low_same ps g w low = by (fits w.form)
  where
    by : Fits w.form → w.form ≡ g
    by (fits_in is_low) = sym (capped-low w.form is_low) ∙ w.capped_is
    by (too_high high) =
        let same : tall ≡ g = sym (capped-high w.form high) ∙ w.capped_is in
        let over = subst (λ f. MAX_HEIGHT < height_of f) same tall_high in
        absurd (omega (arith, over))

low_reads : (ps : List Placed) (n : ℕ) (g : Form) → read_whole capped n ps ≡ Ok g → height_of g ≤ MAX_HEIGHT → Reads Implication (tokens_in ps) g
low_reads ps n g h low = let w = was_read n ps g h in subst (λ f. Reads Implication (tokens_in ps) f) (low_same ps g w low) w.reads

-- a formula that is kept
pub low-read : (text : List ℕ) (ps : List Placed) (n : ℕ) (g : Form) → tokens_of text ≡ Ok ps → read_whole capped n ps ≡ Ok g
    → first_empty_interval ps ≡ None → height_of g ≤ MAX_HEIGHT → FormulaOf text (Ok g)
low-read text ps n g scanned h none low = formula ps g scanned (low_reads ps n g h low) none low

pub low-valid : (text : List ℕ) (ps : List Placed) (n : ℕ) (g : Form) → length text < 2 ^ 31 → tokens_of text ≡ Ok ps
    → read_whole capped n ps ≡ Ok g → first_empty_interval ps ≡ None → height_of g ≤ MAX_HEIGHT → IsFormula g
low-valid text ps n g short scanned h none low = text-valid text ps g short scanned (low_reads ps n g h low) none low

-- a text without tokens
pub none-read : (text : List ℕ) (items : List ScannedPlaced) → tokens_of text ≡ Ok (map placed_in items) → length items ≡ 0 → FormulaOf text (Err (fault.Empty 0))
none-read text [] scanned none = empty scanned
none-read text (p ∷ ps) scanned none = absurd (omega arith)

pub some-read : (items : List ScannedPlaced) → 0 < length items → map placed_in items ≡ [] → ⊥
some-read [] some none = absurd (omega arith)
some-read (p ∷ ps) some none = absurd (cc)

sound_items : (items : List ScannedPlaced) → list_all (λ p. is_sound p.token) (map placed_in items) ≡ list_all (λ p. is_sound (token_in p.token)) items
sound_items [] = refl
sound_items (p ∷ ps) = ap (λ v. is_sound (token_in p.token) && v) (sound_items ps)

-- the tokens that were scanned are sound
pub sound-read : (text : List ℕ) (items : List ScannedPlaced) → tokens_of text ≡ Ok (map placed_in items) → list_all (λ p. is_sound (token_in p.token)) items ≡ true
sound-read text items scanned = sym (sound_items items) ∙ tokens-sound text (map placed_in items) scanned
