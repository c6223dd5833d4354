-- The records that reading a text gives one after another are all records of the text.
use Rattle.std.proofs.Common.{◌≡◌, ◌∙◌, sym, ap, refl, arith, ℕ, zero, suc, ◌+◌, ◌<◌, ◌≤◌, Bool, true, false, cond, List, [], ◌∷◌, ◌++◌, length, Option, Some, None}
use Rattle.std.specs.Prelude.{◌==◌, ◌||◌, if◌then◌else◌}
use Rattle.csv.specs.Machine.{Read, ends_at_end, field_after, fields_after, in_field, start_field, start_record, is_end, next_record, step}
use Rattle.csv.specs.Reading.{AreRecords, Reached, default_config, is_bom, records, records_from, records_next, strip_bom}
use Rattle.csv.specs.declared.parser.Action.{Action}
use Rattle.csv.specs.declared.parser.Action.TheVariants as act
use Rattle.csv.specs.declared.parser.State.{State}
use Rattle.csv.specs.declared.parser.State.TheVariants as st

-- a step that ends a record goes to a state in which the text may end
abbrev RestsAtEnd : State × Action → Type 0
RestsAtEnd p = is_end p.1 ≡ true → ends_at_end p.0 ≡ false

cond-rests : (b : Bool) (p q : State × Action) → RestsAtEnd p → RestsAtEnd q → RestsAtEnd (cond b p q)
cond-rests true p q x y = x
cond-rests false p q x y = y

after_end-rests : (b : Bool) → ends_at_end (cond b st.AfterCr st.StartRecord) ≡ false
after_end-rests true = refl
after_end-rests false = refl

in_field-rests : (c : ℕ) → RestsAtEnd (in_field default_config c)
in_field-rests c =
    cond-rests (c == 44) (st.StartField, act.EndField) _ (λ h. cc)
    (cond-rests ((c == 13) || (c == 10)) (cond (c == 13) st.AfterCr st.StartRecord, act.EndRecord) (st.InField, act.Copy) (λ h. after_end-rests (c == 13)) (λ h. cc))

start_field-rests : (c : ℕ) → RestsAtEnd (start_field default_config c)
start_field-rests c = cond-rests (c == 34) (st.InQuoted, act.Skip) (in_field default_config c) (λ h. cc) (in_field-rests c)

start_record-rests : (c : ℕ) → RestsAtEnd (start_record default_config c)
start_record-rests c = cond-rests ((c == 13) || (c == 10)) (st.StartRecord, act.Skip) (start_field default_config c) (λ h. cc) (start_field-rests c)

step-rests : (s : State) (c : ℕ) → RestsAtEnd (step default_config s c)
step-rests st.StartRecord c = start_record-rests c
step-rests st.StartField c = start_field-rests c
step-rests st.InField c = in_field-rests c
step-rests st.InQuoted c = cond-rests (c == 34) (st.AfterQuote, act.Skip) (st.InQuoted, act.Copy) (λ h. cc) (λ h. cc)
step-rests st.InEscape c = λ h. cc
step-rests st.AfterQuote c = cond-rests (c == 34) (st.InQuoted, act.Copy) (in_field default_config c) (λ h. cc) (in_field-rests c)
step-rests st.InComment c = cond-rests (c == 10) (st.StartRecord, act.Skip) (st.InComment, act.Skip) (λ h. cc) (λ h. cc)
step-rests st.AfterCr c = cond-rests (c == 10) (st.StartRecord, act.Skip) (start_record default_config c) (λ h. cc) (start_record-rests c)

-- a record takes a byte or more, unless the text is at its end, and rests in a state in which the text may end
record Takes (xs : List ℕ) (p : Read) : Type 0 where
  most : length p.2 ≤ length xs
  some : 0 < length xs → length p.2 < length xs
  rests : ends_at_end p.1 ≡ false

takes : (s : State) (fields : List (List ℕ)) (field xs : List ℕ) (p : Read) → next_record default_config s fields field xs ≡ Some p → Takes xs p
unfolding next_record
takes s fields field [] p h = ended (ends_at_end s) h
  where
    ended : (b : Bool) → cond b (Some (let r : Read = (fields ++ (field ∷ []), st.StartRecord, []) in r)) None ≡ Some p → Takes [] p
    ended true h = let e : p ≡ (fields ++ (field ∷ []), st.StartRecord, []) = cc in rw e (record { most = omega arith; some = λ n. absurd (omega arith); rests = refl })
    ended false h = cc
takes s fields field (c ∷ rest) p h =
    went (is_end (step default_config s c).1) refl h
    (takes (step default_config s c).0 (fields_after (step default_config s c).1 fields field) (field_after (step default_config s c).1 c field) rest p)
  where
    went : (b : Bool) → is_end (step default_config s c).1 ≡ b
        → cond b (Some (let r : Read = (fields_after (step default_config s c).1 fields field, (step default_config s c).0, rest) in r))
        (next_record default_config (step default_config s c).0 (fields_after (step default_config s c).1 fields field) (field_after (step default_config s c).1 c field) rest) ≡ Some p
        → (next_record default_config (step default_config s c).0 (fields_after (step default_config s c).1 fields field) (field_after (step default_config s c).1 c field) rest ≡ Some p
        → Takes rest p)
        → Takes (c ∷ rest) p
    went true is h more = let e : p ≡ (fields_after (step default_config s c).1 fields field, (step default_config s c).0, rest) = cc in
        rw e (record { most = omega arith; some = λ n. omega arith; rests = step-rests s c is })
    went false is h more =
        let t = more h in
        record { most = omega (arith, t.most); some = λ n. omega (arith, t.most); rests = t.rests }

-- nothing is left to read at the end of a text
none_at_end : (s : State) → ends_at_end s ≡ false → next_record default_config s [] [] [] ≡ None
unfolding next_record
none_at_end s h = rw h refl

records_from-reached : (n : ℕ) (s : State) (xs : List ℕ) (rows : List (List (List ℕ))) (s2 : State) (ys : List ℕ) → ends_at_end s ≡ false → length xs < n
    → Reached default_config s xs rows s2 ys → next_record default_config s2 [] [] ys ≡ None → records_from default_config n s xs ≡ rows
unfolding records_from Reached
records_from-reached zero s xs rows s2 ys rests short reached end = absurd (omega arith)
records_from-reached (suc n) s xs [] s2 ys rests short reached end = rw (reached.0, reached.1, end) refl
records_from-reached (suc n) s xs (r ∷ rs) s2 ys rests short reached end =
    let p = reached.0 in
    let t = takes s [] [] xs p reached.1 in
    let less : length p.2 < n = by xs short reached.1 t in
    rw reached.1 (ap (λ q. q ∷ records_from default_config n p.1 p.2) (sym reached.2) ∙ ap (λ qs. r ∷ qs) (records_from-reached n p.1 p.2 rs s2 ys t.rests less reached.3 end))
  where
    by : (zs : List ℕ) → length zs < suc n → next_record default_config s [] [] zs ≡ Some reached.0 → Takes zs reached.0 → length (reached.0).2 < n
    by [] shorter one t = cc (none_at_end s rests)
    by (z ∷ zs) shorter one t = omega (arith, t.some (omega arith))

pub all-records : (xs : List ℕ) (rows : List (List (List ℕ))) → AreRecords default_config st.StartRecord xs rows → records default_config xs ≡ rows
all-records xs rows are = records_from-reached (length xs + 1) st.StartRecord xs rows are.0 are.1 refl (omega arith) are.2 are.3

length-records_next : (n : ℕ) (more : State → List ℕ → List (List (List ℕ))) → ((s : State) (xs : List ℕ) → length (more s xs) ≤ n) → (o : Option Read) → length (records_next more o) ≤ suc n
length-records_next n more few None = omega arith
length-records_next n more few (Some p) = let rest = few p.1 p.2 in omega (arith, rest)

length-records_from : (n : ℕ) (s : State) (xs : List ℕ) → length (records_from default_config n s xs) ≤ n
unfolding records_from
length-records_from zero s xs = omega arith
length-records_from (suc n) s xs = length-records_next n (records_from default_config n) (length-records_from n) (next_record default_config s [] [] xs)

length-strip_bom : (bytes : List ℕ) → length (strip_bom bytes) ≤ length bytes
unfolding strip_bom
length-strip_bom [] = omega arith
length-strip_bom (a ∷ []) = omega arith
length-strip_bom (a ∷ b ∷ []) = omega arith
length-strip_bom (a ∷ b ∷ c ∷ rest) = by (is_bom a b c)
  where
    by : (mark : Bool) → length (if mark then rest else a ∷ b ∷ c ∷ rest) ≤ length (a ∷ b ∷ c ∷ rest)
    by true = omega arith
    by false = omega arith

-- a file has at most one record more than bytes
pub length-records : (bytes : List ℕ) → length (records default_config (strip_bom bytes)) ≤ length bytes + 1
length-records bytes =
    let few = length-records_from (length (strip_bom bytes) + 1) st.StartRecord (strip_bom bytes) in
    omega (arith, few, length-strip_bom bytes)
