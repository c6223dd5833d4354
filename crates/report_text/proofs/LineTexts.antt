-- The lines of a report have no newline, and tell their values apart.
use Rattle.std.proofs.Common.{◌≡◌, ◌∙◌, sym, ap, subst, refl, arith, ℕ, Bool, true, false, List, [], ◌∷◌, ◌++◌, get_or, Option, Some, codes, ℤ}
use Rattle.std.specs.Prelude.{◌&&◌, not}
use Rattle.std.specs.Fmt.{decimal, signed_decimal}
use Rattle.std.specs.List.{join_with_byte, list_all, slice_split}
use Rattle.std.proofs.lemmas.Fmt.{decimal_injective}
use Rattle.std.proofs.lemmas.Int.{ints}
use Rattle.std.proofs.lemmas.List.{append-nil, append_cancel_left}
use Rattle.std.proofs.lemmas.List.Elements.{All-append, All-cons, All-nil}
use Rattle.memchr.specs.Find.{is_byte}
use Rattle.mt_model.specs.declared.limits.TheConstants.{MAX_ORDER, MAX_TIME}
use Rattle.mt_model.specs.declared.step.Step.{Step}
use Rattle.mt_model.specs.declared.step.Step.TheVariants as step
use Rattle.mt_model.specs.Log.{IsWithin}
use Rattle.mt_model.specs.Texts.{step_text}
use Rattle.decimal.specs.Numbers.{signed_up_to}
use Rattle.decimal.proofs.Printed.{signed-printed}
use Rattle.proof_log.specs.declared.line.Line.{Line}
use Rattle.proof_log.specs.LinesText.{Word, line_words, newline, space, step_words}
use Rattle.proof_log.specs.Reading.{step_in}
use Rattle.proof_log.specs.Spelled.{IsNumber, IsSpelledStep, IsSpelled as IsSpelledLine}
use Rattle.proof_log.proofs.LineReading.{one-line}
use Rattle.proof_log.proofs.PlainWords.{joined-lacks, plain-bound, plain-lacks, plain-line, plain-number, plain-step, split-joined}
use Rattle.proof_log.proofs.Texts.{read-alike}
use Rattle.proof_log.proofs.WrittenItems.{step-written}
use Rattle.report_text.specs.declared.part.Kind.{Kind}
use Rattle.report_text.specs.declared.part.Kind.TheVariants as kind
use Rattle.report_text.specs.declared.part.Opening.{Opening}
use Rattle.report_text.specs.declared.part.Opening.TheVariants as opening
use Rattle.report_text.specs.Parts.{IsKind, IsOpening, opening_line}
use Rattle.report_text.specs.ReportOf.{LacksNewline}
use Rattle.report_text.specs.ReportText.{events_line, kind_line, last_line, mark, value_word}
use Rattle.report_text.specs.Spelled.{IsSpelledBound}
use Rattle.report_text.proofs.Lined.{AreSpellings}
use Rattle.std.proofs.lemmas.Option.{same_Some}

-- whether no byte is a newline
abbrev has_none : List ℕ → Bool
has_none w = list_all (λ b. not (is_byte newline b)) w

pub lacks-test : (w : List ℕ) → has_none w ≡ true → LacksNewline w
lacks-test [] test = All-nil (λ b. is_byte newline b ≡ false)
lacks-test (b ∷ bs) test = by (is_byte newline b) (has_none bs) refl refl test (lacks-test bs)
  where
    by : (x y : Bool) → is_byte newline b ≡ x → has_none bs ≡ y → (not x && y) ≡ true → (has_none bs ≡ true → LacksNewline bs) → LacksNewline (b ∷ bs)
    by false true first later h rest = All-cons (λ c. is_byte newline c ≡ false) b bs first (rest later)
    by false false first later h rest = cc
    by true y first later h rest = cc

pub mark-lacks : LacksNewline mark
mark-lacks = lacks-test mark refl

pub last-lacks : LacksNewline last_line
last-lacks = lacks-test last_line refl

decimal-lacks : (n : ℕ) → IsNumber n → LacksNewline (decimal n)
decimal-lacks n is = plain-lacks newline (decimal n) (omega arith) (plain-number n is)

numbered-lacks : (words : List ℕ) (n : ℕ) → LacksNewline words → IsNumber n → LacksNewline (words ++ decimal n)
numbered-lacks words n lacks is = All-append (λ b. is_byte newline b ≡ false) words (decimal n) lacks (decimal-lacks n is)

pub numbered-one : (words : List ℕ) (m n : ℕ) → IsNumber m → IsNumber n → words ++ decimal m ≡ words ++ decimal n → m ≡ n
numbered-one words m n is_m is_n same = decimal_injective m n (omega (arith, is_m)) (omega (arith, is_n)) (append_cancel_left words (decimal m) (decimal n) same)

pub events-spelled : AreSpellings IsNumber events_line
events-spelled = record {
  lacks = λ n is. numbered-lacks (codes "events ") n (lacks-test (codes "events ") refl) is;
  one = λ m n is_m is_n same. numbered-one (codes "events ") m n is_m is_n same;
}

-- times

wider : (t : ℤ) → IsWithin MAX_TIME t → IsWithin MAX_ORDER t
wider t within = record { low = omega (arith, ints, within.low); high = omega (arith, ints, within.high) }

-- a time that is printed is read
pub time-printed : (t : ℤ) → IsWithin MAX_TIME t → signed_up_to MAX_TIME (signed_decimal t) ≡ Some t
time-printed t within = signed-printed MAX_TIME t (omega (arith, ints)) within.low within.high

pub times-spelled : AreSpellings (IsWithin MAX_TIME) signed_decimal
times-spelled = record {
  lacks = λ t is. plain-lacks newline (signed_decimal t) (omega arith) (plain-bound t (wider t is));
  one = one;
}
  where
    one : (t u : ℤ) → IsWithin MAX_TIME t → IsWithin MAX_TIME u → signed_decimal t ≡ signed_decimal u → t ≡ u
    one t u is_t is_u same = same_Some t u (sym (time-printed t is_t) ∙ ap (signed_up_to MAX_TIME) same ∙ time-printed u is_u)

-- bounds

pub bound-step : (s : Step) → IsSpelledBound s → IsSpelledStep s
bound-step (step.Low e) is = is
bound-step (step.High e) is = is
bound-step (step.Rise e) is = is
bound-step (step.Message e) is = is
bound-step (step.Late e) is = is
bound-step (step.Under e) is = is
bound-step (step.Over e) is = is
bound-step (step.Extra k) is = is
bound-step (step.Order e f c) is = absurd is

pair_same : (a b : Step) (x y : List Word) → (let p : Option (Step × List Word) = Some (a, x) in p) ≡ Some (b, y) → a ≡ b
pair_same a b x y same = ap (λ (r : Step × List Word). r.0) (same_Some (a, x) (b, y) same)

step-split : (s : Step) → IsSpelledStep s → slice_split (is_byte space) (step_text s) ≡ step_words s
step-split s is = ap (slice_split (is_byte space)) (sym (read-alike s)) ∙ by s is
  where
    by : (s : Step) → IsSpelledStep s → slice_split (is_byte space) (join_with_byte space (step_words s)) ≡ step_words s
    by (step.Low e) is = split-joined _ _ (plain-step (step.Low e) is)
    by (step.High e) is = split-joined _ _ (plain-step (step.High e) is)
    by (step.Rise e) is = split-joined _ _ (plain-step (step.Rise e) is)
    by (step.Message e) is = split-joined _ _ (plain-step (step.Message e) is)
    by (step.Late e) is = split-joined _ _ (plain-step (step.Late e) is)
    by (step.Under e) is = split-joined _ _ (plain-step (step.Under e) is)
    by (step.Over e) is = split-joined _ _ (plain-step (step.Over e) is)
    by (step.Extra k) is = split-joined _ _ (plain-step (step.Extra k) is)
    by (step.Order e f c) is = split-joined _ _ (plain-step (step.Order e f c) is)

step-back : (s : Step) → IsSpelledStep s → step_in (slice_split (is_byte space) (step_text s)) ≡ Some (s, [])
step-back s is = ap step_in (step-split s is ∙ sym (append-nil (step_words s))) ∙ step-written s [] is

pub bounds-spelled : AreSpellings IsSpelledBound step_text
bounds-spelled = record {
  lacks = λ s is. subst LacksNewline (read-alike s) (joined-lacks (step_words s) (plain-step s (bound-step s is)));
  one = λ x y is_x is_y same. pair_same x y [] [] (sym (step-back x (bound-step x is_x)) ∙ ap (λ t. step_in (slice_split (is_byte space) t)) same ∙ step-back y (bound-step y is_y));
}

-- lines of a derivation

abbrev pub joined : Line → List ℕ
joined l = join_with_byte space (line_words l)

pub lines-spelled : AreSpellings IsSpelledLine joined
lines-spelled = record {
  lacks = λ l is. joined-lacks (line_words l) (plain-line l is);
  one = λ x y is_x is_y same. one-line (joined y) x y (record { spelled = is_x; text = ap (λ t. t ++ newline ∷ []) same }) (record { spelled = is_y; text = refl });
}

-- first lines of sections

abbrev kind_words : Kind → List ℕ
kind_words kind.Witness = codes " witness"
kind_words (kind.Refuted n) = codes " refuted " ++ decimal n
kind_words (kind.Unknown n) = codes " unknown " ++ decimal n

kind-split : (v : Bool) (k : Kind) → kind_line v k ≡ value_word v ++ kind_words k
kind-split v kind.Witness = refl
kind-split v (kind.Refuted n) = refl
kind-split v (kind.Unknown n) = refl

value-lacks : (v : Bool) → LacksNewline (value_word v)
value-lacks true = lacks-test (codes "true") refl
value-lacks false = lacks-test (codes "false") refl

kind-lacks : (k : Kind) → IsKind k → LacksNewline (kind_words k)
kind-lacks kind.Witness is = lacks-test (codes " witness") refl
kind-lacks (kind.Refuted n) is = numbered-lacks (codes " refuted ") n (lacks-test (codes " refuted ") refl) is
kind-lacks (kind.Unknown n) is = numbered-lacks (codes " unknown ") n (lacks-test (codes " unknown ") refl) is

-- bytes that differ at a place
apart : (place : ℕ) (x y : List ℕ) → x ≡ y → get_or x place 0 ≡ get_or y place 0
apart place x y same = ap (λ l. get_or l place 0) same

kind-one : (x y : Kind) → IsKind x → IsKind y → kind_words x ≡ kind_words y → x ≡ y
kind-one kind.Witness kind.Witness p q same = refl
kind-one kind.Witness (kind.Refuted n) p q same = absurd (omega (arith, apart 1 _ _ same))
kind-one kind.Witness (kind.Unknown n) p q same = absurd (omega (arith, apart 1 _ _ same))
kind-one (kind.Refuted m) kind.Witness p q same = absurd (omega (arith, apart 1 _ _ same))
kind-one (kind.Refuted m) (kind.Refuted n) p q same = ap kind.Refuted (numbered-one (codes " refuted ") m n p q same)
kind-one (kind.Refuted m) (kind.Unknown n) p q same = absurd (omega (arith, apart 1 _ _ same))
kind-one (kind.Unknown m) kind.Witness p q same = absurd (omega (arith, apart 1 _ _ same))
kind-one (kind.Unknown m) (kind.Refuted n) p q same = absurd (omega (arith, apart 1 _ _ same))
kind-one (kind.Unknown m) (kind.Unknown n) p q same = ap kind.Unknown (numbered-one (codes " unknown ") m n p q same)

pub kinds-spelled : (v : Bool) → AreSpellings IsKind (kind_line v)
kinds-spelled v = record {
  lacks = λ k is. subst LacksNewline (sym (kind-split v k)) (All-append (λ b. is_byte newline b ≡ false) (value_word v) (kind_words k) (value-lacks v) (kind-lacks k is));
  one = λ x y is_x is_y same. kind-one x y is_x is_y (append_cancel_left (value_word v) (kind_words x) (kind_words y) (sym (kind-split v x) ∙ same ∙ kind-split v y));
}

-- the line after the number of events

opening-lacks : (o : Opening) → IsOpening o → LacksNewline (opening_line o)
opening-lacks (opening.Inconsistent n) is = numbered-lacks (codes "inconsistent ") n (lacks-test (codes "inconsistent ") refl) is
opening-lacks (opening.OnTrue k) is = (kinds-spelled true).lacks k is

-- the line of a section doesn't begin as that of a walk
kind-apart : (n : ℕ) (k : Kind) → codes "inconsistent " ++ decimal n ≡ kind_line true k → ⊥
kind-apart n k same = absurd (omega (arith, apart 0 _ _ (same ∙ kind-split true k)))

opening-one : (x y : Opening) → IsOpening x → IsOpening y → opening_line x ≡ opening_line y → x ≡ y
opening-one (opening.Inconsistent m) (opening.Inconsistent n) p q same = ap opening.Inconsistent (numbered-one (codes "inconsistent ") m n p q same)
opening-one (opening.Inconsistent m) (opening.OnTrue k) p q same = absurd (kind-apart m k same)
opening-one (opening.OnTrue k) (opening.Inconsistent n) p q same = absurd (kind-apart n k (sym same))
opening-one (opening.OnTrue k) (opening.OnTrue l) p q same = ap opening.OnTrue ((kinds-spelled true).one k l p q same)

pub openings-spelled : AreSpellings IsOpening opening_line
openings-spelled = record { lacks = opening-lacks; one = opening-one }
