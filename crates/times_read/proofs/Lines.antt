-- The lines of bytes, by their first newline.
use Rattle.std.proofs.Common.{◌≡◌, ◌∙◌, ap, arith, ℕ, ◌+◌, ◌<◌, ◌≤◌, false, cond, List, [], ◌∷◌, ◌++◌, length, get_or, take, drop, ◌==◌, add-one, refl, subst}
use Rattle.std.specs.Prelude.{All}
use Rattle.std.specs.List.{slice_split}
use Rattle.std.specs.Str.Lines.{lines, lines_of_parts, strip_carriage_return}
use Rattle.std.proofs.Math.Seq.{split_at}
use Rattle.std.proofs.lemmas.Bool.{false_from_ne_true}
use Rattle.std.proofs.lemmas.Bool.Decides.{nat_tests}
use Rattle.std.proofs.lemmas.List.{get_or-take, length-take-le, take_all}
use Rattle.std.proofs.lemmas.List.Elements.{All-from_get_or}
use Rattle.std.proofs.lemmas.List.Splits.{slice_split_at, slice_split_none, length-slice_split}
use Rattle.memchr.specs.Find.{Nowhere, NoneBefore, Passes, is_byte}

-- no byte before a place is a newline
none_before : (w : List ℕ) (n : ℕ) → n ≤ length w → Nowhere (Passes (is_byte 10) w) 0 n → All (λ b. is_byte 10 b ≡ false) (take n w)
none_before w n within nowhere =
    let size : length (take n w) ≡ n = length-take-le n w within in
    All-from_get_or (λ b. is_byte 10 b ≡ false) (take n w) 0 (λ k below.
    let under : k < n = omega arith in
    ap (is_byte 10) (get_or-take n w k 0 under) ∙ false_from_ne_true (is_byte 10 (get_or w k 0)) (nowhere k (omega arith) under))

-- lines after a first one
pub parts_cons : (x : List ℕ) (parts : List (List ℕ)) → 0 < length parts → lines_of_parts (x ∷ parts) ≡ strip_carriage_return x ∷ lines_of_parts parts
parts_cons x [] some = absurd (omega arith)
parts_cons x (y ∷ more) some = refl

-- a first line that ends with a newline
pub lines-newline : (w : List ℕ) (n : ℕ) → NoneBefore (Passes (is_byte 10) w) 0 (length w) n → Passes (is_byte 10) w n
    → lines w ≡ strip_carriage_return (take n w) ∷ lines (drop (n + 1) w)
lines-newline w n first here =
    let rest = drop (n + 1) w in
    let cut : w ≡ take n w ++ get_or w n 0 ∷ rest = rw add-one (split_at w n 0 first.high) in
    let front = none_before w n (omega (arith, first.high)) first.before in
    ap lines cut ∙ ap lines_of_parts (slice_split_at (is_byte 10) (take n w) (get_or w n 0) rest front here)
    ∙ parts_cons (take n w) (slice_split (is_byte 10) rest) (omega (arith, length-slice_split (is_byte 10) rest))

-- a last line without a newline
pub lines-last : (w : List ℕ) → 1 ≤ length w → Nowhere (Passes (is_byte 10) w) 0 (length w) → lines w ≡ w ∷ []
lines-last w some nowhere =
    let none = subst (All (λ b. is_byte 10 b ≡ false)) (take_all (length w) w (omega arith)) (none_before w (length w) (omega arith) nowhere) in
    let full : (length w == 0) ≡ false = grind (arith, nat_tests) in
    ap lines_of_parts (slice_split_none (is_byte 10) w none) ∙ ap (λ empty. cond empty [] (w ∷ [])) full
