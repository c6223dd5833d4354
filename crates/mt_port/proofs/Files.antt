-- The file at the index of a name is the file of that name.
use Rattle.std.proofs.Common.{◌≡◌, ◌∙◌, ◌+◌, ◌<◌, ap, refl, sym, ℕ, suc, List, [], ◌∷◌, map, length, true, false, Bool, cond, not, Option, Some, None, arith, drop, drop-cons, add-one}
use Rattle.std.specs.Prelude.{String, Vec, nat_lt, string_bytes, bytes_eq, position, find, slice_index_or, option_map, ◌≤◌, IsNone, IfSome, ◌↔◌}
use Rattle.std.specs.List.{position_or_len}
use Rattle.std.specs.declared.alloc.Global.{Global}
use Rattle.std.proofs.lemmas.Bool.Decides.{nat_tests}
use Rattle.std.proofs.Math.Numerals.{one-add}
use Rattle.std.proofs.Common.{◌-◌, ◌++◌, take}
use Rattle.std.proofs.lemmas.List.{length-map, get_or-map, take_at, take_rest, drop-drop, take-append-drop}
use Rattle.std.proofs.lemmas.Grind.{common_steps}
use Rattle.mt_port.specs.Port.{file_of}
use Rattle.mt_port.specs.Memory.{AreDistinct, bytes_of, named, left_at, place_of}

first_step : (b : Bool) (n len : ℕ) (head : List ℕ × List ℕ) (found : Option (List ℕ × List ℕ)) (rest : List (List ℕ)) → (n < len → option_map (λ f. f.1) found ≡ Some (slice_index_or rest n []))
    → cond (not b) (1 + n) 0 < suc len → option_map (λ f. f.1) (cond b (Some head) found) ≡ Some (slice_index_or (head.1 ∷ rest) (cond (not b) (1 + n) 0) [])
first_step true n len head found rest ih below = refl
first_step false n len head found rest ih below = rw one-add (ih (omega arith))

-- the first file of a name, where there is one
first : (xs : List (String Global × Vec ℕ Global)) (name : List ℕ) → position_or_len (λ f. bytes_eq (string_bytes f.0) name) xs < length xs
    → file_of (named xs) name ≡ Some (slice_index_or (map (λ f. f.1) (named xs)) (position_or_len (λ f. bytes_eq (string_bytes f.0) name) xs) [])
first [] name = λ below. absurd (omega arith)
first (x ∷ xs) name =
    first_step (bytes_eq (string_bytes x.0) name) (position_or_len (λ f. bytes_eq (string_bytes f.0) name) xs) (length xs)
    (string_bytes x.0, x.1.items) (find (λ f. bytes_eq f.0 name) (named xs)) (map (λ f. f.1) (named xs)) (first xs name)

none_step : (b : Bool) (n len : ℕ) (head : List ℕ × List ℕ) (found : Option (List ℕ × List ℕ)) → (len ≤ n → option_map (λ f. f.1) found ≡ None)
    → suc len ≤ cond (not b) (1 + n) 0 → option_map (λ f. f.1) (cond b (Some head) found) ≡ None
none_step true n len head found ih past = absurd (omega arith)
none_step false n len head found ih past = ih (omega arith)

none : (xs : List (String Global × Vec ℕ Global)) (name : List ℕ) → length xs ≤ position_or_len (λ f. bytes_eq (string_bytes f.0) name) xs → file_of (named xs) name ≡ None
none [] name = λ past. refl
none (x ∷ xs) name =
    none_step (bytes_eq (string_bytes x.0) name) (position_or_len (λ f. bytes_eq (string_bytes f.0) name) xs) (length xs)
    (string_bytes x.0, x.1.items) (find (λ f. bytes_eq f.0 name) (named xs)) (none xs name)

pub opens_at_start : (xs : List (String Global × Vec ℕ Global)) (name : List ℕ) (i : ℕ)
    → Some i ≡ position (λ f. bytes_eq (string_bytes f.0) name) xs → file_of (named xs) name ≡ Some (left_at (named xs) (Some i) 0)
opens_at_start xs name i at = grind (arith, nat_tests, first xs name)

pub not_held : (xs : List (String Global × Vec ℕ Global)) (name : List ℕ) → None ≡ position (λ f. bytes_eq (string_bytes f.0) name) xs → file_of (named xs) name ≡ None
not_held xs name at = grind (arith, nat_tests, none xs name)

pub bytes_of_file : (xs : List (String Global × Vec ℕ Global)) (i : ℕ) (d : String Global × Vec ℕ Global) → i < length xs → bytes_of (named xs) i ≡ (slice_index_or xs i d).1.items
bytes_of_file xs i d below =
    get_or-map (λ f. f.1) (named xs) i (string_bytes d.0, d.1.items) [] (simp length-map below)
    ∙ ap (λ (g : List ℕ × List ℕ). g.1) (get_or-map (λ f. (string_bytes f.0, f.1.items)) xs i d (string_bytes d.0, d.1.items) below)

pub given_split : (file filled tail : List ℕ) (place n : ℕ) → filled ≡ take n (take (length file - place) (drop place file)) → place + n ≤ length file
    → drop place file ≡ take n (filled ++ tail) ++ drop (place + n) file
given_split file filled tail place n is within =
    let long : length filled ≡ n = grind (arith, common_steps) in
    let same : filled ≡ take n (drop place file) = is ∙ ap (take n) (take_rest file place) in
    rw (take_at filled tail n long, same, ← drop-drop n place file) (sym (take-append-drop n (drop place file)))

pub index_found : (xs : List (String Global × Vec ℕ Global)) (name : List ℕ) (r : Option ℕ) → r ≡ position (λ f. bytes_eq (string_bytes f.0) name) xs
    → IfSome r (λ i. file_of (named xs) name ≡ Some (left_at (named xs) (Some i) 0))
index_found xs name None is = tt
index_found xs name (Some i) is = opens_at_start xs name i is

pub index_within : (xs : List (String Global × Vec ℕ Global)) (name : List ℕ) (r : Option ℕ) → r ≡ position (λ f. bytes_eq (string_bytes f.0) name) xs
    → IfSome r (λ i. i < length xs)
index_within xs name None is = tt
index_within xs name (Some i) is = grind (arith, nat_tests)

pub index_absent : (xs : List (String Global × Vec ℕ Global)) (name : List ℕ) (r : Option ℕ) → r ≡ position (λ f. bytes_eq (string_bytes f.0) name) xs
    → IsNone r ↔ IsNone (file_of (named xs) name)
index_absent xs name None is =
    let absent = not_held xs name is in
    (λ _. rw absent, λ _. refl)
index_absent xs name (Some i) is =
    let held = opens_at_start xs name i is in
    (λ no. absurd cc, λ none. let some = rw held at none in absurd cc)

same_length : (xs : List (String Global × Vec ℕ Global)) (name : List ℕ) → position_or_len (λ f. bytes_eq f.0 name) (named xs) ≡ position_or_len (λ f. bytes_eq (string_bytes f.0) name) xs
same_length [] name = refl
same_length (x ∷ xs) name = ap (λ n. cond (not (bytes_eq (string_bytes x.0) name)) (1 + n) 0) (same_length xs name)

-- the place of a name among names and bytes is its place among the files
pub place_found : (xs : List (String Global × Vec ℕ Global)) (name : List ℕ) (r : Option ℕ) → r ≡ position (λ f. bytes_eq (string_bytes f.0) name) xs → r ≡ place_of (named xs) name
place_found xs name r is =
    let place : (n : ℕ) → Option ℕ = λ n. cond (nat_lt n (length xs)) (Some n) None in
    rw length-map (is ∙ sym (ap place (same_length xs name)))

-- the file at a place, and those after it
from_place : (xs : List (String Global × Vec ℕ Global)) (i : ℕ) (d : String Global × Vec ℕ Global) → i < length xs → drop i xs ≡ slice_index_or xs i d ∷ drop (i + 1) xs
from_place xs i d below = rw (add-one, drop-cons xs i d) refl

pub distinct_from : (xs rest : List (String Global × Vec ℕ Global)) (i : ℕ) (d : String Global × Vec ℕ Global) (name : List ℕ) → i < length xs → rest ≡ drop (i + 1) xs
    → name ≡ string_bytes (slice_index_or xs i d).0 → IsNone (file_of (named rest) name) → AreDistinct (named (drop i xs)) ↔ AreDistinct (named (drop (i + 1) xs))
distinct_from xs rest i d name below later its none =
    let absent = rw (later, its) at none in
    rw (from_place xs i d below) (λ all. all.1, λ others. (absent, others))

pub not_distinct_from : (xs rest : List (String Global × Vec ℕ Global)) (i : ℕ) (d : String Global × Vec ℕ Global) (name : List ℕ) → i < length xs → rest ≡ drop (i + 1) xs
    → name ≡ string_bytes (slice_index_or xs i d).0 → ¬ IsNone (file_of (named rest) name) → ¬ AreDistinct (named (drop i xs))
not_distinct_from xs rest i d name below later its held =
    let present = rw (later, its) at held in
    rw (from_place xs i d below) (λ all. present all.0)
