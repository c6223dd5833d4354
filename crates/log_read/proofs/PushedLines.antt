-- Lines that are added one at a time.
use Rattle.std.proofs.Common.{◌≡◌, ◌∙◌, sym, ap, drop, ℕ, ◌+◌, ◌<◌, List, [], ◌∷◌, ◌++◌, length, map, take, get_or}
use Rattle.std.specs.List.{flat_map}
use Rattle.std.proofs.lemmas.List.{flat_map_more, map-append, take_more}
use Rattle.log_read.specs.LogText.{line_of}
use Rattle.log_read.specs.Records.{Record}

-- one more line
pub pushed-line : {X : Type 0} (fields : X → Record) (xs : List X) (i : ℕ) (x : X) (old now new : List ℕ) → i < length xs → x ≡ get_or xs i x
    → now ≡ old ++ flat_map line_of (map fields (take i xs)) → new ≡ now ++ line_of (fields x) → new ≡ old ++ flat_map line_of (map fields (take (i + 1) xs))
pushed-line fields xs i x old now new within is before after =
    let more = take_more xs i x within ∙ ap (λ y. take i xs ++ y ∷ []) (sym is) in
    after ∙ ap (λ t. t ++ line_of (fields x)) before ∙ flat_map_more line_of old (map fields (take i xs)) (fields x)
    ∙ ap (λ rs. old ++ flat_map line_of rs) (sym (ap (map fields) more ∙ map-append fields (take i xs) (x ∷ [])))

-- with the lines so far, those of what is left from place i on are all
abbrev pub IsPushedUpTo : {X : Type 0} → (ℕ → List X → List Record) → List X → List ℕ → List ℕ → ℕ → Type 0
IsPushedUpTo recs xs old now i = old ++ flat_map line_of (recs 0 xs) ≡ now ++ flat_map line_of (recs i (drop i xs))
