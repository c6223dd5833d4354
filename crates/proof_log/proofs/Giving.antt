-- What a reading gives, step by step.
use Rattle.std.proofs.Common.{◌≡◌, ◌∙◌, sym, ap, refl, Bool, true, false, List, [], ◌∷◌, ◌++◌, Option, Some, None}
use Rattle.std.specs.Prelude.{IfSome, bytes_eq, option_and_then, option_map, if◌then◌else◌}
use Rattle.std.proofs.lemmas.Slice.Eq.{bytes_eq-Decides}
use Rattle.proof_log.specs.LinesText.{Word}
use Rattle.proof_log.specs.Reading.{Reading, made, whole}

-- what was read is sound, and its words and those after it are all of them
pub record IsRead {X : Type 0} (words : X → List Word) (Valid : X → Type 0) (all : List Word) (r : X × List Word) : Type 0 where
  pub valid : Valid r.0
  pub words_are : all ≡ words r.0 ++ r.1

pub gives-if : {X : Type 0} (b : Bool) (x y : Option X) (P : X → Type 0) → (b ≡ true → IfSome x P) → (b ≡ false → IfSome y P) → IfSome (if b then x else y) P
gives-if true x y P holds fails = holds refl
gives-if false x y P holds fails = fails refl

-- where the word is the name
pub gives-named : {X : Type 0} (w name : Word) (x y : Option X) (P : X → Type 0) → (w ≡ name → IfSome x P) → IfSome y P → IfSome (if bytes_eq w name then x else y) P
gives-named w name x y P here elsewhere = gives-if (bytes_eq w name) x y P (λ test. here ((bytes_eq-Decides w name).0 test)) (λ test. elsewhere)

pub gives-map : {X Y : Type 0} (f : X → Y) (o : Option X) (P : X → Type 0) (Q : Y → Type 0) → ((x : X) → P x → Q (f x)) → IfSome o P → IfSome (option_map f o) Q
gives-map f None P Q step h = tt
gives-map f (Some x) P Q step h = step x h

pub gives-then : {X Y : Type 0} (g : X → Option Y) (o : Option X) (P : X → Type 0) (Q : Y → Type 0) → ((x : X) → P x → IfSome (g x) Q) → IfSome o P → IfSome (option_and_then g o) Q
gives-then g None P Q step h = tt
gives-then g (Some x) P Q step h = step x h

pub gives-weaker : {X : Type 0} (o : Option X) (P Q : X → Type 0) → ((x : X) → P x → Q x) → IfSome o P → IfSome o Q
gives-weaker None P Q step h = tt
gives-weaker (Some x) P Q step h = step x h

pub gives-made : {X Y : Type 0} (make : X → Y) (reading : Reading X) (P : X × List Word → Type 0) (Q : Y × List Word → Type 0)
    → ((x : X) (rest : List Word) → P (x, rest) → Q (make x, rest)) → IfSome reading P
    → IfSome (made make reading) Q
gives-made make None P Q step h = tt
gives-made make (Some r) P Q step h = step r.0 r.1 h

-- where no word is left
pub gives-whole : {X : Type 0} (reading : Reading X) (P : X × List Word → Type 0) (Q : X → Type 0) → ((x : X) → P (x, []) → Q x) → IfSome reading P → IfSome (whole reading) Q
gives-whole None P Q step h = tt
gives-whole (Some (x, [])) P Q step h = step x h
gives-whole (Some (x, w ∷ ws)) P Q step h = tt

-- a name, and then what is made of a reading
pub gives-after : {X Y : Type 0} (name : Word) (make : X → Y) (inner : X → List Word) (Inner : X → Type 0) (words : Y → List Word) (Valid : Y → Type 0)
    (reading : Reading X) (w : Word) (ws : List Word)
    → ((x : X) → words (make x) ≡ name ∷ inner x) → ((x : X) → Inner x → Valid (make x)) → w ≡ name → IfSome reading (IsRead inner Inner ws) → IfSome (made make reading) (IsRead words Valid (w ∷ ws))
gives-after name make inner Inner words Valid reading w ws text valid is read = gives-made make reading (IsRead inner Inner ws) (IsRead words Valid (w ∷ ws)) step read
  where
    step : (x : _) (rest : List Word) → IsRead inner Inner ws (x, rest) → IsRead words Valid (w ∷ ws) (make x, rest)
    step x rest r = record {
      valid = valid x r.valid;
      words_are = ap (λ v. v ∷ ws) is ∙ ap (λ t. name ∷ t) r.words_are ∙ ap (λ t. t ++ rest) (sym (text x));
    }

-- what is made of a reading that is known
pub made-back : {X Y : Type 0} (make : X → Y) (reading : Reading X) (x : X) (rest : List Word) → reading ≡ Some (x, rest) → made make reading ≡ Some (make x, rest)
made-back make reading x rest is = ap (made make) is
