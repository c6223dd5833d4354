-- Operands among words that are read one after another.
use Rattle.std.proofs.Common.{◌≡◌, ◌≢◌, ◌∙◌, sym, ap, refl, ℕ, ◌+◌, ◌-◌, ◌<◌, Bool, true, false, List, [], ◌∷◌, ◌++◌, length, get_or, map, take, drop, Option, Some, None, append_assoc, add-one, drop-cons}
use Rattle.std.specs.Prelude.{MatchOption, option_map, bytes_eq, codes}
use Rattle.std.specs.Borrow.{Bor}
use Rattle.std.specs.Str.Pattern.{FindsTextPrefix, StripsPrefix}
use Rattle.std.proofs.lemmas.List.{drop_at, length-drop, map-append, take-append-drop, take_at}
use Rattle.std.proofs.lemmas.Slice.Eq.{bytes_eq-Decides}
use Rattle.std.proofs.Math.Seq.{drop-length, take-length, take-suc}
use Rattle.skew_words.specs.Words.{Given, Word, after, given_by, given_of, is_option, operands_of, plain, with_front}

-- what is left of a list behind a place, as the code cuts it
pub cut-rest : {X : Type 0} (xs : List X) (i : ℕ) → take (length xs - (i + 1)) (drop (i + 1) xs) ≡ drop (i + 1) xs
cut-rest xs i = ap (λ n. take n (drop (i + 1) xs)) (sym (length-drop (i + 1) xs)) ∙ take-length (drop (i + 1) xs)

-- the words up to here are operands, and those from here on are still to be read
abbrev pub ReadUpTo : {X : Type 0} → (X → Word) → List X → ℕ → Type 0
ReadUpTo f xs i = operands_of (map f xs) ≡ option_map (λ rest. map f (take i xs) ++ rest) (operands_of (map f (drop i xs)))

option_map-id : (o : Option (List Word)) → option_map (λ rest. [] ++ rest) o ≡ o
option_map-id None = refl
option_map-id (Some ws) = refl

option_map-twice : (front : List Word) (w : Word) (o : Option (List Word)) → option_map (λ rest. front ++ rest) (option_map (λ rest. w ∷ rest) o) ≡ option_map (λ rest. (front ++ w ∷ []) ++ rest) o
option_map-twice front w None = refl
option_map-twice front w (Some ws) = ap Some (sym (append_assoc front (w ∷ []) ws))

module _ {X : Type 0} (f : X → Word) (xs : List X) where
  pub read-none : ReadUpTo f xs 0
  read-none = sym (option_map-id (operands_of (map f xs)))

  module _ (i : ℕ) (x : X) (is : get_or xs i x ≡ x) (within : i < length xs) (so_far : ReadUpTo f xs i) where
    rest-is : drop i xs ≡ x ∷ drop (i + 1) xs
    rest-is = drop-cons xs i x within ∙ rw (is, add-one) refl

    pub read-mark : bytes_eq (f x) (codes "--") ≡ true → operands_of (map f xs) ≡ Some (map f (take i xs ++ drop (i + 1) xs))
    read-mark mark = so_far ∙ rw (rest-is, mark) (ap Some (sym (map-append f (take i xs) (drop (i + 1) xs))))

    pub read-option : bytes_eq (f x) (codes "--") ≡ false → is_option (f x) ≡ true → operands_of (map f xs) ≡ None
    read-option word dashed = so_far ∙ rw (rest-is, word, dashed) refl

    pub front-is : map f (take i xs) ++ f x ∷ [] ≡ map f (take (i + 1) xs)
    front-is =
        let more : take (i + 1) xs ≡ take i xs ++ x ∷ [] = rw add-one (take-suc xs i x within ∙ rw is refl) in
        rw more (sym (map-append f (take i xs) (x ∷ [])))

    pub read-more : bytes_eq (f x) (codes "--") ≡ false → is_option (f x) ≡ false → ReadUpTo f xs (i + 1)
    read-more word plain =
        so_far
        ∙ rw (rest-is, word, plain)
        (option_map-twice (map f (take i xs)) (f x) (operands_of (map f (drop (i + 1) xs))) ∙ ap (λ ys. option_map (λ rest. ys ++ rest) (operands_of (map f (drop (i + 1) xs)))) front-is)

  pub read-all : ReadUpTo f xs (length xs) → operands_of (map f xs) ≡ Some (map f (xs ++ []))
  read-all so_far = so_far ∙ rw (drop-length xs, take-length xs, map-append f xs []) refl

-- the words before a mark and those behind it, as the code cuts them, after a front
pub cut-words : {X : Type 0} (f : X → Word) (front xs : List X) (i : ℕ)
    → map f (front ++ take i xs ++ take (length xs - (i + 1)) (drop (i + 1) xs)) ≡ map f front ++ map f (take i xs ++ drop (i + 1) xs)
cut-words f front xs i =
    ap (λ ys. map f (front ++ take i xs ++ ys)) (cut-rest xs i) ∙ ap (map f) (append_assoc front (take i xs) (drop (i + 1) xs)) ∙ map-append f front (take i xs ++ drop (i + 1) xs)

-- all words after a front
pub uncut-words : {X : Type 0} (f : X → Word) (front xs : List X) → map f (front ++ xs ++ []) ≡ map f front ++ map f (xs ++ [])
uncut-words f front xs = ap (map f) (append_assoc front xs []) ∙ map-append f front (xs ++ [])

-- the words up to here are operands, and those from here on are still to be read, by a command that takes the option and by one that does not
pub record GivenUpTo {X : Type 0} (f : X → Word) (xs : List X) (i : ℕ) : Type 0 where
  pub given : given_of (map f xs) ≡ option_map (with_front (map f (take i xs))) (given_of (map f (drop i xs)))
  pub operands : ReadUpTo f xs i

with_no_front : (o : Option Given) → option_map (with_front []) o ≡ o
with_no_front None = refl
with_no_front (Some g) = refl

front-twice : (front : List Word) (w : Word) (o : Option Given) → option_map (with_front front) (option_map (with_front (w ∷ [])) o) ≡ option_map (with_front (front ++ w ∷ [])) o
front-twice front w None = refl
front-twice front w (Some g) = ap (λ ws. Some (record { operands = ws; conflicts = g.conflicts })) (sym (append_assoc front (w ∷ []) g.operands))

module _ {X : Type 0} (f : X → Word) (xs : List X) where
  pub given-none : GivenUpTo f xs 0
  given-none = record { given = sym (with_no_front (given_of (map f xs))); operands = read-none f xs }

  module _ (i : ℕ) (x : X) (is : get_or xs i x ≡ x) (within : i < length xs) (so_far : GivenUpTo f xs i) where
    rest-starts : drop i xs ≡ x ∷ drop (i + 1) xs
    rest-starts = drop-cons xs i x within ∙ rw (is, add-one) refl

    pub given-mark : bytes_eq (f x) (codes "--") ≡ true → given_of (map f xs) ≡ option_map plain (operands_of (map f xs))
    given-mark mark =
        let front = map f (take i xs) in
        let rest = map f (drop (i + 1) xs) in
        let given : given_of (map f xs) ≡ Some (plain (front ++ rest)) = so_far.given ∙ rw (rest-starts, mark) refl in
        let operands : operands_of (map f xs) ≡ Some (front ++ rest) = so_far.operands ∙ rw (rest-starts, mark) refl in
        given ∙ sym (ap (option_map plain) operands)

    pub given-option : bytes_eq (f x) (codes "--") ≡ false → is_option (f x) ≡ true → given_of (map f xs) ≡ option_map (with_front (map f (take i xs))) (given_by (f x) (map f (take (length xs - (i + 1)) (drop (i + 1) xs))))
    given-option word dashed =
        let given : given_of (map f xs) ≡ option_map (with_front (map f (take i xs))) (given_by (f x) (map f (drop (i + 1) xs))) = so_far.given ∙ rw (rest-starts, word, dashed) refl in
        given ∙ ap (λ ys. option_map (with_front (map f (take i xs))) (given_by (f x) (map f ys))) (sym (cut-rest xs i))

    pub given-more : bytes_eq (f x) (codes "--") ≡ false → is_option (f x) ≡ false → GivenUpTo f xs (i + 1)
    given-more word dashed = record {
      given =
          so_far.given
          ∙ rw (rest-starts, word, dashed)
          (front-twice (map f (take i xs)) (f x) (given_of (map f (drop (i + 1) xs)))
          ∙ ap (λ ys. option_map (with_front ys) (given_of (map f (drop (i + 1) xs)))) (front-is f xs i x is within so_far.operands));
      operands = read-more f xs i x is within so_far.operands word dashed;
    }

  pub given-all : GivenUpTo f xs (length xs) → given_of (map f xs) ≡ option_map plain (operands_of (map f xs))
  given-all so_far =
      let given : given_of (map f xs) ≡ Some (plain (map f xs ++ [])) = so_far.given ∙ rw (drop-length xs, take-length xs) refl in
      let operands : operands_of (map f xs) ≡ Some (map f xs ++ []) = so_far.operands ∙ rw (drop-length xs, take-length xs) refl in
      given ∙ sym (ap (option_map plain) operands)

-- what follows a front, as `strip_prefix` finds it
after-front : (front word rest : Word) → word ≡ front ++ rest → after front word ≡ Some rest
after-front front word rest is = ap (after front) is ∙ rw (take_at front rest (length front) refl, drop_at front rest (length front) refl, (bytes_eq-Decides front front).1 refl) refl

after-none : (front word : Word) → ((rest : Word) → word ≢ front ++ rest) → after front word ≡ None
after-none front word lacks = go (bytes_eq (take (length front) word) front) refl
  where
    go : (b : Bool) → bytes_eq (take (length front) word) front ≡ b → after front word ≡ None
    go false e = rw e refl
    go true e =
        absurd (lacks (drop (length front) word) (sym (take-append-drop (length front) word) ∙ ap (λ t. t ++ drop (length front) word) ((bytes_eq-Decides (take (length front) word) front).0 e)))

pub stripped-after : (front word : Word) (r : Option (Bor Word)) → MatchOption r (FindsTextPrefix front word None) (λ x. StripsPrefix (FindsTextPrefix front) word x.now)
    → option_map (λ text. text.now) r ≡ after front word
stripped-after front word None lacks = sym (after-none front word lacks)
stripped-after front word (Some x) found = sym (after-front front word x.now (found.1.1 ∙ ap (λ rest. front ++ rest) (sym found.2)))
