-- Literals of which each stays where it first stands.
use Rattle.std.proofs.Common.{◌≡◌, ◌∙◌, sym, ap, refl, subst, ℕ, zero, suc, ◌+◌, ◌<◌, ◌≤◌, Bool, true, false, IsTrue, ◌↔◌, inl, inr, if◌then◌else◌, List, [], ◌∷◌, ◌++◌, length, length-append, get_or, take, drop, arith, nat_eq, eq-eqb, eqb-true, append-nil}
use Rattle.std.specs.Prelude.{Contains, slice_set}
use Rattle.std.proofs.lemmas.Bool.{cases_Bool, cases_lt, false_from_ne_true}
use Rattle.std.proofs.lemmas.List.{append_assoc, drop_more, drop-set-lt, length-drop, length-set, length-take-le, take_more, take_more_set}
use Rattle.axiom_rules.specs.declared.literal.Literal.{Literal}
use Rattle.axiom_rules.specs.Literals.{has_literal}
use Rattle.axiom_rules.specs.Parts.{each_once}
use Rattle.axiom_rules.proofs.AddingLemmas.{once-new, once-old, stands, stands-has}
use Rattle.proof_log.specs.Marks.{marked}
use Rattle.proof_check.specs.Places.{StandsFirst, literal_at}
use Rattle.proof_check.proofs.Standing.{among_stands, stands_among}

-- a literal stands before a place where it stands before it in the list
stands_before : (lits : List Literal) (n k : ℕ) (l : Literal) → k < n → k < length lits → literal_at lits k ≡ l → Contains (take n lits) l
stands_before lits zero k l low below is = absurd (omega (arith, low))
stands_before [] (suc n) k l low below is = absurd (omega (arith, below))
stands_before (x ∷ xs) (suc n) zero l low below is = (0, omega arith, is)
stands_before (x ∷ xs) (suc n) (suc k) l low below is =
    let (j, within, there) = stands_before xs n k l (omega (arith, low)) (omega (arith, below)) is in
    (suc j, omega (arith, within), there)

module _ (lits : List Literal) (place : ℕ) (below : place < length lits) where
  -- a literal stands first at its place where it stands first at all
  pub first_here : (first : ℕ) → StandsFirst lits (literal_at lits place) first → IsTrue (nat_eq first place) ↔ (Contains (take place lits) (literal_at lits place) → ⊥)
  first_here first stands = (
    λ yes has. let same : first ≡ place = eqb-true first place yes in stands.first (subst (λ k. Contains (take k lits) (literal_at lits place)) (sym same) has),
    λ none. elim (cases_lt first place) [
      | inl before ↦ absurd (none (stands_before lits place first (literal_at lits place) before stands.within stands.there))
      | inr from ↦ elim (cases_lt place first) [
        | inl after ↦ absurd (stands.first (stands_before lits first place (literal_at lits place) after below refl))
        | inr to ↦ eq-eqb first place (omega (arith, from, to))
      ]
    ],
  )

-- so many literals are marked where they stand first
pub record AreMarked (lits : List Literal) (n : ℕ) (marks : List Bool) : Type 0 where
  pub count : length marks ≡ n
  pub once : marked marks (take n lits) ≡ each_once (take n lits)

marked_push : {X : Type 0} (bs : List Bool) (b : Bool) (xs : List X) (x : X) → length bs ≡ length xs → marked (bs ++ b ∷ []) (xs ++ x ∷ []) ≡ marked bs xs ++ (if b then x ∷ [] else [])
marked_push [] true [] x same = refl
marked_push [] false [] x same = refl
marked_push [] b (y ∷ ys) x same = absurd (omega (arith, same))
marked_push (c ∷ cs) b [] x same = absurd (omega (arith, same))
marked_push (true ∷ cs) b (y ∷ ys) x same = ap (λ zs. y ∷ zs) (marked_push cs b ys x (omega (arith, same)))
marked_push (false ∷ cs) b (y ∷ ys) x same = marked_push cs b ys x (omega (arith, same))

once_push : (ls : List Literal) (l : Literal) (b : Bool) → IsTrue b ↔ (Contains ls l → ⊥) → each_once ls ++ (if b then l ∷ [] else []) ≡ each_once (ls ++ l ∷ [])
once_push ls l true first = sym (once-new ls l (false_from_ne_true (has_literal ls l) (λ there. first.0 refl (among_stands ls l (stands ls l there)))))
once_push ls l false first = elim (cases_Bool (has_literal ls l)) [
  | inl there ↦ append-nil (each_once ls) ∙ sym (once-old ls l there)
  | inr absent ↦ absurd (let yes : false ≡ true = first.1 (λ has. let there = stands-has ls l (stands_among ls l has) in absurd (cc)) in cc)
]

-- one literal more
pub marked_more : (lits : List Literal) (n : ℕ) (marks : List Bool) (b : Bool) → n < length lits → IsTrue b ↔ (Contains (take n lits) (literal_at lits n) → ⊥)
    → AreMarked lits n marks → AreMarked lits (n + 1) (marks ++ b ∷ [])
marked_more lits n marks b below first before = record {
  count = omega (arith, length-append marks (b ∷ []), before.count);
  once =
      let next = take_more lits n _ below in
      let same : length marks ≡ length (take n lits) = omega (arith, before.count, length-take-le n lits (omega (arith, below))) in
      ap (marked (marks ++ b ∷ [])) next ∙ marked_push marks b (take n lits) (literal_at lits n) same ∙ ap (λ ls. ls ++ (if b then literal_at lits n ∷ [] else [])) before.once
      ∙ once_push (take n lits) (literal_at lits n) b first ∙ ap each_once (sym next);
}

-- of the elements from a start on, those that are marked among the first so many have moved together
pub record IsPacked {X : Type 0} (old : List X) (start : ℕ) (marks : List Bool) (n : ℕ) (end : ℕ) (now : List X) : Type 0 where
  pub short : end ≤ start + n
  pub size : length now ≡ length old
  pub front : take end now ≡ take start old ++ marked (take n marks) (drop start old)
  pub later : drop (start + n) now ≡ drop (start + n) old

marked_next : {X : Type 0} (bs : List Bool) (xs : List X) (i : ℕ) (d : Bool) (e : X) → i < length bs → i < length xs
    → marked (take (i + 1) bs) xs ≡ marked (take i bs) xs ++ (if get_or bs i d then get_or xs i e ∷ [] else [])
marked_next bs xs i d e low below = let next : suc i ≡ i + 1 = omega arith in
    subst (λ n. marked (take n bs) xs ≡ marked (take i bs) xs ++ (if get_or bs i d then get_or xs i e ∷ [] else [])) next (go bs xs i low below)
  where
    go : (bs : List Bool) (xs : List _) (i : ℕ) → i < length bs → i < length xs → marked (take (suc i) bs) xs ≡ marked (take i bs) xs ++ (if get_or bs i d then get_or xs i e ∷ [] else [])
    go [] xs i low below = absurd (omega (arith, low))
    go (b ∷ bs) [] i low below = absurd (omega (arith, below))
    go (true ∷ bs) (x ∷ xs) zero low below = refl
    go (false ∷ bs) (x ∷ xs) zero low below = refl
    go (true ∷ bs) (x ∷ xs) (suc i) low below = ap (λ zs. x ∷ zs) (go bs xs i (omega (arith, low)) (omega (arith, below)))
    go (false ∷ bs) (x ∷ xs) (suc i) low below = go bs xs i (omega (arith, low)) (omega (arith, below))

module _ {X : Type 0} (old : List X) (start : ℕ) (marks : List Bool) (n end : ℕ) (now : List X) (d : Bool) (x : X) (below : n < length marks)
    (all : start + length marks ≡ length old) (packed : IsPacked old start marks n end now) where
  there : start + n < length now
  there = omega (arith, below, all, packed.size)

  drop_next : (xs : List X) (k : ℕ) → k < length xs → drop k xs ≡ get_or xs k x ∷ drop (k + 1) xs
  drop_next xs k low = drop_more xs k x low

  -- the element read is the old one
  same_read : get_or now (start + n) x ≡ get_or old (start + n) x
  same_read = let both = sym (drop_next now (start + n) there) ∙ packed.later ∙ drop_next old (start + n) (omega (arith, there, packed.size)) in cc

  same_later : drop (start + n + 1) now ≡ drop (start + n + 1) old
  same_later = let both = sym (drop_next now (start + n) there) ∙ packed.later ∙ drop_next old (start + n) (omega (arith, there, packed.size)) in cc

  get_drop : (xs : List X) (a k : ℕ) → get_or (drop a xs) k x ≡ get_or xs (a + k) x
  get_drop xs zero k = let e : 0 + k ≡ k = omega arith in ap (λ j. get_or xs j x) (sym e)
  get_drop [] (suc a) k = refl
  get_drop (y ∷ ys) (suc a) k = let e : suc a + k ≡ suc (a + k) = omega arith in get_drop ys a k ∙ ap (λ j. get_or (y ∷ ys) j x) (sym e)

  grown : marked (take (n + 1) marks) (drop start old) ≡ marked (take n marks) (drop start old) ++ (if get_or marks n d then get_or old (start + n) x ∷ [] else [])
  grown =
      marked_next marks (drop start old) n d x below (omega (arith, below, all, length-drop start old))
      ∙ ap (λ y. marked (take n marks) (drop start old) ++ (if get_or marks n d then y ∷ [] else [])) (get_drop old start n)

  -- an element that isn't marked is left out
  pub packed_past : get_or marks n d ≡ false → IsPacked old start marks (n + 1) end now
  packed_past left = record {
    short = omega (arith, packed.short);
    size = packed.size;
    front = packed.front ∙ ap (λ zs. take start old ++ zs) (sym (grown ∙ (rw left (append-nil (marked (take n marks) (drop start old))))));
    later = let e : start + (n + 1) ≡ start + n + 1 = omega arith in rw e same_later;
  }

  -- one that is marked moves to the end of those before it
  pub packed_more : get_or marks n d ≡ true → (y : X) → y ≡ get_or now (start + n) x → IsPacked old start marks (n + 1) (end + 1) (slice_set now end y)
  packed_more kept y is = record {
    short = omega (arith, packed.short);
    size = length-set now end y ∙ packed.size;
    front = take_more_set now end y (omega (arith, packed.short, there)) ∙ ap (λ zs. zs ++ y ∷ []) packed.front ∙ append_assoc (take start old) (marked (take n marks) (drop start old)) (y ∷ [])
        ∙ ap (λ zs. take start old ++ zs) (sym (grown ∙ (rw (kept, ← same_read, ← is) refl)));
    later = let e : start + (n + 1) ≡ start + n + 1 = omega arith in rw e (drop-set-lt (start + n + 1) now end y (omega (arith, packed.short)) ∙ same_later);
  }
