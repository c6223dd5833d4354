-- Lists of watchers that change.
use Rattle.std.proofs.Common.{◌≡◌, ◌≢◌, ◌∙◌, ap, sym, subst, refl, ℕ, zero, suc, ◌+◌, ◌-◌, ◌<◌, ◌≤◌, ◌⊎◌, inl, inr, List, [], ◌∷◌, ◌++◌, length, set, get_or, arith, Option, Some, None, Bool, true, false, length-set, get_or-set_same, get_or-set_other}
use Rattle.std.specs.List.{Contains, swap_remove}
use Rattle.std.proofs.lemmas.Bool.{cases_eq}
use Rattle.std.proofs.lemmas.List.{get_or-take, length-take-le, get_or_default, get_or_read}
use Rattle.std.proofs.lemmas.List.Elements.{Contains-append_left, Contains-push}
use Rattle.clause_db.specs.declared.lit.Lit.{Lit}
use Rattle.propagate.specs.declared.watch.Watch.{Watch}
use Rattle.propagate.specs.Watching.{Watching, watch_at, list_in, with_list, lists_at, watchers_of, listing, watching, IsListed, AreListed, IsUnwatched}
use Rattle.std.proofs.lemmas.Option.{same_Some, none-some}
use Rattle.clause_db.proofs.LawLemmas.{lit_same}

-- the list that was put
list_put : (both : List ℕ × List ℕ) (b : Bool) (cs : List ℕ) → list_in (with_list both b cs) b ≡ cs
list_put both true cs = refl
list_put both false cs = refl

list_kept : (both : List ℕ × List ℕ) (a b : Bool) (cs : List ℕ) → (a ≡ b → ⊥) → list_in (with_list both b cs) a ≡ list_in both a
list_kept both true true cs other = absurd (other refl)
list_kept both true false cs other = refl
list_kept both false true cs other = refl
list_kept both false false cs other = absurd (other refl)

senses : (a b : Bool) → (a ≡ b) ⊎ (a ≡ b → ⊥)
senses true true = inl refl
senses true false = inr (λ e. absurd cc)
senses false true = inr (λ e. absurd cc)
senses false false = inl refl

-- two literals are the same, or they differ
pub cases_lit : (k l : Lit) → (k ≡ l) ⊎ (k ≢ l)
cases_lit k l = elim (cases_eq k.var l.var) [
  | inl var ↦ elim (senses k.positive l.positive) [
    | inl sense ↦ inl (lit_same k l var sense)
    | inr other ↦ inr (λ same. other (ap (λ (x : Lit). x.positive) same))
  ]
  | inr other ↦ inr (λ same. other (ap (λ (x : Lit). x.var) same))
]

module _ (w : Watching) (l : Lit) (cs : List ℕ) (within : l.var < length w.watchers) where
  pub listed_here : watchers_of (listing w l cs) l ≡ cs
  listed_here = rw (get_or-set_same w.watchers l.var (with_list (lists_at w.watchers l.var) l.positive cs) ([], []) within) (list_put (lists_at w.watchers l.var) l.positive cs)

  pub listed_elsewhere : (m : Lit) → m ≢ l → watchers_of (listing w l cs) m ≡ watchers_of w m
  listed_elsewhere m other = elim (cases_eq m.var l.var) [
    | inl var ↦
        let apart : m.positive ≡ l.positive → ⊥ = λ sense. other (lit_same m l var sense) in
        rw (var, get_or-set_same w.watchers l.var (with_list (lists_at w.watchers l.var) l.positive cs) ([], []) within) (list_kept (lists_at w.watchers l.var) m.positive l.positive cs apart)
    | inr differ ↦ rw (get_or-set_other w.watchers l.var m.var (with_list (lists_at w.watchers l.var) l.positive cs) ([], []) differ) refl
  ]

-- a clause more among the watchers of a literal leaves those that stand there, and those of other literals
pub listed_more : (w : Watching) (l : Lit) (c : ℕ) (within : l.var < length w.watchers) (m : Lit) (d : ℕ) → Contains (watchers_of w m) d
    → Contains (watchers_of (listing w l (watchers_of w l ++ c ∷ [])) m) d
listed_more w l c within m d has = elim (cases_lit m l) [
  | inl same ↦ rw (same, listed_here w l (watchers_of w l ++ c ∷ []) within) (Contains-append_left (watchers_of w l) (c ∷ []) d (rw same at has))
  | inr other ↦ rw (listed_elsewhere w l (watchers_of w l ++ c ∷ []) within m other) has
]

pub listed_new : (w : Watching) (l : Lit) (c : ℕ) (within : l.var < length w.watchers) → Contains (watchers_of (listing w l (watchers_of w l ++ c ∷ [])) l) c
listed_new w l c within = rw (listed_here w l (watchers_of w l ++ c ∷ []) within) (Contains-push (watchers_of w l) c)

pub all_listed_more : (w : Watching) (l : Lit) (c : ℕ) (within : l.var < length w.watchers) → AreListed w → AreListed (listing w l (watchers_of w l ++ c ∷ []))
all_listed_more w l c within old d p is =
    let was = old d p is in
    record { first = listed_more w l c within p.first d was.first; second = listed_more w l c within p.second d was.second }

-- a list without the element at a place, where the last one stands there now
module _ (xs : List ℕ) (i : ℕ) (within : i < length xs) where
  pub removed_length : length (swap_remove xs i 0) + 1 ≡ length xs
  removed_length =
      let put = length-set xs i (get_or xs (length xs - 1) 0) in
      let short = length-take-le (length xs - 1) (set xs i (get_or xs (length xs - 1) 0)) (omega (arith, put)) in
      omega (arith, short, within)

  -- what stood elsewhere, from some place on that isn't behind, stands there still
  pub removed_left : (j : ℕ) → j < length xs → j ≢ i → (k : ℕ) × (k < length (swap_remove xs i 0)) × (i ≤ j → i ≤ k) × (get_or (swap_remove xs i 0) k 0 ≡ get_or xs j 0)
  removed_left j here other = elim (cases_eq j (length xs - 1)) [
    | inl last ↦
        let fewer = removed_length in
        let less : i < length xs - 1 = omega (arith, within, other, last) in (
          i,
          omega (arith, fewer, less),
          λ _. omega arith,
          get_or-take (length xs - 1) (set xs i (get_or xs (length xs - 1) 0)) i 0 less ∙ get_or-set_same xs i (get_or xs (length xs - 1) 0) 0 within ∙ ap (λ n. get_or xs n 0) (sym last),
        )
    | inr before ↦
        let fewer = removed_length in
        let less : j < length xs - 1 = omega (arith, here, before) in (
          j,
          omega (arith, fewer, less),
          λ le. le,
          get_or-take (length xs - 1) (set xs i (get_or xs (length xs - 1) 0)) j 0 less ∙ get_or-set_other xs i j (get_or xs (length xs - 1) 0) 0 other,
        )
  ]

-- a clause that isn't that of the place stands there still
pub removed_contains : (xs : List ℕ) (i d : ℕ) → i < length xs → get_or xs i 0 ≢ d → Contains xs d → Contains (swap_remove xs i 0) d
removed_contains xs i d within other (j, here, at) =
    let at0 : get_or xs j 0 ≡ d = sym (get_or_read xs j d here (sym at) 0) in
    let moved : j ≢ i = λ same. other (ap (λ n. get_or xs n 0) (sym same) ∙ at0) in
    let to = removed_left xs i within j here moved in
    (to.0, to.1, get_or_default (swap_remove xs i 0) to.0 d 0 to.1 ∙ to.3 ∙ at0)

pub all_listed_less : (w : Watching) (l : Lit) (i : ℕ) (within : l.var < length w.watchers) → i < length (watchers_of w l) → IsUnwatched w (get_or (watchers_of w l) i 0) l → AreListed w
    → AreListed (listing w l (swap_remove (watchers_of w l) i 0))
all_listed_less w l i within here unwatched old d p is =
    let was = old d p is in
    record { first = kept p.first was.first (λ same. (unwatched p (subst (λ x. watch_at w x ≡ Some p) same is)).0); second = kept p.second was.second (λ same. (unwatched p (subst (λ x. watch_at w x ≡ Some p) same is)).1) } where
      kept : (m : Lit) → Contains (watchers_of w m) d → (d ≡ get_or (watchers_of w l) i 0 → m ≢ l) → Contains (watchers_of (listing w l (swap_remove (watchers_of w l) i 0)) m) d
      kept m has apart = elim (cases_lit m l) [
        | inl same ↦ rw (same, listed_here w l (swap_remove (watchers_of w l) i 0) within) (removed_contains (watchers_of w l) i d here (λ e. apart (sym e) same) (rw same at has))
        | inr other ↦ rw (listed_elsewhere w l (swap_remove (watchers_of w l) i 0) within m other) has
      ]

-- one more clause that is attached
pub cases_attached : (xs : List (Option Watch)) (r : Option Watch) (c : ℕ) (p : Watch) → get_or (xs ++ r ∷ []) c None ≡ Some p → (get_or xs c None ≡ Some p) ⊎ ((c ≡ length xs) × (r ≡ Some p))
cases_attached [] r zero p is = inr (refl, is)
cases_attached [] r (suc c) p is = absurd (none-some _ is)
cases_attached (x ∷ xs) r zero p is = inl is
cases_attached (x ∷ xs) r (suc c) p is = elim (cases_attached xs r c p is) [
  | inl old ↦ inl old
  | inr new ↦ inr (omega (arith, new.0), new.1)
]

pub all_listed_up : (w : Watching) (r : Option Watch) → ((p : Watch) → r ≡ Some p → IsListed w (length w.watches) p) → AreListed w → AreListed (watching w (w.watches ++ r ∷ []))
all_listed_up w r new old c p is = elim (cases_attached w.watches r c p is) [
  | inl was ↦ let here = old c p was in record { first = here.first; second = here.second }
  | inr last ↦ let here = new p last.1 in rw last.0 (record { first = here.first; second = here.second })
]

-- a clause that is watched at other literals
pub cases_set : (xs : List (Option Watch)) (c d : ℕ) (q p : Watch) → c < length xs → get_or (set xs c (Some q)) d None ≡ Some p → ((d ≢ c) × (get_or xs d None ≡ Some p)) ⊎ ((d ≡ c) × (q ≡ p))
cases_set xs c d q p within is = elim (cases_eq d c) [
  | inl same ↦ inr (same, same_Some _ _ (sym (get_or-set_same xs c (Some q) None within) ∙ ap (λ n. get_or (set xs c (Some q)) n None) (sym same) ∙ is))
  | inr other ↦ inl (other, sym (get_or-set_other xs c d (Some q) None other) ∙ is)
]

pub all_listed_set : (w : Watching) (c : ℕ) (q : Watch) → c < length w.watches → IsListed w c q → AreListed w → AreListed (watching w (set w.watches c (Some q)))
all_listed_set w c q within new old d p is = elim (cases_set w.watches c d q p within is) [
  | inl was ↦ let here = old d p was.1 in record { first = here.first; second = here.second }
  | inr this ↦ rw (this.0, ← this.1) (record { first = new.first; second = new.second })
]
