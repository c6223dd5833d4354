-- An index of atoms that takes in the next one.
use Rattle.std.proofs.Common.{◌≡◌, ◌∙◌, sym, ap, subst, refl, ℕ, suc, ◌+◌, ◌-◌, ◌<◌, ◌≤◌, ◌^◌, List, [], ◌∷◌, ◌++◌, length, set, Some, ◌⊎◌, inl, inr, arith}
use Rattle.std.specs.Prelude.{◌≢◌, All, AllPairs, false, true, slice_index, slice_index_or}
use Rattle.std.proofs.lemmas.Bool.{cases_Bool, cases_eq}
use Rattle.std.proofs.lemmas.List.{get_or-set_other, get_or-set_same, get_or_append_left, get_or_push, length-set, length_push}
use Rattle.std.proofs.lemmas.Option.{slice_get-get_or, slice_get_within}
use Rattle.axiom_rules.specs.declared.literal.Atom.{Atom}
use Rattle.axiom_rules.specs.declared.atom_index.AtomIndex.{AtomIndex}
use Rattle.axiom_rules.specs.AtomIndex.{AreChains, AreTaken, IsIndex, IsLast, IsTable, bucket_of}
use Rattle.axiom_rules.specs.Atoms.{AreOnce, IsVar, has_atom, with_atom}
use Rattle.axiom_rules.specs.Literals.{same_atom}
use Rattle.axiom_rules.proofs.AddingLemmas.{atom-itself}
use Rattle.axiom_rules.proofs.AtomLemmas.{has-var, once-added}
use Rattle.axiom_rules.proofs.PartLemmas.{atoms_same}
use Rattle.axiom_rules.proofs.ShapeLemmas.{slice-end}

-- an atom that stands in a list of one more stood in the list
var-before : (atoms : List Atom) (x : Atom) (v : ℕ) (a : Atom) → v < length atoms → IsVar (atoms ++ x ∷ []) v a → IsVar atoms v a
var-before atoms x v a low there = elim (slice-end atoms x a v there) [
  | inl is ↦ is
  | inr new ↦ absurd (omega (arith, new.0, low))
]

last-more : (atoms : List Atom) (x : Atom) (buckets bucket place link : ℕ) → place ≤ length atoms → IsLast atoms buckets bucket place link → IsLast (atoms ++ x ∷ []) buckets bucket place link
last-more atoms x buckets bucket place link low is = record {
  before = is.before;
  in_bucket = λ v a at there. is.in_bucket v a at (var-before atoms x v a (omega (arith, at, is.before, low)) there);
  last = λ v a below there same. is.last v a below (var-before atoms x v a (omega (arith, below, low)) there) same;
}

-- where the list has one atom more
pub chains-more : (atoms : List Atom) (x : Atom) (heads links : List ℕ) → AreChains atoms heads links → AreChains (atoms ++ x ∷ []) heads links
chains-more atoms x heads links are = record {
  few = omega (arith, are.few, length_push atoms x);
  of_heads = λ b low. last-more atoms x (length heads) b (length links) (slice_index heads b) are.few (are.of_heads b low);
  of_links =
      λ v a low there. last-more atoms x (length heads) (bucket_of (length heads) a) v (slice_index links v) (omega (arith, low, are.few))
      (are.of_links v a low (var-before atoms x v a (omega (arith, low, are.few)) there));
}

-- the last atom of a bucket stays so where the next one is of another
last-other : (atoms : List Atom) (x : Atom) (buckets bucket n link : ℕ) → IsVar atoms n x → (bucket ≡ bucket_of buckets x → ⊥)
    → IsLast atoms buckets bucket n link → IsLast atoms buckets bucket (n + 1) link
last-other atoms x buckets bucket n link at other is = record {
  before = omega (arith, is.before);
  in_bucket = is.in_bucket;
  last = λ v a low there same. elim (cases_eq v n) [
    | inl here ↦
        let again : IsVar atoms n a = subst (λ (p : ℕ). IsVar atoms p a) here there in
        let one : a ≡ x = cc in
        absurd (other (sym same ∙ ap (bucket_of buckets) one))
    | inr differ ↦ is.last v a (grind (arith, low, differ)) there same
  ];
}

-- and is the next one where that is of the bucket
last-here : (atoms : List Atom) (x : Atom) (buckets n : ℕ) → IsVar atoms n x → IsLast atoms buckets (bucket_of buckets x) (n + 1) (n + 1)
last-here atoms x buckets n at = record {
  before = omega arith;
  in_bucket = λ v a is there.
      let here : v ≡ n = omega (arith, is) in
      let again : IsVar atoms n a = subst (λ (p : ℕ). IsVar atoms p a) here there in
      let one : a ≡ x = cc in
      ap (bucket_of buckets) one;
  last = λ v a low there same. low;
}

-- with the next atom
module _ (atoms : List Atom) (heads links : List ℕ) (x : Atom) (b : ℕ) (are : AreChains atoms heads links) (at : IsVar atoms (length links) x) (next : length links < length atoms)
    (of : b ≡ bucket_of (length heads) x) (low : b < length heads) where
  head-added : (c : ℕ) → c < length heads → IsLast atoms (length heads) c (length links + 1) (slice_index (set heads b (length links + 1)) c)
  head-added c below = elim (cases_eq c b) [
    | inl here ↦ rw (here, get_or-set_same heads b (length links + 1) 0 low, of) (last-here atoms x (length heads) (length links) at)
    | inr other ↦ rw (get_or-set_other heads b c (length links + 1) 0 other)
        (last-other atoms x (length heads) c (length links) (slice_index heads c) at (λ same. other (same ∙ sym of)) (are.of_heads c below))
  ]

  link-added : (v : ℕ) (a : Atom) → v < length links + 1 → IsVar atoms v a → IsLast atoms (length heads) (bucket_of (length heads) a) v (slice_index (links ++ slice_index heads b ∷ []) v)
  link-added v a below there = elim (cases_eq v (length links)) [
    | inl here ↦
        let again : IsVar atoms (length links) a = subst (λ (p : ℕ). IsVar atoms p a) here there in
        let one : x ≡ a = cc in
        rw (here, get_or_push links (slice_index heads b) 0 (length links) refl, ← one, ← of) (are.of_heads b low)
    | inr other ↦
        let before : v < length links = grind (arith, below, other) in
        rw (get_or_append_left links (slice_index heads b ∷ []) 0 v before) (are.of_links v a before there)
  ]

  pub chains-added : AreChains atoms (set heads b (length links + 1)) (links ++ slice_index heads b ∷ [])
  chains-added = record {
    few = omega (arith, next, length_push links (slice_index heads b));
    of_heads = λ c below. rw (length-set heads b (length links + 1), length_push links (slice_index heads b)) (head-added c (omega (arith, below, length-set heads b (length links + 1))));
    of_links = λ v a below there. rw (length-set heads b (length links + 1)) (link-added v a (omega (arith, below, length_push links (slice_index heads b))) there);
  }

-- an atom stands before a link's end, if anywhere, and the link leads into its bucket
pub record IsBefore (atoms : List Atom) (buckets : ℕ) (x : Atom) (link : ℕ) : Type 0 where
  pub low : link ≤ length atoms
  pub before : (v : ℕ) → IsVar atoms v x → v < link
  pub in_bucket : (v : ℕ) (a : Atom) → v + 1 ≡ link → IsVar atoms v a → bucket_of buckets a ≡ bucket_of buckets x

-- the atom at a place that is in the list
pub at-place : (atoms : List Atom) (place : ℕ) (d : Atom) → place < length atoms → IsVar atoms place (slice_index_or atoms place d)
at-place atoms place d low = slice_get-get_or atoms place d low

module _ (atoms : List Atom) (heads links : List ℕ) (x d : Atom) (are : AreChains atoms heads links) (all : length links ≡ length atoms) where
  -- of the head of its bucket this holds
  pub before-head : (b : ℕ) → b ≡ bucket_of (length heads) x → b < length heads → IsBefore atoms (length heads) x (slice_index heads b)
  before-head b of low =
      let is = are.of_heads b low in
      record {
        low = omega (arith, is.before, all);
        before = λ v there. is.last v x (omega (arith, all, slice_get_within atoms v x there)) there (sym of);
        in_bucket = λ v a at there. is.in_bucket v a at there ∙ of;
      }

  -- and of the link of another atom where it holds of the link to that atom
  pub before-link : (link : ℕ) → 0 < link → IsBefore atoms (length heads) x link → same_atom (slice_index_or atoms (link - 1) d) x ≡ false
      → IsBefore atoms (length heads) x (slice_index links (link - 1))
  before-link link some is other =
      let place = link - 1 in
      let a = slice_index_or atoms place d in
      let low : place < length atoms = omega (arith, some, is.low) in
      let at : IsVar atoms place a = at-place atoms place d low in
      let same : bucket_of (length heads) a ≡ bucket_of (length heads) x = is.in_bucket place a (omega (arith, some)) at in
      let next = are.of_links place a (omega (arith, low, all)) at in
      record {
        low = omega (arith, next.before, low);
        before = λ v there. elim (cases_eq v place) [
          | inl here ↦
              let again : IsVar atoms place x = subst (λ (p : ℕ). IsVar atoms p x) here there in
              let one : a ≡ x = cc in
              let equal : same_atom a x ≡ true = rw one (atom-itself x) in
              absurd (cc)
          | inr differ ↦ next.last v x (grind (arith, is.before v there, some, differ)) there (sym same)
        ];
        in_bucket = λ v b at-v there. next.in_bucket v b at-v there ∙ same;
      }

  pub link-lower : (link : ℕ) → 0 < link → IsBefore atoms (length heads) x link → slice_index links (link - 1) < link
  link-lower link some is =
      let low : link - 1 < length atoms = omega (arith, some, is.low) in
      let next = are.of_links (link - 1) (slice_index_or atoms (link - 1) d) (omega (arith, low, all)) (at-place atoms (link - 1) d low) in
      omega (arith, next.before, some)

-- an atom without a place isn't among the atoms
pub none-found : (atoms : List Atom) (x : Atom) → ((v : ℕ) → IsVar atoms v x → ⊥) → has_atom atoms x ≡ false
none-found [] x none = refl
none-found (a ∷ atoms) x none = elim (cases_Bool (same_atom x a)) [
  | inl same ↦ let one : x ≡ a = atoms_same x a same in absurd (none 0 (ap Some (sym one)))
  | inr differ ↦ rw differ (none-found atoms x (λ v there. none (suc v) there))
]

-- what is put at the end where it isn't there
pub with-absent : (atoms : List Atom) (a : Atom) → has_atom atoms a ≡ false → with_atom atoms a ≡ atoms ++ a ∷ []
with-absent atoms a absent = rw absent refl

pub with-there : (atoms : List Atom) (v : ℕ) (a : Atom) → IsVar atoms v a → with_atom atoms a ≡ atoms
with-there atoms v a there = rw (has-var atoms v a there) refl

-- the table with a new atom
pub table-added : (atoms : List Atom) (a : Atom) (index : AtomIndex) → length atoms < 2 ^ 32 - 1 → has_atom atoms a ≡ false → AreOnce atoms → IsIndex atoms index → IsTable (atoms ++ a ∷ []) index
table-added atoms a index room absent once indexed = record {
  once = subst AreOnce (with-absent atoms a absent) (once-added atoms a room once);
  indexed = chains-more atoms a index.heads.items index.links.items indexed;
}

-- atoms that are taken from others by variables that differ
pub taken-once : (atoms : List Atom) (vars : List ℕ) (table : List Atom) → length vars < 2 ^ 32 → AllPairs (λ v w. v ≢ w) vars
    → All (λ v. v < length atoms) vars → AreOnce atoms → AreTaken atoms vars table → AreOnce table
taken-once atoms vars table few apart below once taken = record {
  few = omega (arith, few, taken.count);
  once = λ n m a at-n at-m.
      let low-n : n < length vars = omega (arith, slice_get_within table n a at-n, taken.count) in
      let low-m : m < length vars = omega (arith, slice_get_within table m a at-m, taken.count) in
      let v = slice_index vars n in
      let w = slice_index vars m in
      let old-v : IsVar atoms v a = sym (taken.each n v (slice_get-get_or vars n 0 low-n)) ∙ at-n in
      let old-w : IsVar atoms w a = sym (taken.each m w (slice_get-get_or vars m 0 low-m)) ∙ at-m in
      let same : v ≡ w = once.once v w a old-v old-w in
      elim (cases_eq n m) [
        | inl equal ↦ equal
        | inr differ ↦ elim (cases_lt n m) [
          | inl less ↦ absurd (apart n m 0 less low-m same)
          | inr not_less ↦ absurd (apart m n 0 (grind (arith, differ, not_less)) low-n (sym same))
        ]
      ];
}
  where
    cases_lt : (n m : ℕ) → (n < m) ⊎ (m ≤ n)
    cases_lt n m = grind arith

-- an index of no atoms
pub no-chains : (atoms : List Atom) → AreChains atoms [] []
no-chains atoms = record {
  few = omega arith;
  of_heads = λ b low. absurd (omega (arith, low));
  of_links = λ v a low there. absurd (omega (arith, low));
}

-- the atom at the end
pub var-last : (atoms : List Atom) (a : Atom) (n : ℕ) → n ≡ length atoms → IsVar (atoms ++ a ∷ []) n a
var-last [] a n is = rw is refl
var-last (b ∷ atoms) a n is = rw is (var-last atoms a (length atoms) refl)
