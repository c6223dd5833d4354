-- Records that are read one after another without a fault.
use Rattle.std.proofs.Common.{◌≡◌, ◌∙◌, sym, ap, refl, ℕ, ◌+◌, List, [], ◌∷◌, ◌++◌, length, Option, Some, None, append_assoc}
use Rattle.std.proofs.lemmas.List.{append-nil}
use Rattle.log_read.specs.declared.fault.LogFault.{LogFault}
use Rattle.log_read.specs.declared.kind.Kind.TheVariants as kind
use Rattle.log_read.specs.declared.version.Version.{Version}
use Rattle.log_read.specs.declared.version.Version.TheVariants as version
use Rattle.log_read.specs.LogOf.{fault_of, first_fault, known_in, or_else}
use Rattle.log_read.specs.Reading.{with_record}
use Rattle.log_read.specs.Records.{Listing, Record, listed}
use Rattle.log_read.proofs.Listing.{listed-push}

-- after records that list l, these have no fault, and with them l' is listed
pub record Runs (v : Version) (l : Listing) (xs : List Record) (l' : Listing) : Type 0 where
  pub clear : (before : List Record) → listed before ≡ l → first_fault v before xs ≡ None
  pub lists : (before : List Record) → listed before ≡ l → listed (before ++ xs) ≡ l'

pub runs-none : (v : Version) (l : Listing) → Runs v l [] l
runs-none v l = record { clear = λ before is. refl; lists = λ before is. rw (append-nil before) is }

pub runs-cons : (v : Version) (l next l' : Listing) (x : Record) (xs : List Record) → ((place : ℕ) → fault_of v place l x ≡ None) → with_record l x ≡ next → Runs v next xs l' → Runs v l (x ∷ xs) l'
runs-cons v l next l' x xs none step rest = record {
  clear = λ before is.
      let here = ap (λ k. fault_of v (length before + 2) k x) is ∙ none (length before + 2) in
      ap (λ o. or_else o (first_fault v (before ++ x ∷ []) xs)) here ∙ rest.clear (before ++ x ∷ []) (listed-push before x ∙ ap (λ k. with_record k x) is ∙ step);
  lists = λ before is.
      ap listed (sym (append_assoc before (x ∷ []) xs)) ∙ rest.lists (before ++ x ∷ []) (listed-push before x ∙ ap (λ k. with_record k x) is ∙ step);
}

or_else_assoc : (a b c : Option LogFault) → or_else a (or_else b c) ≡ or_else (or_else a b) c
or_else_assoc None b c = refl
or_else_assoc (Some x) b c = refl

-- the first fault of two parts
first_fault-append : (v : Version) (before xs ys : List Record) → first_fault v before (xs ++ ys) ≡ or_else (first_fault v before xs) (first_fault v (before ++ xs) ys)
first_fault-append v before [] ys = rw (append-nil before) refl
first_fault-append v before (x ∷ xs) ys =
    let first = fault_of v (length before + 2) (listed before) x in
    let more = first_fault-append v (before ++ x ∷ []) xs ys ∙ ap (λ zs. or_else (first_fault v (before ++ x ∷ []) xs) (first_fault v zs ys)) (append_assoc before (x ∷ []) xs) in
    ap (or_else first) more ∙ or_else_assoc first (first_fault v (before ++ x ∷ []) xs) (first_fault v (before ++ x ∷ xs) ys)

pub runs-append : (v : Version) (l middle l' : Listing) (xs ys : List Record) → Runs v l xs middle → Runs v middle ys l' → Runs v l (xs ++ ys) l'
runs-append v l middle l' xs ys one two = record {
  clear = λ before is.
      first_fault-append v before xs ys ∙ ap (λ o. or_else o (first_fault v (before ++ xs) ys)) (one.clear before is) ∙ two.clear (before ++ xs) (one.lists before is);
  lists = λ before is. ap listed (sym (append_assoc before xs ys)) ∙ two.lists (before ++ xs) (one.lists before is);
}

-- hosts are known in each version
pub known-host : (v : Version) → known_in v (Some kind.Host) ≡ Some kind.Host
known-host version.One = refl
known-host version.Two = refl
known-host version.Three = refl
