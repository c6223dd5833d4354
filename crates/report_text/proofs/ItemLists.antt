-- Items of which a number was announced.
use Rattle.std.proofs.Common.{◌≡◌, ◌∙◌, sym, ap, subst, refl, arith, ℕ, suc, ◌+◌, ◌-◌, ◌<◌, ◌≤◌, List, [], ◌∷◌, ◌++◌, append_assoc, length, length-append, inl, inr}
use Rattle.std.specs.Prelude.{All}
use Rattle.std.specs.List.{flat_map}
use Rattle.std.proofs.Math.ListN.{replicate}
use Rattle.std.proofs.lemmas.List.{append-nil, length-replicate}
use Rattle.std.proofs.lemmas.List.Concat.{flat_map-append}
use Rattle.std.proofs.lemmas.List.Elements.{All-append, All-cons, All-head, All-push, All-replicate, All-tail}
use Rattle.report_text.specs.Outlines.{ArePassed}
use Rattle.report_text.specs.Parts.{IsFront, NoFront}
use Rattle.report_text.specs.ReportOf.{AreLines}
use Rattle.report_text.specs.ReportText.{ended}
use Rattle.report_text.specs.Stops.{AreItems, AreRead, IsStoppedAt}
use Rattle.report_text.specs.declared.stop.Stop.TheVariants as stop
use Rattle.report_text.proofs.Cutting.{lines-append}
use Rattle.report_text.proofs.Lined.{AreLined, AreSpellings, same-front, stopped-first}
use Rattle.report_text.proofs.Stopping.{GoesOn, stopped-after}

module _ {X : Type 0} (Is : X → Type 0) (spelling : X → List ℕ) (are : AreSpellings Is spelling) where
  abbrev text : X → List ℕ
  text x = ended (spelling x)

  -- texts of as many items are equal where they begin the same bytes
  pub items-apart : (xs ys : List X) (s t : List ℕ) → length xs ≡ length ys → All Is xs → All Is ys → flat_map text xs ++ s ≡ flat_map text ys ++ t → (xs ≡ ys) × (s ≡ t)
  items-apart [] [] s t size all_x all_y same = (refl, same)
  items-apart [] (y ∷ ys) s t size all_x all_y same = absurd (omega (arith, size))
  items-apart (x ∷ xs) [] s t size all_x all_y same = absurd (omega (arith, size))
  items-apart (x ∷ xs) (y ∷ ys) s t size all_x all_y same =
      let texts : text x ++ (flat_map text xs ++ s) ≡ text y ++ (flat_map text ys ++ t) = sym (append_assoc (text x) (flat_map text xs) s) ∙ same ∙ append_assoc (text y) (flat_map text ys) t in
      let first = same-front Is spelling are x y (flat_map text xs ++ s) (flat_map text ys ++ t) (All-head Is x xs all_x) (All-head Is y ys all_y) texts in
      let rest = items-apart xs ys s t (omega (arith, size)) (All-tail Is x xs all_x) (All-tail Is y ys all_y) first.1 in
      (ap (λ z. z ∷ xs) first.0 ∙ ap (λ zs. y ∷ zs) rest.0, rest.1)

  pub items-lines : (xs : List X) → AreLines (flat_map text xs)
  items-lines [] = inl refl
  items-lines (x ∷ xs) = lines-append (text x) (flat_map text xs) (inr (spelling x, refl)) (items-lines xs)

  -- so many items were read, of those announced
  pub record AreReadUpTo (count : ℕ) (bytes : List ℕ) (items : List X) (rest : List ℕ) : Type 0 where
    pub few : length items ≤ count
    pub each : All Is items
    pub split : bytes ≡ flat_map text items ++ rest

  pub one-more : (count : ℕ) (bytes : List ℕ) (items : List X) (rest : List ℕ) (x : X) (after : List ℕ) → AreReadUpTo count bytes items rest → length items < count → IsFront Is text rest x after
      → AreReadUpTo count bytes (items ++ x ∷ []) after
  one-more count bytes items rest x after before more front = record {
    few = omega (arith, more, length-append items (x ∷ []));
    each = All-push Is items x before.each front.is;
    split = before.split ∙ ap (λ t. flat_map text items ++ t) front.split ∙ sym (append_assoc (flat_map text items) (text x) after)
        ∙ ap (λ t. (flat_map text items ++ t) ++ after) (sym (append-nil (text x))) ∙ ap (λ t. t ++ after) (sym (flat_map-append text items (x ∷ [])));
  }

  pub all-read : (count : ℕ) (bytes : List ℕ) (items : List X) (rest : List ℕ) → AreReadUpTo count bytes items rest → count ≤ length items → AreRead Is text count bytes items rest
  all-read count bytes items rest before full = record { full = omega (arith, before.few, full); each = before.each; split = before.split }

  -- so many items were passed, of those announced
  pub record ArePassedUpTo (count : ℕ) (bytes : List ℕ) (passed : ℕ) (rest : List ℕ) : Type 0 where
    pub items : List X
    pub size : length items ≡ passed
    pub read : AreReadUpTo count bytes items rest

  pub one-passed : (count : ℕ) (bytes : List ℕ) (passed : ℕ) (rest : List ℕ) (x : X) (after : List ℕ) → ArePassedUpTo count bytes passed rest → passed < count → IsFront Is text rest x after
      → ArePassedUpTo count bytes (passed + 1) after
  one-passed count bytes passed rest x after before more front = record {
    items = before.items ++ x ∷ [];
    size = omega (arith, before.size, length-append before.items (x ∷ []));
    read = one-more count bytes before.items rest x after before.read (omega (arith, before.size, more)) front;
  }

  pub all-passed : (count : ℕ) (bytes : List ℕ) (passed : ℕ) (rest : List ℕ) → ArePassedUpTo count bytes passed rest → count ≤ passed → ArePassed Is text count bytes rest
  all-passed count bytes passed rest before full = record { items = before.items; read = all-read count bytes before.items rest before.read (omega (arith, before.size, full)) }

  -- items that were read of the text of as many are these
  pub items-found : (count : ℕ) (bytes : List ℕ) (found : List X) (rest : List ℕ) → AreRead Is text count bytes found rest → (xs : List X) → length xs ≡ count
      → All Is xs → flat_map text xs ≡ bytes → found ≡ xs
  items-found count bytes found rest read xs full each is =
      (items-apart found xs rest [] (read.full ∙ sym full) read.each each (sym read.split ∙ sym is ∙ sym (append-nil (flat_map text xs)))).0

  -- and reading them doesn't stop
  pub items-go_on : (count left : ℕ) (bytes : List ℕ) → AreItems Is text count bytes → IsStoppedAt (AreItems Is text count) bytes left → ⊥
  items-go_on count left bytes items stopped = stopped.none bytes [] items (sym (append-nil bytes))

  module _ (some : X) (is_some : Is some) where
    -- any number of items has a text
    pub some-items : (n : ℕ) → AreItems Is text n (flat_map text (replicate n some))
    some-items n = record { items = replicate n some; full = length-replicate n some; each = All-replicate Is n some is_some; are = refl }

    -- one item or more begin with a line
    items-lined : (n : ℕ) → AreLined Is spelling (λ x. AreItems Is text n) (AreItems Is text (suc n))
    items-lined n = record { spellings = are; forth = forth; back = back; some = (flat_map text (replicate (suc n) some), some-items (suc n)) }
      where
        forth : (x : X) (t : List ℕ) → Is x → AreItems Is text n t → AreItems Is text (suc n) (text x ++ t)
        forth x t is l = record { items = x ∷ l.items; full = ap suc l.full; each = All-cons Is x l.items is l.each; are = ap (λ u. text x ++ u) l.are }

        split : (xs : List X) (m : List ℕ) → length xs ≡ suc n → All Is xs → flat_map text xs ≡ m → (x : X) × (t : List ℕ) × Is x × AreItems Is text n t × (m ≡ text x ++ t)
        split [] m full each is = absurd (omega (arith, full))
        split (x ∷ xs) m full each is = (x, flat_map text xs, All-head Is x xs each, record { items = xs; full = omega (arith, full); each = All-tail Is x xs each; are = refl }, sym is)

        back : (m : List ℕ) → AreItems Is text (suc n) m → (x : X) × (t : List ℕ) × Is x × AreItems Is text n t × (m ≡ text x ++ t)
        back m a = split a.items m a.full a.each a.are

    -- what follows some of the items
    items-on : (xs : List X) (n : ℕ) → All Is xs → GoesOn (flat_map text xs) (AreItems Is text n) (AreItems Is text (length xs + n))
    items-on xs n all = record { lines = items-lines xs; forth = forth xs all; back = λ m s u is same. by xs is.items m s u all is.full is.each is.are same }
      where
        forth : (xs : List X) → All Is xs → (t : List ℕ) → AreItems Is text n t → AreItems Is text (length xs + n) (flat_map text xs ++ t)
        forth xs all t l = record {
          items = xs ++ l.items;
          full = omega (arith, l.full, length-append xs l.items);
          each = All-append Is xs l.items all l.each;
          are = flat_map-append text xs l.items ∙ ap (λ u. flat_map text xs ++ u) l.are;
        }

        by : (xs ys : List X) (m s u : List ℕ) → All Is xs → length ys ≡ length xs + n → All Is ys → flat_map text ys ≡ m → m ++ s ≡ flat_map text xs ++ u
            → (t : List ℕ) × AreItems Is text n t × (m ≡ flat_map text xs ++ t)
        by [] ys m s u all_x size all_y is same = (m, record { items = ys; full = omega (arith, size); each = all_y; are = is }, refl)
        by (x ∷ xs) [] m s u all_x size all_y is same = absurd (omega (arith, size))
        by (x ∷ xs) (y ∷ ys) m s u all_x size all_y is same =
            let texts : text y ++ (flat_map text ys ++ s) ≡ text x ++ (flat_map text xs ++ u) =
            sym (append_assoc (text y) (flat_map text ys) s) ∙ ap (λ t. t ++ s) is ∙ same ∙ append_assoc (text x) (flat_map text xs) u in
            let first = same-front Is spelling are y x (flat_map text ys ++ s) (flat_map text xs ++ u) (All-head Is y ys all_y) (All-head Is x xs all_x) texts in
            let rest = by xs ys (flat_map text ys) s u (All-tail Is x xs all_x) (omega (arith, size)) (All-tail Is y ys all_y) refl first.1 in
            (rest.0, rest.1, sym is ∙ ap (λ t. t ++ flat_map text ys) (ap text first.0) ∙ ap (λ t. text x ++ t) rest.2 ∙ sym (append_assoc (text x) (flat_map text xs) rest.0))

    -- the next item is missing
    pub items-stopped : (count : ℕ) (bytes : List ℕ) (items : List X) (rest : List ℕ) → AreReadUpTo count bytes items rest → length items < count
        → NoFront Is text rest → IsStoppedAt (AreItems Is text count) bytes (length rest)
    items-stopped count bytes items rest before more lacking =
        let n = count - length items - 1 in
        let size : length items + suc n ≡ count = omega (arith, more) in
        let stops = stopped-first Is spelling (λ x. AreItems Is text n) (AreItems Is text (suc n)) (items-lined n) rest lacking in
        let after =
        stopped-after (flat_map text items) (AreItems Is text (suc n)) (AreItems Is text (length items + suc n))
        (items-on items (suc n) before.each) bytes rest (stop.Syntax (length rest)) before.split stops in
        subst (λ k. IsStoppedAt (AreItems Is text k) bytes (length rest)) size after

    pub passed-stopped : (count : ℕ) (bytes : List ℕ) (passed : ℕ) (rest : List ℕ) → ArePassedUpTo count bytes passed rest → passed < count
        → NoFront Is text rest → IsStoppedAt (AreItems Is text count) bytes (length rest)
    passed-stopped count bytes passed rest before more lacking = items-stopped count bytes before.items rest before.read (omega (arith, before.size, more)) lacking
