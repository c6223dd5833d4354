-- Each row of a log changes or pulses at most one proposition, so the changes and the pulses of distinct trees are no more than the rows.
use Rattle.std.proofs.Common.{◌≡◌, ◌∙◌, sym, ap, refl, ℕ, zero, suc, ◌+◌, ◌==◌, ◌<◌, ◌≤◌, cond, Bool, true, false, ◌||◌, ◌&&◌, if◌then◌else◌, List, [], ◌∷◌, length, Option, Some, None, inl, inr, arith}
use Rattle.std.specs.Prelude.{bytes_eq, count_by, is_some, option_and_then, option_map, position, slice_get, slice_index_or, sum_by}
use Rattle.std.specs.List.{cons_option, filter_map, range_with_len}
use Rattle.std.specs.Option.{option_map_or}
use Rattle.std.proofs.lemmas.Bool.{and_parts, cases_Bool, eqb-true, false_from_ne_true, or_cases}
use Rattle.std.proofs.lemmas.Bool.Decides.{nat_tests}
use Rattle.std.proofs.lemmas.List.FromFn.{length-range_with_len}
use Rattle.std.proofs.lemmas.List.Quantifiers.{position-Some}
use Rattle.std.proofs.lemmas.List.Sums.{count_by-le-length, length-filter, sum_by-cons, sum_by-le, sum_by-le-sum_by}
use Rattle.std.proofs.lemmas.Option.{slice_get-get_or}
use Rattle.std.proofs.lemmas.Slice.Eq.{bytes_eq-Decides}
use Rattle.mt_model.specs.declared.log.Act.{Act}
use Rattle.mt_model.specs.declared.log.Act.TheVariants.{Set, Clear, Send, Recv, Note, Pulse}
use Rattle.mt_model.specs.declared.log.Host.{Host}
use Rattle.mt_model.specs.declared.log.Row.{Row}
use Rattle.mt_model.specs.Form.{Form, True, False, Prop, Not, And, Or, Implies, Until, Since, Eventually, Always, Once, Historically}
use Rattle.mt_model.specs.Log.{Logged, name_in}
use Rattle.mt_model.specs.State.{Change, change_at, changes_of, effect_of, host_named, is_pulse_at, is_pulse_of, pulses_of}
use Rattle.mt_model.specs.Timing.{host_of}
use Rattle.formula_arena.specs.Nodes.{tree_at}
use Rattle.axiom_rules.specs.NodeShapes.{changes_in, pulses_in, shape_of}

module _ {X : Type 0} (p : X → Bool) where
  counted-yes : (x : X) (xs : List X) → p x ≡ true → count_by p (x ∷ xs) ≡ 1 + count_by p xs
  counted-yes x xs is = sum_by-cons (λ x. cond (p x) 1 0) x xs ∙ ap (λ b. cond b 1 0 + count_by p xs) is

  counted-no : (x : X) (xs : List X) → p x ≡ false → count_by p (x ∷ xs) ≡ count_by p xs
  counted-no x xs fails = sum_by-cons (λ x. cond (p x) 1 0) x xs ∙ ap (λ b. cond b 1 0 + count_by p xs) fails ∙ (let none : 0 + count_by p xs ≡ count_by p xs = omega arith in none)

  module _ (d : X) where
    count-none : (xs : List X) → ((k : ℕ) → k < length xs → p (slice_index_or xs k d) ≡ false) → count_by p xs ≡ 0
    count-none [] none = refl
    count-none (x ∷ xs) none =
        let ih = count-none xs (λ k low. none (suc k) (omega (arith, low))) in
        let here = counted-no x xs (none 0 (omega arith)) in
        omega (arith, ih, here)

    -- one element at most passes a test that only t can pass, where no element stands twice
    count-one : (t : X) (xs : List X) → ((j k : ℕ) → j < length xs → k < length xs → slice_index_or xs j d ≡ slice_index_or xs k d → j ≡ k) → ((x : X) → p x ≡ true → x ≡ t) → count_by p xs ≤ 1
    count-one t [] once only = omega arith
    count-one t (x ∷ xs) once only = elim (cases_Bool (p x)) [
      | inl is ↦
          let others = count-none xs (λ k low. false_from_ne_true (p (slice_index_or xs k d)) (λ also.
          let same = once 0 (suc k) (omega arith) (omega (arith, low)) (only x is ∙ sym (only (slice_index_or xs k d) also)) in
          omega (arith, same))) in
          let here = counted-yes x xs is in
          omega (arith, others, here)
      | inr fails ↦
          let ih = count-one t xs (λ j k low-j low-k same. let e = once (suc j) (suc k) (omega (arith, low-j)) (omega (arith, low-k)) same in omega (arith, e)) only in
          let here = counted-no x xs fails in
          omega (arith, ih, here)
    ]

pub sum-both : {X : Type 0} (f g : X → ℕ) (xs : List X) → sum_by (λ x. f x + g x) xs ≡ sum_by f xs + sum_by g xs
sum-both f g [] = refl
sum-both f g (x ∷ xs) =
    let ih = sum-both f g xs in
    let both = sum_by-cons (λ x. f x + g x) x xs in
    let first = sum_by-cons f x xs in
    let second = sum_by-cons g x xs in
    omega (arith, ih, both, first, second)

-- what a list is mapped to and what of it passes a test are no more than its elements of either kind, where none is of both
module _ (h : ℕ → Option Change) (p : ℕ → Bool) (never : (e : ℕ) → is_some (h e) ≡ true → p e ≡ false) where
  either-counted : (rows : List ℕ) → length (filter_map h rows) + count_by p rows ≤ count_by (λ e. is_some (h e) || p e) rows
  either-counted [] = omega arith
  either-counted (e ∷ rows) =
      let either = sum_by-cons (λ e. cond (is_some (h e) || p e) 1 0) e rows in
      let passing = sum_by-cons (λ e. cond (p e) 1 0) e rows in
      let here = go (h e) (p e) (never e) in
      omega (arith, either, passing, here, either-counted rows)
    where
      go : (o : Option Change) (b : Bool) → (is_some o ≡ true → b ≡ false) → length (cons_option o (filter_map h rows)) + cond b 1 0 ≤ cond (is_some o || b) 1 0 + length (filter_map h rows)
      go None true fails = omega arith
      go None false fails = omega arith
      go (Some c) true fails = absurd (cc (fails refl))
      go (Some c) false fails = omega arith

module _ (log : Logged) where
  -- row e changes a host's proposition or pulses it
  abbrev tells : ℕ → List ℕ → ℕ → Bool
  tells h name e = is_some (change_at log h name e) || is_pulse_at log h name e

  -- row e tells so of the tree, a proposition
  abbrev tells_of : ℕ → Form → Bool
  tells_of e (Prop host name) = option_map_or (λ h. tells h name e) (host_named log host) false
  tells_of e _ = false

  -- the only proposition of which row e can tell
  abbrev told_by : ℕ → Form
  told_by e = Prop (option_map_or (λ h. h.name) (slice_get log.hosts (host_of log e)) []) (option_map_or (λ r. name_in r.act) (slice_get log.rows e) [])

  host-name : (host : List ℕ) (hosts : List Host) (h : ℕ) → position (λ g. bytes_eq g.name host) hosts ≡ Some h → option_map_or (λ g. g.name) (slice_get hosts h) [] ≡ host
  host-name host [] h is = absurd (cc)
  host-name host (g ∷ hosts) h is =
      let found = position-Some (λ g. bytes_eq g.name host) (g ∷ hosts) h g is in
      rw (slice_get-get_or (g ∷ hosts) h g found.0) ((bytes_eq-Decides _ host).0 found.1)

  effect-name : (name : List ℕ) (act : Act) → is_some (effect_of name act) ≡ true → name_in act ≡ name
  effect-name name (Set n) is = go (bytes_eq n name) refl is
    where
      go : (b : Bool) → bytes_eq n name ≡ b → is_some (let o : Option Bool = (if b then Some true else None) in o) ≡ true → n ≡ name
      go true same is = (bytes_eq-Decides n name).0 same
      go false same is = absurd (cc)
  effect-name name (Clear n) is = go (bytes_eq n name) refl is
    where
      go : (b : Bool) → bytes_eq n name ≡ b → is_some (let o : Option Bool = (if b then Some false else None) in o) ≡ true → n ≡ name
      go true same is = (bytes_eq-Decides n name).0 same
      go false same is = absurd (cc)
  effect-name name (Send m) is = absurd (cc)
  effect-name name (Recv m) is = absurd (cc)
  effect-name name (Note n) is = absurd (cc)
  effect-name name (Pulse n) is = absurd (cc)

  pulse-name : (name : List ℕ) (act : Act) → is_pulse_of name act ≡ true → name_in act ≡ name
  pulse-name name (Pulse n) is = (bytes_eq-Decides n name).0 is
  pulse-name name (Set n) is = absurd (cc)
  pulse-name name (Clear n) is = absurd (cc)
  pulse-name name (Send m) is = absurd (cc)
  pulse-name name (Recv m) is = absurd (cc)
  pulse-name name (Note n) is = absurd (cc)

  -- an act that sets or clears is no pulse
  effect-alone : (name : List ℕ) (act : Act) → is_some (effect_of name act) ≡ true → is_pulse_of name act ≡ false
  effect-alone name (Set n) is = refl
  effect-alone name (Clear n) is = refl
  effect-alone name (Send m) is = refl
  effect-alone name (Recv m) is = refl
  effect-alone name (Note n) is = refl
  effect-alone name (Pulse n) is = absurd (cc)

  changed-name : (name : List ℕ) (o : Option Row) → is_some (option_and_then (λ r. effect_of name r.act) o) ≡ true → option_map_or (λ r. name_in r.act) o [] ≡ name
  changed-name name None is = absurd (cc)
  changed-name name (Some r) is = effect-name name r.act is

  pulsed-name : (name : List ℕ) (o : Option Row) → option_map_or (λ r. is_pulse_of name r.act) o false ≡ true → option_map_or (λ r. name_in r.act) o [] ≡ name
  pulsed-name name None is = absurd (cc)
  pulsed-name name (Some r) is = pulse-name name r.act is

  changed-alone : (name : List ℕ) (o : Option Row) → is_some (option_and_then (λ r. effect_of name r.act) o) ≡ true → option_map_or (λ r. is_pulse_of name r.act) o false ≡ false
  changed-alone name None is = absurd (cc)
  changed-alone name (Some r) is = effect-alone name r.act is

  -- a row that is a change is of the host, and has an effect on the name
  change-parts : (h : ℕ) (name : List ℕ) (e : ℕ) → is_some (change_at log h name e) ≡ true → (host_of log e ≡ h) × (is_some (option_and_then (λ r. effect_of name r.act) (slice_get log.rows e)) ≡ true)
  change-parts h name e is = go (host_of log e == h) refl (option_and_then (λ r. effect_of name r.act) (slice_get log.rows e)) refl is
    where
      same : host_of log e == h ≡ true → host_of log e ≡ h
      same own = grind (arith, nat_tests)

      go : (own : Bool) → host_of log e == h ≡ own → (o : Option Bool) → option_and_then (λ r. effect_of name r.act) (slice_get log.rows e) ≡ o
          → is_some (let c : Option Change = (if own then option_map (λ sets. record { row = e; sets = sets }) o else None) in c) ≡ true
          → (host_of log e ≡ h) × (is_some (option_and_then (λ r. effect_of name r.act) (slice_get log.rows e)) ≡ true)
      go true own (Some sets) at is = (same own, rw at refl)
      go true own None at is = absurd (cc)
      go false own o at is = absurd (cc)

  -- a row that tells of a proposition is of its host, and has its name
  told-parts : (h : ℕ) (name : List ℕ) (e : ℕ) → tells h name e ≡ true → (host_of log e ≡ h) × (option_map_or (λ r. name_in r.act) (slice_get log.rows e) [] ≡ name)
  told-parts h name e is = elim (or_cases (is_some (change_at log h name e)) (is_pulse_at log h name e) is) [
    | inl changes ↦
        let (own, effect) = change-parts h name e changes in
        (own, changed-name name (slice_get log.rows e) effect)
    | inr pulses ↦
        let both = and_parts (host_of log e == h) (option_map_or (λ r. is_pulse_of name r.act) (slice_get log.rows e) false) pulses in
        (eqb-true (host_of log e) h both.0, pulsed-name name (slice_get log.rows e) both.1)
  ]

  never-both : (h : ℕ) (name : List ℕ) (e : ℕ) → is_some (change_at log h name e) ≡ true → is_pulse_at log h name e ≡ false
  never-both h name e is = alone (host_of log e == h) _ (changed-alone name (slice_get log.rows e) (change-parts h name e is).1)
    where
      alone : (own pulses : Bool) → pulses ≡ false → own && pulses ≡ false
      alone true pulses fails = fails
      alone false pulses fails = refl

  told-only : (e : ℕ) (f : Form) → tells_of e f ≡ true → f ≡ told_by e
  told-only e True is = absurd (cc)
  told-only e False is = absurd (cc)
  told-only e (Prop host name) is = go (host_named log host) refl is
    where
      go : (o : Option ℕ) → host_named log host ≡ o → option_map_or (λ h. tells h name e) o false ≡ true → Prop host name ≡ told_by e
      go None at is = absurd (cc)
      go (Some h) at is =
          let (own, named) = told-parts h name e is in
          rw (own, host-name host log.hosts h at, named) refl
  told-only e (Not f) is = absurd (cc)
  told-only e (And f g) is = absurd (cc)
  told-only e (Or f g) is = absurd (cc)
  told-only e (Implies f g) is = absurd (cc)
  told-only e (Until I f g) is = absurd (cc)
  told-only e (Since I f g) is = absurd (cc)
  told-only e (Eventually I f) is = absurd (cc)
  told-only e (Always I f) is = absurd (cc)
  told-only e (Once I f) is = absurd (cc)
  told-only e (Historically I f) is = absurd (cc)

  module _ (trees : List Form) where
    -- how many changes a tree has, how many pulses, and both
    abbrev pub changes_of_tree : Form → ℕ
    changes_of_tree f = option_map_or (λ changes. length changes) (changes_in (shape_of log trees f)) 0

    abbrev pub pulses_of_tree : Form → ℕ
    pulses_of_tree f = option_map_or (λ pulses. length pulses) (pulses_in (shape_of log trees f)) 0

    abbrev pub rows_of_tree : Form → ℕ
    rows_of_tree f = changes_of_tree f + pulses_of_tree f

    tree-counted : (f : Form) → rows_of_tree f ≤ count_by (λ e. tells_of e f) (range_with_len 0 (length log.rows))
    tree-counted True = omega arith
    tree-counted False = omega arith
    tree-counted (Prop host name) = go (host_named log host)
      where
        go : (o : Option ℕ)
            → length (option_map_or (λ h. changes_of log h name) o []) + length (option_map_or (λ h. pulses_of log h name) o []) ≤ count_by
            (λ e. option_map_or (λ h. tells h name e) o false) (range_with_len 0 (length log.rows))
        go None = omega arith
        go (Some h) =
            let counted = either-counted (change_at log h name) (is_pulse_at log h name) (never-both h name) (range_with_len 0 (length log.rows)) in
            let passing = length-filter (is_pulse_at log h name) (range_with_len 0 (length log.rows)) in
            omega (arith, counted, passing)
    tree-counted (Not f) = omega arith
    tree-counted (And f g) = omega arith
    tree-counted (Or f g) = omega arith
    tree-counted (Implies f g) = omega arith
    tree-counted (Until I f g) = omega arith
    tree-counted (Since I f g) = omega arith
    tree-counted (Eventually I f) = omega arith
    tree-counted (Always I f) = omega arith
    tree-counted (Once I f) = omega arith
    tree-counted (Historically I f) = omega arith

    -- a tree has at most one of them for each row
    pub tree-few : (f : Form) → rows_of_tree f ≤ length log.rows
    tree-few f =
        let all = count_by-le-length (λ e. tells_of e f) (range_with_len 0 (length log.rows)) in
        omega (arith, tree-counted f, all, length-range_with_len 0 (length log.rows))

    module _ (once : (j k : ℕ) → j < length trees → k < length trees → tree_at trees j ≡ tree_at trees k → j ≡ k) where
      -- the rows of a range, each counted for each tree of which it tells
      counted : (a n : ℕ) → sum_by (λ f. count_by (λ e. tells_of e f) (range_with_len a n)) trees ≤ n
      counted a zero = let none = sum_by-le (λ (f : Form). 0) 0 trees (λ k d low. omega arith) in omega (arith, none)
      counted a (suc n) =
          let ih = counted (a + 1) n in
          let one = count-one (tells_of a) True (told_by a) trees once (told-only a) in
          let next = sum_by-le-sum_by (λ f. count_by (λ e. tells_of e f) (range_with_len a (suc n))) (λ f. cond (tells_of a f) 1 0 + count_by (λ e. tells_of e f) (range_with_len (a + 1) n)) trees
          (λ f. let sum = sum_by-cons (λ e. cond (tells_of e f) 1 0) a (range_with_len (a + 1) n) in omega (arith, sum)) in
          let both = sum-both (λ f. cond (tells_of a f) 1 0) (λ f. count_by (λ e. tells_of e f) (range_with_len (a + 1) n)) trees in
          omega (arith, ih, one, next, both)

      -- all trees together have at most one for each row
      pub rows-few : sum_by rows_of_tree trees ≤ length log.rows
      rows-few =
          let all = sum_by-le-sum_by rows_of_tree (λ f. count_by (λ e. tells_of e f) (range_with_len 0 (length log.rows))) trees tree-counted in
          let few = counted 0 (length log.rows) in
          omega (arith, all, few)

      pub pulses-few : sum_by pulses_of_tree trees ≤ length log.rows
      pulses-few =
          let less = sum_by-le-sum_by pulses_of_tree rows_of_tree trees (λ f. omega arith) in
          omega (arith, less, rows-few)
