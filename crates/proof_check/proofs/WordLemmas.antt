-- What is read one item after another from the words of a line.
use Rattle.std.proofs.Common.{◌≡◌, ◌∙◌, sym, ap, refl, subst, ℕ, ◌+◌, ◌<◌, ◌≤◌, ◌^◌, List, [], ◌∷◌, ◌++◌, length, length-append, get_or, take, drop, append-nil, Option, arith}
use Rattle.std.specs.Fmt.{decimal}
use Rattle.std.specs.List.{filter_map, flat_map}
use Rattle.std.proofs.lemmas.List.{append_assoc, drop_all, drop_more, take_all, take_more}
use Rattle.std.proofs.lemmas.List.Elements.{All-get_or, filter_map-append}
use Rattle.mt_model.specs.declared.step.Step.{Step}
use Rattle.mt_model.specs.Walks.{Edge}
use Rattle.axiom_rules.specs.declared.literal.Literal.{Literal}
use Rattle.proof_log.specs.Derivations.{negated_step}
use Rattle.proof_log.specs.LinesText.{Word, literal_words, step_words}
use Rattle.proof_log.specs.Spelled.{IsSpelledCycle, IsSpelledLiteral, IsSpelledStep}
use Rattle.proof_check.specs.declared.cycle_walk.CycleWalk.{CycleWalk}
use Rattle.proof_check.specs.Judging.{AreSpelledLiterals}
use Rattle.proof_check.specs.Keeping.{Kept, with_pending}
use Rattle.proof_check.specs.Walking.{HasCome, HasRoom}

module _ {X : Type 0} (item_words : X → List Word) where
  -- the words of the items from place i on begin with those of item i
  pub words_next : (items : List X) (i : ℕ) (d : X) (after : List Word) → i < length items
      → flat_map item_words (drop i items) ++ after ≡ item_words (get_or items i d) ++ (flat_map item_words (drop (i + 1) items) ++ after)
  words_next items i d after low = ap (λ xs. flat_map item_words xs ++ after) (drop_more items i d low) ∙ append_assoc (item_words (get_or items i d)) (flat_map item_words (drop (i + 1) items)) after

  -- no word follows the last item
  pub words_past : (items : List X) (i : ℕ) (after : List Word) → length items ≤ i → flat_map item_words (drop i items) ++ after ≡ after
  words_past items i after past = ap (λ xs. flat_map item_words xs ++ after) (drop_all i items past)

-- literals are pending after those that were
pub pending_none : (old : Kept) → old ≡ with_pending old []
pending_none old = ap (λ ls. let k : Kept = record { closed = old.closed; pending = ls } in k) (sym (append-nil old.pending))

pending_both : (old : Kept) (front more : List Literal) → with_pending (with_pending old front) more ≡ with_pending old (front ++ more)
pending_both old front more = ap (λ ls. let k : Kept = record { closed = old.closed; pending = ls } in k) (append_assoc old.pending front more)

-- of these literals the first i were read, and are pending
pub record AreReadLits (old : Kept) (count i : ℕ) (rest : List Word) (kept : Kept) (lits : List Literal) (after : List Word) : Type 0 where
  pub all : count ≡ length lits
  pub words : rest ≡ flat_map literal_words (drop i lits) ++ after
  pub grown : kept ≡ with_pending old (take i lits)

-- i literals were read and are pending, and if the words are those of literals, they are these
pub record LitsRead (old : Kept) (words : List Word) (count i : ℕ) (rest : List Word) (kept : Kept) : Type 0 where
  pub closed : kept.closed ≡ old.closed
  pub few : length kept.pending ≡ length old.pending + i
  pub each : (lits : List Literal) (after : List Word) → AreSpelledLiterals lits → words ≡ decimal (length lits) ∷ (flat_map literal_words lits ++ after) → AreReadLits old count i rest kept lits after

pub no_lits_read : (old : Kept) (words : List Word) (count : ℕ) (rest : List Word)
    → ((n : ℕ) (after : List Word) → n < 2 ^ 32 → words ≡ decimal n ∷ after → (count ≡ n) × (rest ≡ after)) → LitsRead old words count 0 rest old
no_lits_read old words count rest counted = record {
  closed = refl;
  few = omega arith;
  each = λ lits after spelled is.
      let first = counted (length lits) (flat_map literal_words lits ++ after) spelled.count is in
      record { all = first.0; words = first.1; grown = pending_none old };
}

module _ (old : Kept) (words : List Word) (count i : ℕ) (rest : List Word) (kept : Kept) (low : i < count) (before : LitsRead old words count i rest kept) where
  lits_step : (lits : List Literal) (after : List Word) → AreSpelledLiterals lits → words ≡ decimal (length lits) ∷ (flat_map literal_words lits ++ after) → (d : Literal)
      → (i < length lits) × IsSpelledLiteral (get_or lits i d) × (rest ≡ literal_words (get_or lits i d) ++ (flat_map literal_words (drop (i + 1) lits) ++ after))
  lits_step lits after spelled is d =
      let read = before.each lits after spelled is in
      let below : i < length lits = omega (arith, low, read.all) in
      (below, All-get_or IsSpelledLiteral lits i d below spelled.each, read.words ∙ words_next literal_words lits i d after below)

  -- a literal more
  pub lits_more : (l : Literal) (later : List Word)
      → ((m : Literal) (after : List Word) → IsSpelledLiteral m → rest ≡ literal_words m ++ after → (l ≡ m) × (later ≡ after)) → (more : Kept)
      → more ≡ with_pending kept (l ∷ [])
      → LitsRead old words count (i + 1) later more
  lits_more l later read more grown = record {
    closed = ap (λ (k : Kept). k.closed) grown ∙ before.closed;
    few = omega (arith, ap (λ (k : Kept). length k.pending) grown, length-append kept.pending (l ∷ []), before.few);
    each = λ lits after spelled is.
        let step = lits_step lits after spelled is l in
        let found = read (get_or lits i l) (flat_map literal_words (drop (i + 1) lits) ++ after) step.1 step.2 in
        let so_far = before.each lits after spelled is in
        record {
          all = so_far.all;
          words = found.1;
          grown =
              grown ∙ ap (λ (k : Kept). with_pending k (l ∷ [])) so_far.grown ∙ pending_both old (take i lits) (l ∷ [])
              ∙ ap (with_pending old) (ap (λ m. take i lits ++ m ∷ []) found.0 ∙ sym (take_more lits i l step.0));
        };
  }

  -- there is one more
  pub lits_none : ((m : Literal) (after : List Word) → IsSpelledLiteral m → rest ≡ literal_words m ++ after → ⊥)
      → (lits : List Literal) (after : List Word) → AreSpelledLiterals lits → words ≡ decimal (length lits) ∷ (flat_map literal_words lits ++ after) → Literal → ⊥
  lits_none none lits after spelled is d = let step = lits_step lits after spelled is d in none (get_or lits i d) (flat_map literal_words (drop (i + 1) lits) ++ after) step.1 step.2

pub lits_read : (old : Kept) (words : List Word) (count i : ℕ) (rest : List Word) (kept : Kept) → count ≤ i → LitsRead old words count i rest kept
    → (lits : List Literal) (after : List Word) → AreSpelledLiterals lits → words ≡ decimal (length lits) ∷ (flat_map literal_words lits ++ after) → (rest ≡ after) × (kept ≡ with_pending old lits)
lits_read old words count i rest kept past read lits after spelled is =
    let so_far = read.each lits after spelled is in
    (so_far.words ∙ words_past literal_words lits i after (omega (arith, past, so_far.all)), so_far.grown ∙ ap (with_pending old) (take_all i lits (omega (arith, past, so_far.all))))

-- of these steps the first i were read: the walk is theirs, and the negations of order steps are pending
pub record AreReadSteps (edge : Step → Option Edge) (old : Kept) (count i : ℕ) (rest : List Word) (walk : CycleWalk) (kept : Kept) (steps : List Step) : Type 0 where
  pub all : count ≡ length steps
  pub words : rest ≡ flat_map step_words (drop i steps)
  pub come : HasCome edge (take i steps) walk
  pub grown : kept ≡ with_pending old (filter_map negated_step (take i steps))

-- i steps were read, and if the words are those of steps, they are these
pub record StepsRead (edge : Step → Option Edge) (old : Kept) (words : List Word) (count i : ℕ) (rest : List Word) (walk : CycleWalk) (kept : Kept) : Type 0 where
  pub closed : kept.closed ≡ old.closed
  pub few : length kept.pending ≤ length old.pending + i
  pub counted : walk.count ≡ i
  pub room : HasRoom walk
  pub each : (steps : List Step) → IsSpelledCycle steps → length steps ≡ count → words ≡ flat_map step_words steps → AreReadSteps edge old count i rest walk kept steps

pub no_steps_read : (edge : Step → Option Edge) (old : Kept) (words : List Word) (count : ℕ) (walk : CycleWalk) → walk.count ≡ 0 → HasRoom walk
    → HasCome edge [] walk → StepsRead edge old words count 0 words walk old
no_steps_read edge old words count walk none room come = record {
  closed = refl;
  few = omega arith;
  counted = none;
  room = room;
  each = λ steps spelled all is. record { all = sym all; words = is; come = come; grown = pending_none old };
}

module _ (edge : Step → Option Edge) (old : Kept) (words : List Word) (count i : ℕ) (rest : List Word) (walk : CycleWalk) (kept : Kept) (low : i < count)
    (before : StepsRead edge old words count i rest walk kept) where
  step_there : (steps : List Step) → IsSpelledCycle steps → length steps ≡ count → words ≡ flat_map step_words steps → (d : Step)
      → (i < length steps) × IsSpelledStep (get_or steps i d) × (rest ≡ step_words (get_or steps i d) ++ flat_map step_words (drop (i + 1) steps))
  step_there steps spelled all is d =
      let below : i < length steps = omega (arith, low, all) in
      (below, All-get_or IsSpelledStep steps i d below spelled.each, (before.each steps spelled all is).words ∙ ap (flat_map step_words) (drop_more steps i d below))

  -- a step more: its negation is pending, where it has one
  pub steps_more : (s : Step) (later : List Word) → ((t : Step) (after : List Word) → IsSpelledStep t → rest ≡ step_words t ++ after → (s ≡ t) × (later ≡ after))
      → (further : CycleWalk) → further.count ≡ walk.count + 1 → HasRoom further → ((steps : List Step) → HasCome edge steps walk → HasCome edge (steps ++ s ∷ []) further)
      → (more : Kept) → more.closed ≡ kept.closed → length more.pending ≤ length kept.pending + 1 → (IsSpelledStep s → more ≡ with_pending kept (filter_map negated_step (s ∷ [])))
      → StepsRead edge old words count (i + 1) later further more
  steps_more s later read further next room goes more closed few grown = record {
    closed = closed ∙ before.closed;
    few = omega (arith, before.few, few);
    counted = omega (arith, next, before.counted);
    room = room;
    each = λ steps spelled all is.
        let there = step_there steps spelled all is s in
        let found = read (get_or steps i s) (flat_map step_words (drop (i + 1) steps)) there.1 there.2 in
        let so_far = before.each steps spelled all is in
        let one : take (i + 1) steps ≡ take i steps ++ s ∷ [] = take_more steps i s there.0 ∙ ap (λ t. take i steps ++ t ∷ []) (sym found.0) in
        record {
          all = so_far.all;
          words = found.1;
          come = subst (λ ss. HasCome edge ss further) (sym one) (goes (take i steps) so_far.come);
          grown =
              grown (subst IsSpelledStep (sym found.0) there.1) ∙ ap (λ (k : Kept). with_pending k (filter_map negated_step (s ∷ []))) so_far.grown
              ∙ pending_both old (filter_map negated_step (take i steps)) (filter_map negated_step (s ∷ []))
              ∙ ap (with_pending old) (sym (filter_map-append negated_step (take i steps) (s ∷ [])) ∙ ap (filter_map negated_step) (sym one));
        };
  }

  pub steps_none : ((t : Step) (after : List Word) → IsSpelledStep t → rest ≡ step_words t ++ after → ⊥) → (steps : List Step) → IsSpelledCycle steps
      → length steps ≡ count → words ≡ flat_map step_words steps → Step → ⊥
  steps_none none steps spelled all is d = let there = step_there steps spelled all is d in none (get_or steps i d) (flat_map step_words (drop (i + 1) steps)) there.1 there.2

pub steps_read : (edge : Step → Option Edge) (old : Kept) (words : List Word) (count i : ℕ) (rest : List Word) (walk : CycleWalk) (kept : Kept) → count ≤ i
    → StepsRead edge old words count i rest walk kept
    → (steps : List Step) → IsSpelledCycle steps → length steps ≡ count → words ≡ flat_map step_words steps → HasCome edge steps walk × (kept ≡ with_pending old (filter_map negated_step steps))
steps_read edge old words count i rest walk kept past read steps spelled all is =
    let so_far = read.each steps spelled all is in
    let whole : take i steps ≡ steps = take_all i steps (omega (arith, past, all)) in
    (subst (λ ss. HasCome edge ss walk) whole so_far.come, so_far.grown ∙ ap (λ ss. with_pending old (filter_map negated_step ss)) whole)
