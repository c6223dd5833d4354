-- The records of entries, one more entry at a time.
use Rattle.std.proofs.Common.{◌≡◌, ◌∙◌, sym, ap, refl, inl, inr, ℕ, ◌+◌, ◌<◌, ◌≤◌, List, [], ◌∷◌, ◌++◌, append_assoc, length, get_or, drop, drop-cons, add-one, Option, Some, None, option_map}
use Rattle.std.specs.Prelude.{option_and_then}
use Rattle.std.proofs.lemmas.List.{append-nil, drop_all}
use Rattle.serde_json.specs.Data.{Data}
use Rattle.serde_json.specs.View.{items_view, view}
use Rattle.serde_json.specs.declared.value.Value.{Value}
use Rattle.log_read.specs.Records.{Record}
use Rattle.json_log.specs.declared.fault.JsonFault.{JsonFault}
use Rattle.json_log.specs.Extends.{Stops}
use Rattle.json_log.specs.JsonLogOf.{records_in}

-- what isn't due for a part isn't due for the whole
pub stops-whole : {X Y : Type 0} (part : Option X) (whole : Option Y) (f : JsonFault) → (part ≡ None → whole ≡ None) → Stops part f → Stops whole f
stops-whole part whole f none (inl memory) = inl memory
stops-whole part whole f none (inr (shape, not)) = inr (shape, none not)

ahead-nil : (o : Option (List Record)) → o ≡ option_map (λ more. [] ++ more) o
ahead-nil None = refl
ahead-nil (Some rs) = refl

ahead-twice : (a b : List Record) (o : Option (List Record)) → option_map (λ more. a ++ more) (option_map (λ more. b ++ more) o) ≡ option_map (λ more. (a ++ b) ++ more) o
ahead-twice a b None = refl
ahead-twice a b (Some rs) = ap Some (sym (append_assoc a b rs))

module _ (of : Data → Option (List Record)) (items : List Value) where
  -- the records of the entries before a place were added
  pub record IsAddedUpTo (i : ℕ) (old now : List Record) : Type 0 where
    pub done : List Record
    pub due : records_in of (items_view items) ≡ option_map (λ more. done ++ more) (records_in of (items_view (drop i items)))
    pub added : now ≡ old ++ done

  pub nothing-added : (old : List Record) → IsAddedUpTo 0 old old
  nothing-added old = record { done = []; due = ahead-nil (records_in of (items_view items)); added = sym (append-nil old) }

  at-place : (i : ℕ) (v : Value) → i < length items → v ≡ get_or items i v → drop i items ≡ v ∷ drop (i + 1) items
  at-place i v within is = rw (add-one, drop-cons items i v within, ← is) refl

  module _ (i : ℕ) (v : Value) (within : i < length items) (is : v ≡ get_or items i v) (old now : List Record) (before : IsAddedUpTo i old now) where
    abbrev rest : Option (List Record)
    rest = records_in of (items_view (drop (i + 1) items))

    split : records_in of (items_view items) ≡ option_map (λ more. before.done ++ more) (option_and_then (λ rs. option_map (λ more. rs ++ more) rest) (of (view v)))
    split = before.due ∙ ap (λ vs. option_map (λ more. before.done ++ more) (records_in of (items_view vs))) (at-place i v within is)

    pub one-more : (rs next : List Record) → of (view v) ≡ Some rs → next ≡ now ++ rs → IsAddedUpTo (i + 1) old next
    one-more rs next found is_next = record {
      done = before.done ++ rs;
      due = split ∙ ap (λ o. option_map (λ more. before.done ++ more) (option_and_then (λ (r : List Record). option_map (λ more. r ++ more) rest) o)) found ∙ ahead-twice before.done rs rest;
      added = is_next ∙ ap (λ l. l ++ rs) before.added ∙ append_assoc old before.done rs;
    }

    pub none-left : of (view v) ≡ None → records_in of (items_view items) ≡ None
    none-left none = split ∙ ap (λ o. option_map (λ more. before.done ++ more) (option_and_then (λ (r : List Record). option_map (λ more. r ++ more) rest) o)) none

  pub all-added : (i : ℕ) (old now : List Record) → length items ≤ i → IsAddedUpTo i old now → (rs : List Record) × (records_in of (items_view items) ≡ Some rs) × (now ≡ old ++ rs)
  all-added i old now over up =
      (up.done, up.due ∙ ap (λ vs. option_map (λ more. up.done ++ more) (records_in of (items_view vs))) (drop_all i items over) ∙ ap Some (append-nil up.done), up.added)
