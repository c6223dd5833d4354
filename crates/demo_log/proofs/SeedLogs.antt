-- That each seed has a valid log.
use Rattle.std.proofs.Common.{◌≡◌, ◌∙◌, sym, ap, refl, ℕ, zero, suc, ◌+◌, ◌*◌, ◌/◌, ◌%◌, ◌-◌, ◌<◌, ◌==◌, ◌&&◌, ◌||◌, Bool, true, false, List, [], ◌∷◌, ◌++◌, map, length, Some, None, pos, arith}
use Rattle.std.specs.Prelude.{All, AllPairs, Any, IfSome, codes, nat_le, if◌then◌else◌}
use Rattle.std.specs.Fmt.{decimal}
use Rattle.std.specs.List.{list_all, range_with_len}
use Rattle.std.proofs.lemmas.Bool.{and_from, le-leb, or_left, or_right}
use Rattle.std.proofs.lemmas.Fmt.{decimal_digit, decimal_injective}
use Rattle.std.proofs.lemmas.Int.{ints}
use Rattle.std.proofs.lemmas.List.{append_cancel_left}
use Rattle.std.proofs.lemmas.List.FromFn.{get_or-map-range_with_len, length-map-range_with_len, map-range_with_len_more}
use Rattle.mt_model.specs.declared.limits.TheConstants.{MAX_LOCAL}
use Rattle.mt_model.specs.declared.log.Act.TheVariants.{Set, Clear}
use Rattle.mt_model.specs.declared.log.Host.{Host}
use Rattle.mt_model.specs.declared.log.Row.{Row}
use Rattle.mt_model.specs.Log.{AreRows, IsHost, IsRow, IsSent, IsWithin, SendSame, name_in, plain_log, received_by, sent_by}
use Rattle.mt_model.specs.Name.{is_digit, is_letter, is_name, is_name_byte}
use Rattle.demo_log.specs.DemoLog.{SeedsHaveLogs, demo_act, demo_host, demo_row, draw_for, log_of_seed, numbered}
use Rattle.mt_model.proofs.BoundLists.{IfSome-where}

-- what holds of a list that is made from places
module _ {X : Type 0} (f : ℕ → X) (n : ℕ) where
  made-each : (P : X → Type 0) → ((i : ℕ) → i < n → P (f i)) → All P (map f (range_with_len 0 n))
  made-each P each i d within =
      let below : i < n = rw (length-map-range_with_len f 0 n) at within in
      let is = get_or-map-range_with_len f 0 n i i d below (omega arith) in
      rw is (each i below)

  made-pairs : (R : X → X → Type 0) → ((i j : ℕ) → i < j → j < n → R (f i) (f j)) → AllPairs R (map f (range_with_len 0 n))
  made-pairs R each i j d order within =
      let below : j < n = rw (length-map-range_with_len f 0 n) at within in
      let first = get_or-map-range_with_len f 0 n i i d (omega arith) (omega arith) in
      let second = get_or-map-range_with_len f 0 n j j d below (omega arith) in
      rw (first, second) (each i j order below)

  made-some : (P : X → Type 0) (i : ℕ) → i < n → P (f i) → Any P (map f (range_with_len 0 n))
  made-some P i below holds =
      let within : i < length (map f (range_with_len 0 n)) = rw (length-map-range_with_len f 0 n) below in
      (i, f i, within, get_or-map-range_with_len f 0 n i i (f i) below (omega arith), holds)

  -- one more place
  pub made-more : (xs more : List X) (x : X) → xs ≡ map f (range_with_len 0 n) → x ≡ f n → more ≡ xs ++ x ∷ [] → more ≡ map f (range_with_len 0 (n + 1))
  made-more xs more x made is pushed = rw (pushed, made, is) (sym (map-range_with_len_more f 0 n n (omega arith)))

digit-byte : (n : ℕ) → n < 10 → is_name_byte (48 + n) ≡ true
digit-byte n small =
    or_left (is_letter (48 + n) || is_digit (48 + n)) ((48 + n) == 95)
    (or_right (is_letter (48 + n)) (is_digit (48 + n)) (and_from (nat_le 48 (48 + n)) (nat_le (48 + n) 57) (le-leb 48 (48 + n) (omega arith)) (le-leb (48 + n) 57 (omega arith))))

-- a letter and a digit are a name
pub numbered-name : (letter n : ℕ) → is_letter letter ≡ true → n < 10 → is_name (numbered (letter ∷ []) n) ≡ true
numbered-name letter n first small =
    let rest : list_all is_name_byte ((48 + n) ∷ []) ≡ true = and_from (is_name_byte (48 + n)) true (digit-byte n small) refl in
    let bytes : is_name (letter ∷ (48 + n) ∷ []) ≡ true =
    and_from (is_letter letter && list_all is_name_byte ((48 + n) ∷ [])) true (and_from (is_letter letter) (list_all is_name_byte ((48 + n) ∷ [])) first rest) refl in
    ap (λ digits. is_name (letter ∷ digits)) (decimal_digit n small) ∙ bytes

-- the number is told by the name
pub numbered-one : (letter m n : ℕ) → m < 10 → n < 10 → numbered (letter ∷ []) m ≡ numbered (letter ∷ []) n → m ≡ n
numbered-one letter m n is_m is_n same = decimal_injective m n (omega arith) (omega arith) (append_cancel_left (letter ∷ []) (decimal m) (decimal n) same)

-- what is set or cleared is neither sent nor received
chosen-name : (b : Bool) (name : List ℕ) → name_in (if b then Set name else Clear name) ≡ name
chosen-name true name = refl
chosen-name false name = refl

chosen-sends : (b : Bool) (name : List ℕ) → sent_by (if b then Set name else Clear name) ≡ None
chosen-sends true name = refl
chosen-sends false name = refl

chosen-receives : (b : Bool) (name : List ℕ) → received_by (if b then Set name else Clear name) ≡ None
chosen-receives true name = refl
chosen-receives false name = refl

named-act : (host n : ℕ) → host < 6 → n < 4 → is_name (name_in (demo_act host n)) ≡ true
named-act zero n is_host round = ap is_name (chosen-name (n % 2 == 0) (codes "p"))
named-act (suc zero) n is_host round = ap is_name (chosen-name (n % 2 == 0) (codes "q"))
named-act (suc (suc zero)) n is_host round = numbered-name 109 n refl (omega arith)
named-act (suc (suc (suc zero))) n is_host round = numbered-name 109 n refl (omega arith)
named-act (suc (suc (suc (suc zero)))) n is_host round = refl
named-act (suc (suc (suc (suc (suc zero))))) n is_host round = ap is_name (chosen-name (n % 2 == 0) (codes "r"))
named-act (suc (suc (suc (suc (suc (suc host)))))) n is_host round = absurd (omega arith)

-- `h2` alone sends, the message of the round
pub sent-act : (host n : ℕ) (m : List ℕ) → host < 6 → sent_by (demo_act host n) ≡ Some m → (host ≡ 2) × (m ≡ numbered (codes "m") n)
sent-act zero n m is_host is = let none = chosen-sends (n % 2 == 0) (codes "p") in absurd (cc)
sent-act (suc zero) n m is_host is = let none = chosen-sends (n % 2 == 0) (codes "q") in absurd (cc)
sent-act (suc (suc zero)) n m is_host is = (refl, cc)
sent-act (suc (suc (suc zero))) n m is_host is = absurd (cc)
sent-act (suc (suc (suc (suc zero)))) n m is_host is = absurd (cc)
sent-act (suc (suc (suc (suc (suc zero))))) n m is_host is = let none = chosen-sends (n % 2 == 0) (codes "r") in absurd (cc)
sent-act (suc (suc (suc (suc (suc (suc host)))))) n m is_host is = absurd (omega arith)

-- `h3` alone receives, the message of the round
pub received-act : (host n : ℕ) (m : List ℕ) → host < 6 → received_by (demo_act host n) ≡ Some m → (host ≡ 3) × (m ≡ numbered (codes "m") n)
received-act zero n m is_host is = let none = chosen-receives (n % 2 == 0) (codes "p") in absurd (cc)
received-act (suc zero) n m is_host is = let none = chosen-receives (n % 2 == 0) (codes "q") in absurd (cc)
received-act (suc (suc zero)) n m is_host is = absurd (cc)
received-act (suc (suc (suc zero))) n m is_host is = (refl, cc)
received-act (suc (suc (suc (suc zero)))) n m is_host is = absurd (cc)
received-act (suc (suc (suc (suc (suc zero))))) n m is_host is = let none = chosen-receives (n % 2 == 0) (codes "r") in absurd (cc)
received-act (suc (suc (suc (suc (suc (suc host)))))) n m is_host is = absurd (omega arith)

within-local : (x : ℕ) → x < 1000 → IsWithin MAX_LOCAL (pos x)
within-local x small = record { low = omega (arith, ints); high = omega (arith, ints) }

host-valid : (k : ℕ) → k < 6 → IsHost (demo_host k)
host-valid k small = record {
  called = numbered-name 104 k refl (omega arith);
  name = refl;
  skew_low = omega (arith, ints);
  skew_high = omega (arith, ints);
  gap_low = omega (arith, ints);
  gap_high = omega (arith, ints);
  delays = record { least_low = omega arith; least_high = omega arith; most_low = tt; most_high = tt };
}

module _ (seed : ℕ) where
  row-valid : (r : ℕ) → r < 24 → IsRow 6 (demo_row seed r)
  row-valid r small =
      let draw : draw_for seed r < 5 = omega arith in
      record { host = omega arith; local = within-local (10 * r + draw_for seed r) (omega (arith, draw)); named = named-act (r % 6) (r / 6) (omega arith) (omega arith) }

  sent-once : (i j : ℕ) → i < j → j < 24 → SendSame (demo_row seed i) (demo_row seed j) → ⊥
  sent-once i j order small same =
      let (first, message) = sent-act (i % 6) (i / 6) same.message (omega arith) same.first in
      let (second, again) = sent-act (j % 6) (j / 6) same.message (omega arith) same.second in
      let rounds = numbered-one 109 (i / 6) (j / 6) (omega arith) (omega arith) (sym message ∙ again) in
      omega (arith, first, second, rounds)

  -- what is received was sent by the row before
  sent-before : (r : ℕ) → r < 24 → (m : List ℕ) → received_by (demo_act (r % 6) (r / 6)) ≡ Some m → IsSent (map (demo_row seed) (range_with_len 0 24)) m
  sent-before r small m is =
      let (third, message) = received-act (r % 6) (r / 6) m (omega arith) is in
      let host : (r - 1) % 6 ≡ 2 = omega (arith, third) in
      let round : (r - 1) / 6 ≡ r / 6 = omega (arith, third, host) in
      made-some (demo_row seed) 24 (λ q. sent_by q.act ≡ Some m) (r - 1) (omega (arith, third))
      (ap (λ h. sent_by (demo_act h ((r - 1) / 6))) host ∙ ap (λ n. Some (numbered (codes "m") n)) round ∙ ap Some (sym message))

  rows-valid : AreRows 6 (map (demo_row seed) (range_with_len 0 24))
  rows-valid = record {
    each = made-each (demo_row seed) 24 (IsRow 6) row-valid;
    sent_once = made-pairs (demo_row seed) 24 (λ q r. SendSame q r → ⊥) sent-once;
    sent =
        made-each (demo_row seed) 24 (λ r. IfSome (received_by r.act) (IsSent (map (demo_row seed) (range_with_len 0 24))))
        (λ r small. IfSome-where (received_by (demo_act (r % 6) (r / 6))) (IsSent (map (demo_row seed) (range_with_len 0 24))) (sent-before r small));
  }

pub seeds-have-logs : SeedsHaveLogs
seeds-have-logs seed = record {
  some_hosts = omega arith;
  few_hosts = omega arith;
  some_rows = omega arith;
  few_rows = omega arith;
  few_extras = omega arith;
  names = made-pairs demo_host 6 (λ g h. h.name ≡ g.name → ⊥) (λ i j order small same. omega (arith, numbered-one 104 j i (omega arith) (omega arith) same));
  hosts = made-each demo_host 6 IsHost host-valid;
  rows = rows-valid seed;
  resyncs = record { each = λ k d within. absurd (omega (arith, within)); in_order = λ i j d order within. absurd (omega (arith, within)) };
  clocks = record { few = omega arith; named = λ k d within. absurd (omega (arith, within)); apart = λ i j d order within. absurd (omega (arith, within)) };
  readings = record {
    each = λ k d within. absurd (omega (arith, within));
    in_order = λ i j d order within. absurd (omega (arith, within));
    in_turn = λ i k d within less. absurd (omega (arith, within));
    read = λ k within. absurd (omega (arith, within));
  };
  extras = λ k d within. absurd (omega (arith, within));
}

pub built-log : (seed : ℕ) (hosts : List Host) (rows : List Row) → hosts ≡ map demo_host (range_with_len 0 6) → rows ≡ map (demo_row seed) (range_with_len 0 24)
    → plain_log hosts rows ≡ log_of_seed seed
built-log seed hosts rows same_hosts same_rows = rw (same_hosts, same_rows) refl
