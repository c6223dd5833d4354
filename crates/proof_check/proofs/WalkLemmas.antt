-- Walks that go on, and walks that stop.
use Rattle.std.proofs.Common.{◌≡◌, ◌∙◌, sym, ap, refl, subst, ℕ, zero, suc, ◌+◌, ◌-◌, ◌*◌, ◌^◌, ◌<◌, ◌≤◌, List, [], ◌∷◌, ◌++◌, length, take, map, Option, Some, None, ◌↔◌, Bool, true, false, IsTrue, ℤ, pos, ◌+ℤ◌, ◌<ℤ◌, arith, length-append}
use Rattle.std.specs.Prelude.{◌≢◌, IfSome, option_map, All}
use Rattle.std.proofs.lemmas.Int.{ints}
use Rattle.std.proofs.lemmas.List.Elements.{All-nil, All-cons, All-head, All-tail}
use Rattle.std.proofs.Math.Seq.{take-length}
use Rattle.std.proofs.lemmas.List.{take-append-le, map_push}
use Rattle.mt_model.specs.declared.step.Step.{Step}
use Rattle.mt_model.specs.declared.step.Step.TheVariants.{Low, High, Rise, Message, Late, Under, Over, Extra, Order}
use Rattle.mt_model.specs.Laws.{IsBound}
use Rattle.mt_model.specs.Log.{Logged}
use Rattle.mt_model.specs.Walks.{Conflict, Edge, HasEdges, IsClosedWalk, LeadsTo, edge_of, sum_of_bounds}
use Rattle.neg_cycle.specs.declared.system.Edge.{Edge as SystemEdge}
use Rattle.skew_bounds.specs.Edges.{edge_in}
use Rattle.proof_check.specs.declared.walk.Walk.{Walk}
use Rattle.proof_check.specs.Cycles.{FollowOneAnother, IsCycle, bound_edge_of}
use Rattle.proof_check.specs.Walking.{BeginsAt, Covers, Follows, Goes, IsCyclic, IsJoined, IsNear, Stops, StopsAt, with_edge}
use Rattle.mt_list.proofs.Lists.{found_same}

leads_more : (a b : ℕ) (xs : List Edge) (x : Edge) → LeadsTo a xs b → x.from ≡ b → LeadsTo a (xs ++ x ∷ []) x.to
leads_more a b [] x leads joined = (joined ∙ sym leads, refl)
leads_more a b (y ∷ ys) x leads joined = (leads.0, leads_more y.to b ys x leads.1 joined)

leads_fewer : (a b : ℕ) (xs : List Edge) (x : Edge) → LeadsTo a (xs ++ x ∷ []) b → LeadsTo a xs x.from
leads_fewer a b [] x leads = sym leads.0
leads_fewer a b (y ∷ ys) x leads = (leads.0, leads_fewer y.to b ys x leads.1)

leads_one : (a b c : ℕ) (xs : List Edge) → LeadsTo a xs b → LeadsTo a xs c → b ≡ c
leads_one a b c [] first second = sym first ∙ second
leads_one a b c (x ∷ xs) first second = leads_one x.to b c xs first.1 second.1

sum_more : (xs : List Edge) (x : Edge) → sum_of_bounds (xs ++ x ∷ []) ≡ sum_of_bounds xs +ℤ x.bound
sum_more [] x = omega (arith, ints)
sum_more (y ∷ ys) x = let rest = sum_more ys x in omega (arith, ints, rest)

near_more : (n m : ℕ) (a b : ℤ) → IsNear (n * m) a → IsNear m b → IsNear ((n + 1) * m) (a +ℤ b)
near_more n m a b sum bound =
    let more : (n + 1) * m ≡ n * m + m = grind arith in
    rw more (record { low = omega (arith, ints, sum.low, bound.low); high = omega (arith, ints, sum.high, bound.high) })

take_front : {X : Type 0} (xs ys : List X) → take (length xs) (xs ++ ys) ≡ xs
take_front xs ys = take-append-le (length xs) xs ys (omega arith) ∙ take-length xs

near_edge : (o : Option SystemEdge) (x : Edge) → IfSome o (λ e. IsNear (2 ^ 90) e.bound) → option_map edge_in o ≡ Some x → IsNear (2 ^ 90) x.bound
near_edge None x near is = absurd (cc)
near_edge (Some e) x near is = let same : edge_in e ≡ x = cc in subst (λ (y : Edge). IsNear (2 ^ 90) y.bound) same near

module _ (edge : Step → Option Edge) where
  pub covers_none : (a : ℕ) → Covers edge [] (record { start = a; «end» = a; sum = pos 0 })
  covers_none a = record { edges = []; found = refl; leads = refl; sum = refl; near = record { low = omega (arith, ints); high = omega (arith, ints) } }

  covers_push : (steps : List Step) (s : Step) (w : Walk) (x : Edge) → Covers edge steps w → edge s ≡ Some x → x.from ≡ w.«end» → IsNear (2 ^ 90) x.bound
      → Covers edge (steps ++ s ∷ []) (with_edge w x)
  covers_push steps s w x covers is joined near = record {
    edges = covers.edges ++ x ∷ [];
    found = map_push edge steps s ∙ rw (covers.found, is) (sym (map_push Some covers.edges x));
    leads = leads_more w.start w.«end» covers.edges x covers.leads joined;
    sum = ap (λ n. n +ℤ x.bound) covers.sum ∙ sym (sum_more covers.edges x);
    near = let count : length steps + 1 ≡ length (steps ++ s ∷ []) = omega (arith, length-append steps (s ∷ [])) in
        subst (λ n. IsNear (n * 2 ^ 90) (w.sum +ℤ x.bound)) count (near_more (length steps) (2 ^ 90) w.sum x.bound covers.near near);
  }

  -- edges that follow one another lead from the node where the first one begins
  joined_leads : (steps : List Step) (edges : List Edge) (a : ℕ) → BeginsAt edge steps a → map edge steps ≡ map Some edges → FollowOneAnother edges → (b : ℕ) × LeadsTo a edges b
  joined_leads [] edges a begins found joined = absurd (cc)
  joined_leads (s ∷ ss) [] a begins found joined = absurd (cc)
  joined_leads (s ∷ ss) (x ∷ xs) a (y, is, from) found joined =
      let same : x ≡ y = let both : Some x ≡ Some y = cc in cc in
      (joined.0, (ap (λ (e : Edge). e.from) same ∙ from, joined.1))

  -- the edges of one step more
  found_last : (steps : List Step) (s : Step) (edges others : List Edge) → map edge steps ≡ map Some edges → map edge (steps ++ s ∷ []) ≡ map Some others
      → (x : Edge) × (edge s ≡ Some x) × (others ≡ edges ++ x ∷ [])
  found_last [] s [] [] found more = absurd (cc)
  found_last [] s [] (x ∷ []) found more = (x, cc, refl)
  found_last [] s [] (x ∷ y ∷ ys) found more = absurd (cc)
  found_last [] s (x ∷ xs) others found more = absurd (cc)
  found_last (r ∷ rs) s [] others found more = absurd (cc)
  found_last (r ∷ rs) s (x ∷ xs) [] found more = absurd (cc)
  found_last (r ∷ rs) s (x ∷ xs) (y ∷ ys) found more =
      let front : map edge rs ≡ map Some xs = cc in
      let back : map edge (rs ++ s ∷ []) ≡ map Some ys = cc in
      let (z, is, same) = found_last rs s xs ys front back in
      let first : y ≡ x = let both : Some y ≡ Some x = cc in cc in
      (z, is, ap (λ (e : Edge). e ∷ ys) first ∙ ap (λ es. x ∷ es) same)

  stops_push : (steps : List Step) (s : Step) (w : Walk) → Covers edge steps w → BeginsAt edge (steps ++ s ∷ []) w.start → Stops w (edge s) → IsJoined edge (steps ++ s ∷ []) → ⊥
  stops_push steps s w covers begins stops joined =
      let (x, is, same) = found_last steps s covers.edges joined.edges covers.found joined.found in
      let (b, leads) = joined_leads (steps ++ s ∷ []) joined.edges w.start begins joined.found joined.joined in
      let here = leads_fewer w.start b covers.edges x (subst (λ es. LeadsTo w.start es b) same leads) in
      subst (λ o. IfSome o (λ (e : Edge). e.from ≢ w.«end»)) is stops (leads_one w.start x.from w.«end» covers.edges here covers.leads)

  front_found : (n : ℕ) (steps : List Step) (edges : List Edge) → map edge steps ≡ map Some edges → map edge (take n steps) ≡ map Some (take n edges)
  front_found zero steps edges found = refl
  front_found (suc n) [] [] found = refl
  front_found (suc n) [] (x ∷ xs) found = absurd (cc)
  front_found (suc n) (s ∷ ss) [] found = absurd (cc)
  front_found (suc n) (s ∷ ss) (x ∷ xs) found =
      let first : edge s ≡ Some x = cc in
      let rest : map edge ss ≡ map Some xs = cc in
      let later = front_found n ss xs rest in cc

  front_leads : (n : ℕ) (a b : ℕ) (xs : List Edge) → LeadsTo a xs b → (c : ℕ) × LeadsTo a (take n xs) c
  front_leads zero a b xs leads = (a, refl)
  front_leads (suc n) a b [] leads = (b, leads)
  front_leads (suc n) a b (x ∷ xs) leads = let (c, rest) = front_leads n x.to b xs leads.1 in (c, (leads.0, rest))

  front_joined : (n : ℕ) (edges : List Edge) → FollowOneAnother edges → FollowOneAnother (take n edges)
  front_joined zero edges joined = tt
  front_joined (suc n) [] joined = tt
  front_joined (suc n) (x ∷ xs) joined = front_leads n x.to joined.0 xs joined.1

  joined_front : (n : ℕ) (steps : List Step) → IsJoined edge steps → IsJoined edge (take n steps)
  joined_front n steps joined = record {
    edges = take n joined.edges;
    found = front_found n steps joined.edges joined.found;
    joined = front_joined n joined.edges joined.joined;
  }

  closed_joined : (edges : List Edge) → IsClosedWalk edges → FollowOneAnother edges
  closed_joined [] closed = absurd closed
  closed_joined (x ∷ xs) closed = (x.from, closed)

  cyclic_joined : (steps : List Step) → IsCyclic edge steps → IsJoined edge steps
  cyclic_joined steps cyclic = record { edges = cyclic.edges; found = cyclic.found; joined = closed_joined cyclic.edges cyclic.closed }

  leads_joined : (a b : ℕ) (edges : List Edge) → LeadsTo a edges b → FollowOneAnother edges
  leads_joined a b [] leads = tt
  leads_joined a b (x ∷ xs) leads = (b, leads.1)

  covers_joined : (steps : List Step) (w : Walk) → Covers edge steps w → IsJoined edge steps
  covers_joined steps w covers = record { edges = covers.edges; found = covers.found; joined = leads_joined w.start w.«end» covers.edges covers.leads }

  closed_from : (steps : List Step) (edges : List Edge) (a b : ℕ) → 1 ≤ length steps → map edge steps ≡ map Some edges → LeadsTo a edges b → a ≡ b → IsClosedWalk edges
  closed_from [] edges a b some found leads same = absurd (omega (arith, some))
  closed_from (s ∷ ss) [] a b some found leads same = absurd (cc)
  closed_from (s ∷ ss) (x ∷ xs) a b some found leads same = subst (LeadsTo x.to xs) (sym same ∙ sym leads.0) leads.1

  -- a walk that comes back to its start with a negative sum
  covers_cyclic : (steps : List Step) (w : Walk) → 1 ≤ length steps → Covers edge steps w → w.start ≡ w.«end» → w.sum <ℤ pos 0 → IsCyclic edge steps
  covers_cyclic steps w some covers back negative = record {
    edges = covers.edges;
    found = covers.found;
    closed = closed_from steps covers.edges w.start w.«end» some covers.found covers.leads back;
    negative = subst (λ n. n <ℤ pos 0) covers.sum negative;
  }

  comes_back : (edges : List Edge) (a b : ℕ) → LeadsTo a edges b → IsClosedWalk edges → a ≡ b
  comes_back [] a b leads closed = absurd closed
  comes_back (x ∷ xs) a b leads closed = sym leads.0 ∙ leads_one x.to x.from b xs closed leads.1

  cyclic_covers : (steps : List Step) (w : Walk) → Covers edge steps w → IsCyclic edge steps → (w.start ≡ w.«end») × (w.sum <ℤ pos 0)
  cyclic_covers steps w covers cyclic =
      let same : cyclic.edges ≡ covers.edges = found_same cyclic.edges covers.edges (sym cyclic.found ∙ covers.found) in (
        comes_back covers.edges w.start w.«end» covers.leads (subst IsClosedWalk same cyclic.closed),
        subst (λ n. n <ℤ pos 0) (ap sum_of_bounds same ∙ sym covers.sum) cyclic.negative,
      )

  pub none_cyclic : IsCyclic edge [] → ⊥
  none_cyclic cyclic = go cyclic.edges cyclic.found cyclic.closed
    where
      go : (edges : List Edge) → map edge [] ≡ map Some edges → IsClosedWalk edges → ⊥
      go [] found closed = closed
      go (x ∷ xs) found closed = cc

  -- the first step is the same with one more
  begins_more : (steps : List Step) (s : Step) (a : ℕ) → BeginsAt edge steps a → BeginsAt edge (steps ++ s ∷ []) a
  begins_more [] s a (x, is, from) = absurd (cc)
  begins_more (r ∷ rs) s a begins = begins

  pub begins_first : (s : Step) (o : Option SystemEdge) (e : SystemEdge) → option_map edge_in o ≡ edge s → o ≡ Some e → BeginsAt edge (s ∷ []) e.from
  begins_first s o e is some = (edge_in e, sym is ∙ ap (option_map edge_in) some, refl)

  begins_some : (steps : List Step) (a : ℕ) → BeginsAt edge steps a → 1 ≤ length steps
  begins_some [] a (x, is, from) = absurd (cc)
  begins_some (s ∷ ss) a begins = omega arith

  module _ (steps : List Step) (s : Step) (w : Walk) (o : Option SystemEdge) (n : ℕ) (is : option_map edge_in o ≡ edge s) (number : length steps + 1 ≡ n)
      (covers : Covers edge steps w) (begins : BeginsAt edge (steps ++ s ∷ []) w.start) where
    -- a walk that goes on by a step more
    pub goes_along : IfSome o (λ e. IsNear (2 ^ 90) e.bound) → (further : Walk) → Goes w (option_map edge_in o) further → Follows edge (steps ++ s ∷ []) further
    goes_along near further goes = record {
      begins = subst (BeginsAt edge (steps ++ s ∷ [])) (sym (ap (λ (v : Walk). v.start) goes.is)) begins;
      covers = rw goes.is (covers_push steps s w goes.x covers (sym is ∙ goes.there) goes.joined (near_edge o goes.x near goes.there));
    }

    -- and one that stops at it
    pub stops_at : Stops w (option_map edge_in o) → StopsAt edge (steps ++ s ∷ []) n
    stops_at stops =
        let size : length (steps ++ s ∷ []) ≡ n = omega (arith, number, length-append steps (s ∷ [])) in
        let before : n - 1 ≡ length steps = omega (arith, number) in
        record {
          some = omega (arith, number);
          within = omega (arith, size);
          before = subst (IsJoined edge) (sym (ap (λ k. take k (steps ++ s ∷ [])) before ∙ take_front steps (s ∷ []))) (covers_joined steps w covers);
          loose =
              λ joined. stops_push steps s w covers begins (subst (Stops w) is stops) (subst (IsJoined edge) (ap (λ k. take k (steps ++ s ∷ [])) (sym size) ∙ take-length (steps ++ s ∷ [])) joined);
        }

  -- a walk goes on
  pub along_more : (steps : List Step) (s : Step) (w : Walk) → Follows edge steps w → BeginsAt edge (steps ++ s ∷ []) w.start
  along_more steps s w follows = begins_more steps s w.start follows.begins

  -- steps that have come to an end are closed and of negative sum where their walk is
  pub along_cyclic : (steps : List Step) (w : Walk) → Follows edge steps w → ((w.start ≡ w.«end») × (w.sum <ℤ pos 0)) ↔ IsCyclic edge steps
  along_cyclic steps w follows = (
    λ both. covers_cyclic steps w (begins_some steps w.start follows.begins) follows.covers both.0 both.1,
    λ cyclic. cyclic_covers steps w follows.covers cyclic,
  )

  pub stopped_cyclic : (steps : List Step) (n : ℕ) → StopsAt edge steps n → IsCyclic edge steps → ⊥
  stopped_cyclic steps n stops cyclic = stops.loose (joined_front n steps (cyclic_joined steps cyclic))

-- conflicts and cycles are cyclic
pub conflict_cyclic : (log : Logged) (steps : List Step) → Conflict log steps → IsCyclic (edge_of log) steps
conflict_cyclic log steps conflict = record { edges = conflict.edges; found = conflict.found; closed = conflict.closed; negative = conflict.negative }

pub cyclic_conflict : (log : Logged) (steps : List Step) → IsCyclic (edge_of log) steps → Conflict log steps
cyclic_conflict log steps cyclic = record { edges = cyclic.edges; found = cyclic.found; closed = cyclic.closed; negative = cyclic.negative }

-- whether steps are a conflict, by the walk over them
pub conflict_none : (log : Logged) (steps : List Step) (b : Bool) → IsTrue b ↔ IsCyclic (edge_of log) steps → b ≡ false → IsTrue false ↔ Conflict log steps
conflict_none log steps true says fails = absurd (cc)
conflict_none log steps false says fails = (λ holds. absurd (cc), λ conflict. says.1 (conflict_cyclic log steps conflict))

pub conflict_some : (log : Logged) (steps : List Step) (b : Bool) → IsTrue b ↔ IsCyclic (edge_of log) steps → b ≡ true → IsTrue true ↔ Conflict log steps
conflict_some log steps true says holds = (λ is. cyclic_conflict log steps (says.0 is), λ conflict. refl)
conflict_some log steps false says holds = absurd (cc)

module _ (log : Logged) where
  bound_has : (s : Step) (x : Edge) → bound_edge_of log s ≡ Some x → IsBound s × (edge_of log s ≡ Some x)
  bound_has (Low e) x is = (tt, is)
  bound_has (High e) x is = (tt, is)
  bound_has (Rise f) x is = (tt, is)
  bound_has (Message r) x is = (tt, is)
  bound_has (Late r) x is = (tt, is)
  bound_has (Under r) x is = (tt, is)
  bound_has (Over r) x is = (tt, is)
  bound_has (Extra k) x is = (tt, is)
  bound_has (Order e f c) x is = absurd (cc)

  pub bound_same : (s : Step) → IsBound s → bound_edge_of log s ≡ edge_of log s
  bound_same (Low e) is = refl
  bound_same (High e) is = refl
  bound_same (Rise f) is = refl
  bound_same (Message r) is = refl
  bound_same (Late r) is = refl
  bound_same (Under r) is = refl
  bound_same (Over r) is = refl
  bound_same (Extra k) is = refl
  bound_same (Order e f c) is = absurd is

  bounds_found : (steps : List Step) (edges : List Edge) → map (bound_edge_of log) steps ≡ map Some edges → All IsBound steps × HasEdges log steps edges
  bounds_found [] [] found = (All-nil IsBound, refl)
  bounds_found [] (x ∷ xs) found = absurd (cc)
  bounds_found (s ∷ ss) [] found = absurd (cc)
  bounds_found (s ∷ ss) (x ∷ xs) found =
      let here : bound_edge_of log s ≡ Some x = cc in
      let others : map (bound_edge_of log) ss ≡ map Some xs = cc in
      let first = bound_has s x here in
      let rest = bounds_found ss xs others in
      (All-cons IsBound s ss first.0 rest.0, cc (first.1, rest.1))

  found_bounds : (steps : List Step) → All IsBound steps → map (bound_edge_of log) steps ≡ map (edge_of log) steps
  found_bounds [] all = refl
  found_bounds (s ∷ ss) all = cc (bound_same s (All-head IsBound s ss all), found_bounds ss (All-tail IsBound s ss all))

  pub cycle_cyclic : (steps : List Step) → IsCycle log steps → IsCyclic (bound_edge_of log) steps
  cycle_cyclic steps cycle = record {
    edges = cycle.conflict.edges;
    found = found_bounds steps cycle.bounds ∙ cycle.conflict.found;
    closed = cycle.conflict.closed;
    negative = cycle.conflict.negative;
  }

  pub cyclic_cycle : (steps : List Step) → IsCyclic (bound_edge_of log) steps → IsCycle log steps
  cyclic_cycle steps cyclic =
      let both = bounds_found steps cyclic.edges cyclic.found in
      record { bounds = both.0; conflict = record { edges = cyclic.edges; found = both.1; closed = cyclic.closed; negative = cyclic.negative } }
