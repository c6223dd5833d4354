-- Formulas as plain values: a tree of the code, without where its parts lie in memory.
use Rattle.std.specs.Prelude.{◌≡◌, ℕ, ◌+◌, ◌<◌, ◌≤◌, ◌&&◌, max, nat_le, not, Bool, true, List, [], ◌∷◌, ◌++◌, length}
use Rattle.std.specs.List.{list_all}
use Rattle.std.specs.Option.{option_map_or}
use Rattle.mt_model.specs.declared.tree.Interval.{Interval}
use Rattle.mt_model.specs.declared.tree.Tree.{Tree, Not', And', Or', Implies', Until', Since', Eventually', Always', Once', Historically'}
use Rattle.mt_model.specs.declared.tree.Tree.TheVariants as tree
use Rattle.mt_model.specs.declared.limits.TheConstants.{MAX_HEIGHT, MAX_DISTANCE, TOO_MANY_PROPOSITIONS}
use Rattle.mt_model.specs.Name.{is_name, is_reserved}

-- a formula of metric temporal logic
pub data Form : Type 0 where
  True : Form
  False : Form
  Prop : (host : List ℕ) → (name : List ℕ) → Form
  Not : Form → Form
  And : Form → Form → Form
  Or : Form → Form → Form
  Implies : Form → Form → Form
  Until : Interval → Form → Form → Form
  Since : Interval → Form → Form → Form
  Eventually : Interval → Form → Form
  Always : Interval → Form → Form
  Once : Interval → Form → Form
  Historically : Interval → Form → Form

-- the formula that a tree of the code is
abbrev pub form_of : Tree → Form
form_of tree.True = True
form_of tree.False = False
form_of (tree.Prop host name) = Prop host name
form_of (Not' p f) = Not (form_of f)
form_of (And' p f q g) = And (form_of f) (form_of g)
form_of (Or' p f q g) = Or (form_of f) (form_of g)
form_of (Implies' p f q g) = Implies (form_of f) (form_of g)
form_of (Until' I p f q g) = Until I (form_of f) (form_of g)
form_of (Since' I p f q g) = Since I (form_of f) (form_of g)
form_of (Eventually' I p f) = Eventually I (form_of f)
form_of (Always' I p f) = Always I (form_of f)
form_of (Once' I p f) = Once I (form_of f)
form_of (Historically' I p f) = Historically I (form_of f)

-- a leaf has height 1, and every other formula is one higher than its highest part
abbrev pub height_of : Form → ℕ
height_of True = 1
height_of False = 1
height_of (Prop host name) = 1
height_of (Not f) = height_of f + 1
height_of (And f g) = max (height_of f) (height_of g) + 1
height_of (Or f g) = max (height_of f) (height_of g) + 1
height_of (Implies f g) = max (height_of f) (height_of g) + 1
height_of (Until I f g) = max (height_of f) (height_of g) + 1
height_of (Since I f g) = max (height_of f) (height_of g) + 1
height_of (Eventually I f) = height_of f + 1
height_of (Always I f) = height_of f + 1
height_of (Once I f) = height_of f + 1
height_of (Historically I f) = height_of f + 1

-- a proposition of a host
pub record Proposition : Type 0 where
  pub host : List ℕ
  pub name : List ℕ

-- the propositions of a formula from left to right, each as often as it stands there
abbrev pub propositions_of : Form → List Proposition
propositions_of True = []
propositions_of False = []
propositions_of (Prop host name) = record { host = host; name = name } ∷ []
propositions_of (Not f) = propositions_of f
propositions_of (And f g) = propositions_of f ++ propositions_of g
propositions_of (Or f g) = propositions_of f ++ propositions_of g
propositions_of (Implies f g) = propositions_of f ++ propositions_of g
propositions_of (Until I f g) = propositions_of f ++ propositions_of g
propositions_of (Since I f g) = propositions_of f ++ propositions_of g
propositions_of (Eventually I f) = propositions_of f
propositions_of (Always I f) = propositions_of f
propositions_of (Once I f) = propositions_of f
propositions_of (Historically I f) = propositions_of f

-- the intervals of a formula from left to right, each as often as it stands there
abbrev pub intervals_of : Form → List Interval
intervals_of True = []
intervals_of False = []
intervals_of (Prop host name) = []
intervals_of (Not f) = intervals_of f
intervals_of (And f g) = intervals_of f ++ intervals_of g
intervals_of (Or f g) = intervals_of f ++ intervals_of g
intervals_of (Implies f g) = intervals_of f ++ intervals_of g
intervals_of (Until I f g) = intervals_of f ++ I ∷ intervals_of g
intervals_of (Since I f g) = intervals_of f ++ I ∷ intervals_of g
intervals_of (Eventually I f) = I ∷ intervals_of f
intervals_of (Always I f) = I ∷ intervals_of f
intervals_of (Once I f) = I ∷ intervals_of f
intervals_of (Historically I f) = I ∷ intervals_of f

-- an interval is not empty, and its bounds are in their range
abbrev pub is_interval : Interval → Bool
is_interval I = nat_le I.low MAX_DISTANCE && option_map_or (λ b. nat_le b MAX_DISTANCE && nat_le I.low b) I.high true

-- the host and the name of a proposition are names
abbrev pub is_named : Proposition → Bool
is_named p = is_name p.host && is_name p.name

-- a valid formula
pub record IsFormula (f : Form) : Type 0 where
  pub height : height_of f ≤ MAX_HEIGHT
  pub propositions : length (propositions_of f) < TOO_MANY_PROPOSITIONS
  pub names : list_all is_named (propositions_of f) ≡ true
  pub hosts : list_all (λ p. not (is_reserved p.host)) (propositions_of f) ≡ true
  pub intervals : list_all is_interval (intervals_of f) ≡ true
