-- Forms as lists of pieces, by which a proof tells them apart.
use Rattle.std.specs.Prelude.{◌≡◌, ℕ, List, [], ◌∷◌, refl}
use Rattle.std.specs.Coded.{Coded, code_by, coded_list}
use Rattle.mt_model.specs.declared.tree.Interval.{Interval}
use Rattle.mt_model.specs.Form.{Form, True, False, Prop, Not, And, Or, Implies, Until, Since, Eventually, Always, Once, Historically}

-- a form without its children
pub data Piece : Type 0 where
  OfTrue : Piece
  OfFalse : Piece
  OfProp : List ℕ → List ℕ → Piece
  OfNot : Piece
  OfAnd : Piece
  OfOr : Piece
  OfImplies : Piece
  OfUntil : Interval → Piece
  OfSince : Interval → Piece
  OfEventually : Interval → Piece
  OfAlways : Interval → Piece
  OfOnce : Interval → Piece
  OfHistorically : Interval → Piece

-- the pieces of a form, the children's first, before further pieces
abbrev pub pieces_of : Form → List Piece → List Piece
pieces_of True ps = OfTrue ∷ ps
pieces_of False ps = OfFalse ∷ ps
pieces_of (Prop host name) ps = OfProp host name ∷ ps
pieces_of (Not f) ps = pieces_of f (OfNot ∷ ps)
pieces_of (And f g) ps = pieces_of f (pieces_of g (OfAnd ∷ ps))
pieces_of (Or f g) ps = pieces_of f (pieces_of g (OfOr ∷ ps))
pieces_of (Implies f g) ps = pieces_of f (pieces_of g (OfImplies ∷ ps))
pieces_of (Until I f g) ps = pieces_of f (pieces_of g (OfUntil I ∷ ps))
pieces_of (Since I f g) ps = pieces_of f (pieces_of g (OfSince I ∷ ps))
pieces_of (Eventually I f) ps = pieces_of f (OfEventually I ∷ ps)
pieces_of (Always I f) ps = pieces_of f (OfAlways I ∷ ps)
pieces_of (Once I f) ps = pieces_of f (OfOnce I ∷ ps)
pieces_of (Historically I f) ps = pieces_of f (OfHistorically I ∷ ps)

-- the forms, the last one first, with an operator put over the last one; none where there is none
abbrev pub over_last : (Form → Form) → List Form → List Form
over_last make [] = []
over_last make (f ∷ fs) = make f ∷ fs

-- the forms, the last one first, with an operator put over the last two; none where there are no two
abbrev pub over_last_two : (Form → Form → Form) → List Form → List Form
over_last_two make [] = []
over_last_two make (g ∷ []) = []
over_last_two make (g ∷ f ∷ fs) = make f g ∷ fs

-- the forms after one more piece, the last one first
abbrev pub with_piece : Piece → List Form → List Form
with_piece OfTrue fs = True ∷ fs
with_piece OfFalse fs = False ∷ fs
with_piece (OfProp host name) fs = Prop host name ∷ fs
with_piece OfNot fs = over_last Not fs
with_piece OfAnd fs = over_last_two And fs
with_piece OfOr fs = over_last_two Or fs
with_piece OfImplies fs = over_last_two Implies fs
with_piece (OfUntil I) fs = over_last_two (Until I) fs
with_piece (OfSince I) fs = over_last_two (Since I) fs
with_piece (OfEventually I) fs = over_last (Eventually I) fs
with_piece (OfAlways I) fs = over_last (Always I) fs
with_piece (OfOnce I) fs = over_last (Once I) fs
with_piece (OfHistorically I) fs = over_last (Historically I) fs

-- the forms after these pieces, the last one first
abbrev pub forms_of : List Piece → List Form → List Form
forms_of [] fs = fs
forms_of (p ∷ ps) fs = forms_of ps (with_piece p fs)

-- the first form of a list, which has one
abbrev pub first_of_forms : List Form → Form
first_of_forms [] = True
first_of_forms (f ∷ fs) = f

pub forms_of-pieces_of : (f : Form) (ps : List Piece) (fs : List Form) → forms_of (pieces_of f ps) fs ≡ forms_of ps (f ∷ fs)
forms_of-pieces_of True ps fs = refl
forms_of-pieces_of False ps fs = refl
forms_of-pieces_of (Prop host name) ps fs = refl
forms_of-pieces_of (Not f) ps fs = forms_of-pieces_of f (OfNot ∷ ps) fs
forms_of-pieces_of (And f g) ps fs = rw (forms_of-pieces_of f (pieces_of g (OfAnd ∷ ps)) fs) (forms_of-pieces_of g (OfAnd ∷ ps) (f ∷ fs))
forms_of-pieces_of (Or f g) ps fs = rw (forms_of-pieces_of f (pieces_of g (OfOr ∷ ps)) fs) (forms_of-pieces_of g (OfOr ∷ ps) (f ∷ fs))
forms_of-pieces_of (Implies f g) ps fs = rw (forms_of-pieces_of f (pieces_of g (OfImplies ∷ ps)) fs) (forms_of-pieces_of g (OfImplies ∷ ps) (f ∷ fs))
forms_of-pieces_of (Until I f g) ps fs = rw (forms_of-pieces_of f (pieces_of g (OfUntil I ∷ ps)) fs) (forms_of-pieces_of g (OfUntil I ∷ ps) (f ∷ fs))
forms_of-pieces_of (Since I f g) ps fs = rw (forms_of-pieces_of f (pieces_of g (OfSince I ∷ ps)) fs) (forms_of-pieces_of g (OfSince I ∷ ps) (f ∷ fs))
forms_of-pieces_of (Eventually I f) ps fs = forms_of-pieces_of f (OfEventually I ∷ ps) fs
forms_of-pieces_of (Always I f) ps fs = forms_of-pieces_of f (OfAlways I ∷ ps) fs
forms_of-pieces_of (Once I f) ps fs = forms_of-pieces_of f (OfOnce I ∷ ps) fs
forms_of-pieces_of (Historically I f) ps fs = forms_of-pieces_of f (OfHistorically I ∷ ps) fs

-- a form as its pieces
abbrev pub written : Form → List Piece
written f = pieces_of f []

-- the form that pieces write
abbrev pub read : List Piece → Form
read ps = first_of_forms (forms_of ps [])

pub read-written : (f : Form) → read (written f) ≡ f
read-written f = rw (forms_of-pieces_of f [] []) refl

-- the code of a form, from that of a piece
abbrev pub coded_form : Coded Piece → Coded Form
coded_form piece = code_by (List Piece) (coded_list piece) written read read-written
