-- What a true clause of one to five parts says of one part, where the others are false.
use Rattle.std.proofs.Common.{◌≡◌, refl, Bool, true, false, not, ◌&&◌, ◌||◌, if◌then◌else◌}

pub last_of_1 : (a : Bool) → (a || false) ≡ true → a ≡ true
last_of_1 true h = refl
last_of_1 false h = absurd (cc)

-- the rest of a clause whose first part is false
pub rest_of : (a b : Bool) → (a || b) ≡ true → a ≡ false → b ≡ true
rest_of true b h fails = absurd (cc)
rest_of false b h fails = h

-- the first part of a clause whose rest is false
pub first_of : (a b : Bool) → (a || b) ≡ true → b ≡ false → a ≡ true
first_of true b h fails = refl
first_of false b h fails = absurd (cc)

pub last_of_2 : (a b : Bool) → (a || (b || false)) ≡ true → a ≡ false → b ≡ true
last_of_2 a b h p = last_of_1 b (rest_of a _ h p)

pub last_of_3 : (a b c : Bool) → (a || (b || (c || false))) ≡ true → a ≡ false → b ≡ false → c ≡ true
last_of_3 a b c h p q = last_of_2 b c (rest_of a _ h p) q

pub last_of_4 : (a b c d : Bool) → (a || (b || (c || (d || false)))) ≡ true → a ≡ false → b ≡ false → c ≡ false → d ≡ true
last_of_4 a b c d h p q r = last_of_3 b c d (rest_of a _ h p) q r

pub first_of_5 : (a b c d e : Bool) → (a || (b || (c || (d || (e || false))))) ≡ true → b ≡ false → c ≡ false → d ≡ false → e ≡ false → a ≡ true
first_of_5 a b c d e h p q r s = first_of a _ h (rw (p, q, r, s) refl)

-- a value whose negation or another holds, and one of whose two holds, is the negation of the other
pub is_negation : (a b : Bool) → (not a || (not b || false)) ≡ true → (a || (b || false)) ≡ true → a ≡ not b
is_negation true true p q = absurd (cc)
is_negation true false p q = refl
is_negation false true p q = refl
is_negation false false p q = absurd (cc)

-- a value that implies both of two, and follows from both
pub is_both : (a b c : Bool) → (not a || (b || false)) ≡ true → (not a || (c || false)) ≡ true → (a || (not b || (not c || false))) ≡ true → a ≡ (b && c)
is_both true true true p q r = refl
is_both true true false p q r = absurd (cc)
is_both true false c p q r = absurd (cc)
is_both false true true p q r = absurd (cc)
is_both false true false p q r = refl
is_both false false c p q r = refl

-- a value of which a literal of a sense is true is that sense
pub is_sense : (sense value : Bool) → (if sense then value else not value) ≡ true → value ≡ sense
is_sense true value h = h
is_sense false true h = absurd (cc)
is_sense false false h = refl
