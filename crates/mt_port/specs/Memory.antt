-- What contracts see of the shelf and the sink in memory.
use Rattle.std.specs.Prelude.{◌≡◌, ◌≢◌, ℕ, ◌+◌, ◌-◌, ◌^◌, ◌<◌, ◌≤◌, List, [], ◌∷◌, ◌++◌, map, length, min, position, bytes_eq, All, Contains, Bool, true, false, string_bytes, String, Vec, Option, Some, None, IsNone, slice_index_or, drop}
use Rattle.std.specs.declared.alloc.Global.{Global}
use Rattle.mt_port.specs.Port.{Files, file_of}

-- the bytes so far, the most that it holds, the most that one call takes, the calls that fail, and the counts
pub record Sunk : Type 0 where
  pub bytes : List ℕ
  pub room : ℕ
  pub piece : ℕ
  pub fails : List ℕ
  pub calls : ℕ
  pub faults : ℕ

-- the files, whether one is open, what is left of it, the most that one call gives, the calls that fail, the counts, and the
-- place of the file that was asked for last, where one of its name is held
pub record Shelved : Type 0 where
  pub files : Files
  pub is_open : Bool
  pub left : List ℕ
  pub piece : ℕ
  pub fails : List ℕ
  pub calls : ℕ
  pub openings : ℕ
  pub asked : Option ℕ
  pub faults : ℕ

-- the shelf of these files before its first call
abbrev pub new_shelf : Files → ℕ → List ℕ → Shelved
new_shelf files piece fails = record { files = files; is_open = false; left = []; piece = piece; fails = fails; calls = 0; openings = 0; asked = None; faults = 0 }

-- a count after one more, which stays at its end
abbrev pub one_more : ℕ → ℕ
one_more count = min (count + 1) (2 ^ 64 - 1)

-- the call after this many is one of those that fail
abbrev pub IsToFail : List ℕ → ℕ → Type 0
IsToFail fails calls = Contains fails (one_more calls)

-- no call after this many is to fail
abbrev pub IsSteady : List ℕ → ℕ → Type 0
IsSteady fails calls = All (λ n. (n ≤ calls) × (n ≢ 2 ^ 64 - 1)) fails

-- each file has a name that no later one has
abbrev pub AreDistinct : Files → Type 0
AreDistinct [] = Unit {0}
AreDistinct (f ∷ rest) = IsNone (file_of rest f.0) × AreDistinct rest

-- the names and bytes of files
abbrev pub named : List (String Global × Vec ℕ Global) → Files
named files = map (λ f. (string_bytes f.0, f.1.items)) files

-- the bytes of the file at an index
abbrev pub bytes_of : Files → ℕ → List ℕ
bytes_of files i = slice_index_or (map (λ f. f.1) files) i []

-- the place of the file of a name
abbrev pub place_of : Files → List ℕ → Option ℕ
place_of files name = position (λ f. bytes_eq f.0 name) files

-- the file that was asked for last is the first one of these names
abbrev pub AskedLast : Files → Option ℕ → List (List ℕ) → Type 0
AskedLast files asked [] = Unit {0}
AskedLast files asked (name ∷ past) = asked ≡ place_of files name

-- openings were asked for of just these names, the last one first, by their number and the last one
pub record HasOpened (s : Shelved) (past : List (List ℕ)) : Type 0 where
  pub count : s.openings ≡ min (length past) (2 ^ 64 - 1)
  pub last : AskedLast s.files s.asked past

-- the bytes from a place on of the file at an index
abbrev pub left_at : Files → Option ℕ → ℕ → List ℕ
left_at files None place = []
left_at files (Some i) place = drop place (bytes_of files i)

-- the shelf after it opened the file of a name, of these bytes
abbrev pub opened : Shelved → List ℕ → List ℕ → Shelved
opened s name bytes = record s { is_open = true; left = bytes; calls = one_more s.calls; openings = one_more s.openings; asked = place_of s.files name }

-- the shelf after an opening of a name that failed
abbrev pub not_opened : Shelved → List ℕ → Shelved
not_opened s name = record s { is_open = false; left = []; calls = one_more s.calls; openings = one_more s.openings; asked = place_of s.files name; faults = one_more s.faults }

-- the shelf after it gave this many bytes
abbrev pub gave : Shelved → ℕ → Shelved
gave s n = record s { left = drop n s.left; calls = one_more s.calls }

-- the shelf after a read that failed
abbrev pub not_read : Shelved → Shelved
not_read s = record s { calls = one_more s.calls; faults = one_more s.faults }

-- a piece that isn't empty, and no room for it
abbrev pub IsFullFor : Sunk → List ℕ → Type 0
IsFullFor s piece = (0 < length piece) × (s.room ≤ length s.bytes)

-- the sink after it took these bytes
abbrev pub took : Sunk → List ℕ → Sunk
took s bytes = record s { bytes = s.bytes ++ bytes; calls = one_more s.calls }

-- the sink after a write that failed
abbrev pub not_written : Sunk → Sunk
not_written s = record s { calls = one_more s.calls; faults = one_more s.faults }
