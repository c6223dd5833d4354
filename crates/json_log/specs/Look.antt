-- What a log takes from a JSON value: objects with exactly some keys, strings, whole numbers and arrays.
use Rattle.std.specs.Prelude.{ℕ, ℤ, pos, List, length, ◌==◌, ◌&&◌, Bool, Option, is_some, option_map, option_and_then}
use Rattle.std.specs.Option.{option_map_or, option_or}
use Rattle.std.specs.List.{list_all}
use Rattle.serde_json.specs.Data.{Data, Items, Num}
use Rattle.serde_json.specs.Events.{members_len}
use Rattle.serde_json.specs.Find.{as_array, as_i64, as_number, as_object, as_str, as_u64, get}
use Rattle.json_log.specs.declared.key.Key.{Key}
use Rattle.json_log.specs.Keys.{word_of}

-- the value at a key of an object
abbrev pub value_at : Key → Data → Option Data
value_at key d = get (word_of key) d

-- how many members an object has, and 0 where the value is none
abbrev pub member_count : Data → ℕ
member_count d = option_map_or members_len (as_object d) 0

-- an object with exactly these keys: it has as many members, and each of the keys
abbrev pub has_exactly : List Key → Data → Bool
has_exactly keys d = (member_count d == length keys) && list_all (λ key. is_some (value_at key d)) keys

-- the string at a key
abbrev pub text_at : Key → Data → Option (List ℕ)
text_at key d = option_and_then as_str (value_at key d)

-- the items of the array at a key
abbrev pub items_at : Key → Data → Option Items
items_at key d = option_and_then as_array (value_at key d)

-- a whole number: what `as_i64` answers, or else `as_u64`
abbrev pub whole_of : Num → Option ℤ
whole_of n = option_or (as_i64 n) (option_map pos (as_u64 n))

-- the whole number that a value is
abbrev pub whole : Data → Option ℤ
whole d = option_and_then whole_of (as_number d)

-- the whole number at a key
abbrev pub whole_at : Key → Data → Option ℤ
whole_at key d = option_and_then whole (value_at key d)
