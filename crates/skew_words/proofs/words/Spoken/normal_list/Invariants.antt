use Rattle.std.proofs.Common.{◌≡◌, ◌++◌, [], map, take}
use Rattle.std.specs.Prelude.{string_bytes}
use Rattle.skew_words.specs.Called.{words_in}
use Rattle.skew_words.specs.NormalWords.{normal_list, option_of}
use Rattle.skew_words.proofs.words.Spoken.normal_list.Given as goal

abbrev pub invariant-loop-place : goal.invariant-loop-place
invariant-loop-place l =
    map string_bytes l.list.items ≡ normal_list (option_of l.self) [] ++ take l.place (words_in l.self.operands)
