-- Runs of bytes.
use Rattle.std.proofs.Common.{ℕ, ◌≤◌, List, length}
use Rattle.std.specs.List.{prefix_len}
use Rattle.std.proofs.lemmas.List.Sums.{prefix_len-le-length}
use Rattle.mt_model.specs.Name.{is_digit, is_name_byte}

pub names_within : (bytes : List ℕ) → prefix_len is_name_byte bytes ≤ length bytes
names_within bytes = prefix_len-le-length is_name_byte bytes

pub digits_within : (bytes : List ℕ) → prefix_len is_digit bytes ≤ length bytes
digits_within bytes = prefix_len-le-length is_digit bytes
