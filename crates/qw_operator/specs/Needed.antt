-- Which columns are read where leaves are evaluated.
use Rattle.std.specs.Prelude.{◌≡◌, ◌<◌, ℕ, ◌==◌, Bool, false, Some, List, slice_get}
use Rattle.qw_leaves.specs.declared.leaf.Leaf.{Leaf}
use Rattle.qw_leaves.specs.declared.leaf.Leaf.TheVariants as leaf
use Rattle.qw_read.specs.declared.reader.Reader.{Reader}

abbrev pub names : (column : ℕ) → Leaf → Bool
names i (leaf.Column j ty) = j == i
names i (leaf.Number v s) = false
names i (leaf.Date d) = false
names i (leaf.Text t) = false

-- each reader of a leaf's column is one of the first ones, so many
abbrev pub IsWithin : List Reader → (count : ℕ) → Leaf → Type 0
IsWithin readers n (leaf.Column i ty) = (k : ℕ) (r : Reader) → slice_get readers k ≡ Some r → r.column ≡ i → k < n
IsWithin readers n (leaf.Number v s) = Unit {0}
IsWithin readers n (leaf.Date d) = Unit {0}
IsWithin readers n (leaf.Text t) = Unit {0}
