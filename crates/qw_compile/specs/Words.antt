-- The numbers and the dates among leaves (ISO/IEC 9075:1992, 5.3).
use Rattle.std.specs.Prelude.{List, [], ◌∷◌}
use Rattle.qw_leaves.specs.declared.leaf.Leaf.{Leaf}
use Rattle.qw_leaves.specs.declared.leaf.Leaf.TheVariants as leaf
use Rattle.qw_read.specs.declared.constant.Word.{Word}
use Rattle.qw_read.specs.declared.constant.Word.TheVariants as word

abbrev pub words_among : List Leaf → List Word
words_among [] = []
words_among (leaf.Column i ty ∷ leaves) = words_among leaves
words_among (leaf.Number v s ∷ leaves) = word.Number v s ∷ words_among leaves
words_among (leaf.Date d ∷ leaves) = word.Date d ∷ words_among leaves
words_among (leaf.Text t ∷ leaves) = words_among leaves
