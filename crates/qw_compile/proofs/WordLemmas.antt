-- The numbers and the dates among leaves, and what holds of leaves of each kind.
use Rattle.std.proofs.Common.{ℕ, ℤ, ◌≤◌, List, [], ◌∷◌, length, arith}
use Rattle.std.specs.List.{AllByRecursion}
use Rattle.qw_types.specs.declared.value.Ty.{Ty}
use Rattle.qw_leaves.specs.declared.leaf.Leaf.{Leaf}
use Rattle.qw_leaves.specs.declared.leaf.Leaf.TheVariants as leaf
use Rattle.qw_leaves.specs.Leaves.{OfColumn, OfText}
use Rattle.qw_read.specs.declared.constant.Word.{Word}
use Rattle.qw_read.specs.declared.constant.Word.TheVariants as word
use Rattle.qw_compile.specs.Words.{words_among}

-- something holds of a leaf that is a number or a date
abbrev pub OfWord : (Word → Type 0) → Leaf → Type 0
OfWord Holds (leaf.Column i ty) = Unit {0}
OfWord Holds (leaf.Number v s) = Holds (word.Number v s)
OfWord Holds (leaf.Date d) = Holds (word.Date d)
OfWord Holds (leaf.Text t) = Unit {0}

pub all_words : (P : Word → Type 0) (ls : List Leaf) → AllByRecursion P (words_among ls) → AllByRecursion (OfWord P) ls
all_words P [] all = tt
all_words P (leaf.Column i ty ∷ ls) all = (tt, all_words P ls all)
all_words P (leaf.Number v s ∷ ls) all = (all.0, all_words P ls all.1)
all_words P (leaf.Date d ∷ ls) all = (all.0, all_words P ls all.1)
all_words P (leaf.Text t ∷ ls) all = (tt, all_words P ls all)

pub words_all : (P : Word → Type 0) (ls : List Leaf) → AllByRecursion (OfWord P) ls → AllByRecursion P (words_among ls)
words_all P [] all = tt
words_all P (leaf.Column i ty ∷ ls) all = words_all P ls all.1
words_all P (leaf.Number v s ∷ ls) all = (all.0, words_all P ls all.1)
words_all P (leaf.Date d ∷ ls) all = (all.0, words_all P ls all.1)
words_all P (leaf.Text t ∷ ls) all = words_all P ls all.1

-- all of them
pub of_all : (P : List ℕ → Type 0) (W : Word → Type 0) (Q : ℕ → Ty → Type 0) (R : Leaf → Type 0) → ((t : List ℕ) → P t → R (leaf.Text t)) → ((v : ℤ) (s : ℕ) → W (word.Number v s) → R (leaf.Number v s)) → ((d : ℤ) → W (word.Date d) → R (leaf.Date d)) →
    ((i : ℕ) (ty : Ty) → Q i ty → R (leaf.Column i ty)) → (ls : List Leaf) → AllByRecursion (OfText P) ls → AllByRecursion (OfWord W) ls → AllByRecursion (OfColumn Q) ls → AllByRecursion R ls
of_all P W Q R one two three four [] p w q = tt
of_all P W Q R one two three four (leaf.Column i ty ∷ ls) p w q = (four i ty q.0, of_all P W Q R one two three four ls p.1 w.1 q.1)
of_all P W Q R one two three four (leaf.Number v s ∷ ls) p w q = (two v s w.0, of_all P W Q R one two three four ls p.1 w.1 q.1)
of_all P W Q R one two three four (leaf.Date d ∷ ls) p w q = (three d w.0, of_all P W Q R one two three four ls p.1 w.1 q.1)
of_all P W Q R one two three four (leaf.Text t ∷ ls) p w q = (one t p.0, of_all P W Q R one two three four ls p.1 w.1 q.1)

pub words_less : (ls : List Leaf) → length (words_among ls) ≤ length ls
words_less [] = omega arith
words_less (leaf.Column i ty ∷ ls) = let rest = words_less ls in omega (arith, rest)
words_less (leaf.Number v s ∷ ls) = let rest = words_less ls in omega (arith, rest)
words_less (leaf.Date d ∷ ls) = let rest = words_less ls in omega (arith, rest)
words_less (leaf.Text t ∷ ls) = let rest = words_less ls in omega (arith, rest)
