-- A text of four or of seven pieces, put together from the left or from the right; the line on a number of the words.
use Rattle.std.proofs.Common.{◌≡◌, ℕ, List, ◌++◌, ◌∙◌, codes, refl, sym, append_assoc}
use Rattle.qw_command_line.specs.Words.{name_of}
use Rattle.qw_command_line.specs.declared.command.Number.{Number}
use Rattle.qw_command_line.specs.declared.command.Number.TheVariants.{Quantum, Pages, Steps, Statement, Seed, Rows, Null, Parts}
use Rattle.qw_top.specs.Causes.{line_of_cause, number_out_of_range}

pub pieces_4 : (a b c d : List ℕ) → a ++ (b ++ (c ++ d)) ≡ a ++ b ++ c ++ d
pieces_4 a b c d = sym (append_assoc (a ++ b) c d ∙ append_assoc a b (c ++ d))

pub pieces_7 : (a b c d e f g : List ℕ) → a ++ (b ++ (c ++ (d ++ (e ++ (f ++ g))))) ≡ a ++ b ++ c ++ d ++ e ++ f ++ g
pieces_7 a b c d e f g =
    append_more ∙ pieces_4 (a ++ b ++ c ++ d) e f g
  where
    append_more : a ++ (b ++ (c ++ (d ++ (e ++ (f ++ g))))) ≡ (a ++ b ++ c ++ d) ++ (e ++ (f ++ g))
    append_more = pieces_4 a b c (d ++ (e ++ (f ++ g))) ∙ sym (append_assoc (a ++ b ++ c) d (e ++ (f ++ g)))

pub line_of_number : (number : Number) (name : List ℕ) → name ≡ name_of number → codes "words: " ++ (name ++ codes " out of range\n") ≡ line_of_cause (number_out_of_range number)
line_of_number Quantum name is = rw is refl
line_of_number Pages name is = rw is refl
line_of_number Steps name is = rw is refl
line_of_number Statement name is = rw is refl
line_of_number Seed name is = rw is refl
line_of_number Rows name is = rw is refl
line_of_number Null name is = rw is refl
line_of_number Parts name is = rw is refl
