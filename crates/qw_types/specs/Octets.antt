-- The octets of characters that a definition names (ISO/IEC 9075:1992, 5.1 "SQL language character"), in ASCII.
use Rattle.std.specs.Prelude.{ℕ}

abbrev pub tab : ℕ
tab = 9

abbrev pub line_feed : ℕ
line_feed = 10

abbrev pub carriage_return : ℕ
carriage_return = 13

abbrev pub space : ℕ
space = 32

abbrev pub double_quote : ℕ
double_quote = 34

abbrev pub single_quote : ℕ
single_quote = 39

abbrev pub plus : ℕ
plus = 43

abbrev pub minus : ℕ
minus = 45

abbrev pub period : ℕ
period = 46

abbrev pub less_than : ℕ
less_than = 60

abbrev pub equals_sign : ℕ
equals_sign = 61

abbrev pub greater_than : ℕ
greater_than = 62

abbrev pub underscore : ℕ
underscore = 95
