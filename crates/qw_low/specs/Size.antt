-- How many instructions the code of Low has, a `local.tee` counted as the `local.set` and the `local.get` that it is.
use Rattle.std.specs.Prelude.{ℕ, ◌+◌, ◌*◌}
use Rattle.qw_low.specs.Syntax.{Statement, skip, seq, assign, load, store, conditional, while, request, raise, exit}
use Rattle.qw_low.specs.Meaning.{cost}

abbrev pub size : Statement → ℕ
size skip = 0
size (seq a b) = size a + size b
size (assign x e) = cost e + 1
size (load x l offset a) = cost a + 2
size (store st offset a e) = cost a + cost e + 1
size (conditional e a b) = cost e + 1 + (size a + size b)
size (while e a) = 2 * cost e + 3 + size a
size (request e x) = cost e + 12
size (raise code) = 2
size exit = 1
