-- Mirrors `src/null_test.rt`: the statements and the expression whose steps its functions add.
use Rattle.std.specs.Prelude.{ℕ, ◌+◌, List, [], ◌∷◌}
use Rattle.qw_module.specs.declared.instruction.ValType.TheVariants.{I32}
use Rattle.qw_module.specs.declared.instruction.Sign.TheVariants.{Unsigned}
use Rattle.qw_module.specs.declared.instruction.Binary.TheVariants.{And, Or, Shr}
use Rattle.qw_module.specs.declared.instruction.Load.TheVariants.{From8}
use Rattle.qw_low.specs.Syntax.{Expression, local, binop, is_zero, advance, Statement, skip, seq, assign, load}
use Rattle.qw_read.specs.declared.reader.Reader.{Reader}
use Rattle.qw_read.specs.Inner.Blocks.{i32, row_at}

-- the octets with the row's null bits, each column's in a local of its own
abbrev pub octet_block : Reader → (index to : ℕ) → Statement
octet_block r index to = load to (From8 I32 Unsigned) 0 (advance (local r.nulls) (local index))

abbrev pub octets_block : (index to : ℕ) → List Reader → Statement
octets_block index to [] = skip
octets_block index to (r ∷ readers) = seq (octet_block r index to) (octets_block index (to + 1) readers)

-- all of them joined, of one column and of others: the one that was loaded last comes first
abbrev pub joined : (to : ℕ) → List Reader → Expression
joined to [] = local to
joined to (r ∷ rest) = binop I32 Or (joined (to + 1) rest) (local to)

-- the row's bit in an octet, from four times the row
abbrev pub bit_at : (row : ℕ) → Expression
bit_at row = binop I32 And (binop I32 (Shr Unsigned) (local row) (i32 2)) (i32 7)

abbrev pub test_block : Reader → List Reader → (free : ℕ) → Statement
test_block first rest free =
    seq (assign free (row_at first))
    (seq (assign (free + 1) (binop I32 (Shr Unsigned) (local free) (i32 5)))
    (octets_block (free + 1) (free + 2) (first ∷ rest)))

abbrev pub test_out : List Reader → (free : ℕ) → Expression
test_out rest free = is_zero I32 (binop I32 And (binop I32 (Shr Unsigned) (joined (free + 2) rest) (bit_at free)) (i32 1))
