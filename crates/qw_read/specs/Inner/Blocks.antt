-- Mirrors `src/begin.rt` and `src/read.rt`: the statements whose steps their functions add.
use Rattle.std.specs.Prelude.{ℕ, ◌+◌, not, Bool, true, false, List, [], ◌∷◌, Option, Some, None}
use Rattle.qw_types.specs.declared.value.Ty.{Ty}
use Rattle.qw_types.specs.declared.value.Ty.TheVariants as ty
use Rattle.qw_module.specs.declared.instruction.ValType.TheVariants.{I32, I64}
use Rattle.qw_module.specs.declared.instruction.Sign.TheVariants.{Signed, Unsigned}
use Rattle.qw_module.specs.declared.instruction.Const.TheVariants as const
use Rattle.qw_module.specs.declared.instruction.Binary.TheVariants.{And, Shr, Sub}
use Rattle.qw_module.specs.declared.instruction.Load.TheVariants.{Full, From8, I64From32}
use Rattle.qw_map.specs.Layout.{entry_offset, is_text}
use Rattle.qw_low.specs.Syntax.{Expression, constant_of, local, binop, advance, retreat, Statement, skip, seq, assign, load}
use Rattle.qw_read.specs.declared.reader.Reader.{Reader}

abbrev pub i32 : ℕ → Expression
i32 x = constant_of (const.I32 x)

-- ---- the addresses of a column's parts
-- the address at an offset of the first page, where it is wanted
abbrev pub base_block : Bool → (to offset : ℕ) → Statement
base_block true to offset = load to (Full I32) offset (local 0)
base_block false to offset = skip

-- from where the values begin to where they end
abbrev pub end_at : Ty → Reader → Expression
end_at ty.Integer r = advance (local r.values) (local r.end)
end_at (ty.Decimal precision scale) r = advance (advance (local r.values) (local r.end)) (local r.end)
end_at ty.Date r = advance (local r.values) (local r.end)
end_at (ty.Varchar limit) r = advance (local r.values) (local r.end)

abbrev pub to_end_block : Ty → Reader → Statement
to_end_block type r = assign r.values (end_at type r)

abbrev pub begin_block : Reader → Statement
begin_block r =
    seq (base_block true r.values (entry_offset r.index))
    (seq (to_end_block r.ty r)
    (seq (base_block (is_text r.ty) r.octets (entry_offset r.index + 8)) (base_block (not r.not_null) r.nulls (entry_offset r.index + 4))))

-- ---- a row's value
abbrev pub word_at : Reader → Expression
word_at r = retreat (local r.values) (local r.left)

abbrev pub word_block : Reader → Statement
word_block r = load r.cell.value (I64From32 Signed) 0 (word_at r)

abbrev pub double_block : Reader → Statement
double_block r = load r.cell.value (Full I64) 0 (retreat (word_at r) (local r.left))

abbrev pub text_block : Reader → Statement
text_block r =
    seq (load r.cell.value (Full I32) 0 (word_at r))
    (seq (load r.cell.length (Full I32) 4 (word_at r))
    (seq (assign r.cell.length (binop I32 Sub (local r.cell.length) (local r.cell.value)))
    (assign r.cell.value (advance (local r.octets) (local r.cell.value)))))

abbrev pub value_block : Ty → Reader → Statement
value_block ty.Integer r = word_block r
value_block (ty.Decimal precision scale) r = double_block r
value_block ty.Date r = word_block r
value_block (ty.Varchar limit) r = text_block r

-- four times the row
abbrev pub row_at : Reader → Expression
row_at r = binop I32 Sub (local r.end) (local r.left)

-- its null bit: of the octet that has it, the bit of the row
abbrev pub null_bit : Reader → (null : ℕ) → Expression
null_bit r null =
    binop I32 And (binop I32 (Shr Unsigned) (local null) (binop I32 And (binop I32 (Shr Unsigned) (row_at r) (i32 2)) (i32 7))) (i32 1)

abbrev pub null_block : Option ℕ → Reader → Statement
null_block None r = skip
null_block (Some null) r =
    seq (load null (From8 I32 Unsigned) 0 (advance (local r.nulls) (binop I32 (Shr Unsigned) (row_at r) (i32 5)))) (assign null (null_bit r null))

abbrev pub read_block : Reader → Statement
read_block r = seq (null_block r.cell.null r) (value_block r.ty r)

-- ---- several, one after another
abbrev pub each_block : {A : Type 0} → (A → Statement) → List A → Statement
each_block f [] = skip
each_block f (x ∷ xs) = seq (f x) (each_block f xs)

abbrev pub begins_block : List Reader → Statement
begins_block readers = each_block begin_block readers

abbrev pub reads_block : List Reader → Statement
reads_block readers = each_block read_block readers
