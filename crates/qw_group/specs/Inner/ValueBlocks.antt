-- Mirrors `src/value.rt`: the statements whose steps its functions add. The locals from f on are the block's own.
use Rattle.std.specs.Prelude.{ℕ, ◌+◌}
use Rattle.qw_types.specs.declared.kind.Kind.{Kind}
use Rattle.qw_types.specs.declared.kind.Kind.TheVariants as kind
use Rattle.qw_grouped.specs.declared.set_function.SetFunctionKind.{SetFunctionKind}
use Rattle.qw_grouped.specs.declared.set_function.SetFunctionKind.TheVariants.{CountRows, Count, Sum, Avg, Min, Max}
use Rattle.qw_module.specs.declared.instruction.ValType.TheVariants.{I32, I64}
use Rattle.qw_module.specs.declared.instruction.Load.TheVariants as loads
use Rattle.qw_low.specs.Syntax.{local, is_zero, Statement, skip, seq, assign, load, conditional}
use Rattle.qw_group.specs.Inner.WideBlocks.{fit_block, averaging_block}

-- the number of values that were taken
abbrev pub count_read : (e at x : ℕ) → Statement
count_read e at x = load x (loads.Full I64) (at + 16) (local e)

-- where one was taken at least; local x has their number, local f whether there is none
abbrev pub where_taken : (e at x f : ℕ) → (known : Statement) → Statement
where_taken e at x f known = seq (count_read e at x) (seq (assign f (is_zero I64 (local x))) (conditional (local f) skip known))

abbrev pub words_read : (e at n : ℕ) → Statement
words_read e at n = seq (load n (loads.Full I64) at (local e)) (load (n + 1) (loads.Full I64) (at + 8) (local e))

abbrev pub sum_known : (e at f : ℕ) → Statement
sum_known e at f = seq (words_read e at (f + 4)) (seq (fit_block (f + 4)) (assign (f + 1) (local (f + 4))))

abbrev pub average_known : (e at f : ℕ) → Statement
average_known e at f = seq (words_read e at (f + 4)) (seq (averaging_block (f + 3) (f + 1)) (assign (f + 1) (local (f + 4))))

abbrev pub chosen_known : Kind → (e at f : ℕ) → Statement
chosen_known (kind.Number s) e at f = load (f + 1) (loads.Full I64) at (local e)
chosen_known kind.Date e at f = load (f + 1) (loads.Full I64) at (local e)
chosen_known kind.Text e at f = seq (load (f + 1) (loads.Full I32) at (local e)) (load (f + 2) (loads.Full I32) (at + 4) (local e))

abbrev pub value_block : SetFunctionKind → Kind → (e at f : ℕ) → Statement
value_block CountRows kd e at f = count_read e at (f + 1)
value_block Count kd e at f = count_read e at (f + 1)
value_block Sum kd e at f = where_taken e at (f + 1) f (sum_known e at f)
value_block Avg kd e at f = where_taken e at (f + 1) f (average_known e at f)
value_block Min kd e at f = where_taken e at (f + 4) f (chosen_known kd e at f)
value_block Max kd e at f = where_taken e at (f + 4) f (chosen_known kd e at f)
