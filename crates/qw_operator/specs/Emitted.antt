-- The blocks of conjuncts and of a select list, as they are emitted one after another.
use Rattle.std.specs.Prelude.{◌≡◌, ◌≤◌, ℕ, ◌+◌, List, [], ◌∷◌, ◌++◌, length, map, take}
use Rattle.qw_module.specs.declared.instruction.ValType.{ValType}
use Rattle.qw_scalar.specs.Expression.{Condition, Expression}
use Rattle.qw_low.specs.Steps.{steps_of}
use Rattle.qw_low.specs.Syntax.{Statement, seq}
use Rattle.qw_expr.specs.Bindings as bindings
use Rattle.qw_expr.specs.declared.emitter.Emitter.{Emitter}
use Rattle.qw_expr.specs.declared.known.Binding.{Binding}
use Rattle.qw_expr.specs.declared.operand.Operand.{Operand}
use Rattle.qw_expr.specs.declared.test.Test as exprs
use Rattle.qw_expr.specs.Computes.{Known, Computes}
use Rattle.qw_expr.specs.Emits.{free_of}
use Rattle.qw_expr.specs.Tests.{DecidesTest, tested}
use Rattle.qw_read.specs.Reading.{ReadsAll, known_of}
use Rattle.qw_read.specs.declared.reader.Reader.{Reader}
use Rattle.qw_feed.specs.Cells.{Source}
use Rattle.qw_feed.specs.Stages.{Test, Item, items_block, outs_of}
use Rattle.qw_operator.specs.Nesting.{opening, openings}

-- where a value that was computed is stored from
abbrev pub source_of : Operand → Source
source_of o = record { cell = o.cell; kind = o.kind }

abbrev pub sources_of : List Operand → List Source
sources_of [] = []
sources_of (o ∷ os) = source_of o ∷ sources_of os

-- what is known where so many columns have been read, in their order, beside the literals
abbrev pub known_after : (literals : List Known) → List Reader → (done : ℕ) → List Known
known_after literals readers done = literals ++ map known_of (take done readers)

-- a block reads the columns behind so many, up to others
pub record ReadsPart (readers : List Reader) (done upto : ℕ) (a : Statement) : Type 0 where
  pub part : List Reader
  pub part_is : take done readers ++ part ≡ take upto readers
  pub ahead : done ≤ upto
  pub within : upto ≤ length readers
  pub reads : ReadsAll part a

-- a block that reads the columns that are new with a condition, and then decides it
pub record IsDecided (literals : List Known) (readers : List Reader) (next done upto : ℕ) (c : Condition) (g : Test) (own : List ValType) : Type 0 where
  pub out : exprs.Test
  pub reads : Statement
  pub decides : Statement
  pub out_is : g.out ≡ tested out
  pub block_is : g.block ≡ seq reads decides
  pub reading : ReadsPart readers done upto reads
  pub deciding : DecidesTest (known_after literals readers upto) c next out decides own

-- So several, each with locals of its own behind those of the blocks before it; where each is decided so many columns are read.
abbrev pub AreDecided : (literals : List Known) → List Reader → (next done : ℕ) → (ends : List ℕ) → List Condition → List Test → List ValType → Type 0
AreDecided literals readers next done [] [] [] own = own ≡ []
AreDecided literals readers next done (e ∷ ends) (c ∷ cs) (g ∷ gs) own =
    (first : List ValType) × (rest : List ValType) × (own ≡ first ++ rest) × IsDecided literals readers next done e c g first × AreDecided literals readers (next + length first) e ends cs gs rest
AreDecided literals readers next done _ _ _ own = ⊥

-- from one state of an emitter to another such a block was added, and its choice was opened
pub record EmitsConjunct (literals : List Known) (readers : List Reader) (done upto : ℕ) (c : Condition) (old new : Emitter) : Type 0 where
  pub first_is : new.first ≡ old.first
  pub test : Test
  pub own : List ValType
  pub code_is : new.block.code.items ≡ old.block.code.items ++ (steps_of test.block ++ opening test.out)
  pub own_is : new.own.items ≡ old.own.items ++ own
  pub decided : IsDecided literals readers (free_of old) done upto c test own

-- what is known are so many literals, and behind them the columns
pub record AreOrdered (literals : ℕ) (readers : List Reader) (known : List Binding) : Type 0 where
  pub many : length known ≡ literals + length readers
  pub known_is : bindings.known_of known ≡ take literals (bindings.known_of known) ++ map known_of readers

-- how many columns are read where the last one is decided
abbrev pub last_end : (done : ℕ) → (ends : List ℕ) → ℕ
last_end done [] = done
last_end done (e ∷ ends) = last_end e ends

-- blocks that compute expressions, one after another
abbrev pub AreComputed : List Known → (next : ℕ) → List Expression → List Item → List ValType → Type 0
AreComputed known next [] [] own = own ≡ []
AreComputed known next (e ∷ es) (g ∷ gs) own =
    (out : Operand) × (first : List ValType) × (rest : List ValType) × (own ≡ first ++ rest) × (g.out ≡ source_of out) × Computes known e next out g.block first × AreComputed known (next + length first) es gs rest
AreComputed known next _ _ own = ⊥

-- From one state of an emitter to another the blocks of conjuncts were added, each within the one before, and the types of their locals;
-- so many columns are read there.
pub record EmitsTests (literals : List Known) (readers : List Reader) (cs : List Condition) (old new : Emitter) (done : ℕ) : Type 0 where
  pub first_is : new.first ≡ old.first
  pub tests : List Test
  pub ends : List ℕ
  pub own : List ValType
  pub code_is : new.block.code.items ≡ old.block.code.items ++ openings tests
  pub own_is : new.own.items ≡ old.own.items ++ own
  pub decided : AreDecided literals readers (free_of old) 0 ends cs tests own
  pub done_is : done ≡ last_end 0 ends

-- the blocks of a select list's items were added to an emitter, and the values are then in these operands
pub record EmitsItems (known : List Known) (es : List Expression) (old new : Emitter) (outs : List Operand) : Type 0 where
  pub first_is : new.first ≡ old.first
  pub items : List Item
  pub own : List ValType
  pub code_is : new.block.code.items ≡ old.block.code.items ++ steps_of (items_block items)
  pub own_is : new.own.items ≡ old.own.items ++ own
  pub computed : AreComputed known (free_of old) es items own
  pub outs_are : outs_of items ≡ sources_of outs
