-- Free space, from which rows and the entries of tables are placed one behind another, and the block that asks for a page where one
-- doesn't fit. The locals 1 and 2 are the first free address, and how many octets are free behind it.
use Rattle.std.specs.Prelude.{◌≡◌, ℕ, suc, ◌+◌, ◌-◌, ◌*◌, ◌≤◌, ◌⊎◌, length, Some, slice_get}
use Rattle.qw_linear.specs.Memory.{page}
use Rattle.qw_module.specs.declared.instruction.ValType.TheVariants.{I32}
use Rattle.qw_module.specs.declared.instruction.Sign.TheVariants.{Unsigned}
use Rattle.qw_module.specs.declared.instruction.Const.TheVariants as const
use Rattle.qw_module.specs.declared.instruction.Binary.TheVariants.{Sub}
use Rattle.qw_module.specs.declared.instruction.Relation.TheVariants.{Lt}
use Rattle.qw_module.specs.declared.instruction.Load.TheVariants as loads
use Rattle.qw_low.specs.Syntax.{Expression, constant_of, local, binop, relop, Statement, skip, seq, assign, load, conditional, request}
use Rattle.qw_low.specs.State.{Own, Number, Address, LowState}

-- a number of 32 bits
abbrev pub i32 : ℕ → Expression
i32 n = constant_of (const.I32 n)

-- free space begins where the descriptor says, which has so many octets of the first page
abbrev pub space_block : (descriptor_size : ℕ) → Statement
space_block descriptor_size = seq (load 1 (loads.Full I32) 0 (local 0)) (assign 2 (binop I32 Sub (i32 page) (i32 descriptor_size)))

-- another page where so many octets don't fit
abbrev pub room_block : (size : ℕ) → Statement
room_block size = conditional (relop I32 (Lt Unsigned) (local 2) (i32 size)) (seq (request (i32 1) 1) (assign 2 (i32 page))) skip

-- Free space begins at an offset of the last own part, and reads 0 up to the part's end. Each own part is a page, and there are no more of them than
-- pages held. A memory has at most 65,536 pages (WebAssembly Core Specification 1.0, 4.2.8), of which the first is no instance's own.
pub record HasRoom (part offset : ℕ) (s : LowState) : Type 0 where
  pub last : length s.own ≡ suc part
  pub pages : (k : ℕ) → k ≤ part → slice_get s.own k ≡ Some page
  pub within : offset ≤ page
  pub free : slice_get s.locals 1 ≡ Some (Address (Own part) offset)
  pub left : slice_get s.locals 2 ≡ Some (Number (page - offset))
  pub zeros : (a b : ℕ) → offset ≤ a → a + b ≤ page → s.cells (Own part) a b ≡ Some (Number 0)
  pub owned : length s.own ≤ s.held
  pub limited : s.held ≤ 65535
  pub few : s.limit ≤ 65535

-- What was placed pays for the pages held: `budget` is how many octets were placed, and `u` how many of a page are placed at least before
-- another one is asked for, which is a page less the greatest object. The first page, which has the descriptor, is free, and the last one
-- counts up to where free space begins.
abbrev pub Paid : (u budget offset held : ℕ) → Type 0
Paid u budget offset held = (held ≡ 1) ⊎ (held * u + offset ≤ budget + 2 * u)
