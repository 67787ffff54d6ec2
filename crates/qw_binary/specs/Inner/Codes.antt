-- Mirrors the writer's tables of codes: which instruction a code is read as.
use Rattle.std.specs.Prelude.{◌≡◌, ℕ, ◌==◌, false, Option, Some, None, Ok}
use Rattle.std.specs.Option.{option_map}
use Rattle.qw_module.specs.declared.instruction.ValType.{ValType}
use Rattle.qw_module.specs.declared.instruction.Load.{Load}
use Rattle.qw_module.specs.declared.instruction.Store.{Store}
use Rattle.qw_module.specs.declared.instruction.Instr.{Instr}
use Rattle.qw_binary.specs.Instructions.{Opener, opener_by, indexed_by, load_by, store_by, plain_by}

-- a code that is no end and no else
pub record IsInside (code : ℕ) : Type 0 where
  pub no_end : (code == 0x0B) ≡ false
  pub no_else : (code == 0x05) ≡ false

-- a code that opens no sequence, and none of a br_table
pub record IsSimple (code : ℕ) : Type 0 where
  pub no_end : (code == 0x0B) ≡ false
  pub no_else : (code == 0x05) ≡ false
  pub opens_none : opener_by code ≡ None
  pub no_table : (code == 0x0E) ≡ false

pub record IsOpening (code : ℕ) (type : Option ValType) (opener : Opener) : Type 0 where
  pub inside : IsInside code
  pub opens : option_map (λ make. make type) (opener_by code) ≡ Some opener

pub record IsIndexed (code index : ℕ) (i : Instr) : Type 0 where
  pub simple : IsSimple code
  pub names : option_map (λ make. make index) (indexed_by code) ≡ Some i

pub record IsLoad (code : ℕ) (load : Load) : Type 0 where
  pub simple : IsSimple code
  pub no_index : indexed_by code ≡ None
  pub loads : load_by code ≡ Some load

pub record IsStore (code : ℕ) (store : Store) : Type 0 where
  pub simple : IsSimple code
  pub no_index : indexed_by code ≡ None
  pub no_load : load_by code ≡ None
  pub stores : store_by code ≡ Some store

pub record IsPlain (code : ℕ) (i : Instr) : Type 0 where
  pub simple : IsSimple code
  pub no_index : indexed_by code ≡ None
  pub no_load : load_by code ≡ None
  pub no_store : store_by code ≡ None
  pub no_size : (code == 0x3F) ≡ false
  pub no_growth : (code == 0x40) ≡ false
  pub no_i32 : (code == 0x41) ≡ false
  pub no_i64 : (code == 0x42) ≡ false
  pub plain : plain_by code ≡ Ok i
