-- Mirrors `over.rt`: what the sections of a module hold, read with nothing kept of it.
use Rattle.std.specs.Prelude.{ℕ, ◌+◌, ◌^◌, ◌==◌, false, nat_lt}
use Rattle.qw_octet_grammar.specs.declared.fault.BinaryFault.TheVariants.{NotModule}
use Rattle.qw_octet_grammar.specs.Grammar.{Grammar, is, refuse, octet, after, within, pick}
use Rattle.qw_octet_grammar.specs.Numbers.{u32}
use Rattle.qw_octet_grammar.specs.Vectors.{counted, name}
use Rattle.qw_binary.specs.Types.{val_type, limits, mutability}
use Rattle.qw_binary.specs.Sections.{imports, export_kind}
use Rattle.qw_scan.specs.declared.over.Item.{Item}
use Rattle.qw_scan.specs.declared.over.Item.TheVariants.{FuncType, Memory, Global, Export, Code}
use Rattle.qw_scan.specs.Inner.Passing.{over, all_over, vector_over}
use Rattle.qw_scan.specs.Inner.Shapes.{shapes}

abbrev pub types_over : Grammar (Unit {0})
types_over = vector_over (over val_type)

abbrev pub type_over : Grammar (Unit {0})
type_over = octet (λ b. pick (b == 0x60) (after types_over (λ params. types_over)) (refuse NotModule))

abbrev pub global_over : Grammar (Unit {0})
global_over = after val_type (λ type. after mutability (λ mutable. shapes))

abbrev pub export_over : Grammar (Unit {0})
export_over = after name (λ text. over export_kind)

-- a run of locals, behind so many
abbrev pub run_over : ℕ → Grammar ℕ
run_over before = after u32 (λ count. after val_type (λ type. is (before + count)))

-- locals, and how many there are
abbrev pub runs_over : Grammar ℕ
runs_over = after u32 (λ n. counted n run_over 0)

abbrev pub locals_over : Grammar (Unit {0})
locals_over = after runs_over (λ count. pick (nat_lt count (2 ^ 32)) (is tt) (refuse NotModule))

abbrev pub code_over : Grammar (Unit {0})
code_over = after u32 (λ size. within size false (after locals_over (λ locals. shapes)))

-- what a section holds a vector of
abbrev pub item_over : Item → Grammar (Unit {0})
item_over FuncType = type_over
item_over Memory = over limits
item_over Global = global_over
item_over Export = export_over
item_over Code = code_over

-- the codes of so many functions
abbrev pub codes_over : ℕ → Grammar (Unit {0})
codes_over own = after u32 (λ n. pick (n == own) (all_over n code_over) (refuse NotModule))

-- what a section of this id holds, of a module with so many functions of its own
abbrev pub content_over : (own id : ℕ) → Grammar (Unit {0})
content_over own id =
    pick (id == 1) (vector_over type_over)
    (pick (id == 2) (over imports)
    (pick (id == 3) (vector_over (over u32))
    (pick (id == 5) (vector_over (over limits))
    (pick (id == 6) (vector_over global_over)
    (pick (id == 7) (vector_over export_over)
    (pick (id == 10) (codes_over own)
    (refuse NotModule)))))))
