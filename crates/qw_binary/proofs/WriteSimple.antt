-- What is put by grammars of a few parts.
use Rattle.std.proofs.Common.{◌≡◌, ℕ, ◌==◌, ◌+◌, ◌-◌, ◌^◌, ◌<◌, ◌≤◌, Bool, true, nat_lt, List, [], ◌∷◌, ◌++◌, length, get_or, map, take, codes, Some, None, Result, Ok, Err, refl, sym, ap, subst, ◌∙◌, arith, add-one}
use Rattle.std.proofs.lemmas.Bool.{eq-eqb}
use Rattle.std.proofs.lemmas.List.{length-map, length-take-le, get_or-map, take_all}
use Rattle.std.proofs.Math.Seq.{take-suc}
use Rattle.qw_octet_grammar.specs.declared.fault.BinaryFault.{BinaryFault}
use Rattle.qw_octet_grammar.specs.declared.fault.BinaryFault.TheVariants.{NotModule}
use Rattle.qw_octet_grammar.specs.Grammar.{is, refuse, after, pick, settle, Spells}
use Rattle.qw_octet_grammar.specs.Numbers.{u32}
use Rattle.qw_octet_grammar.specs.Vectors.{counted, vector, name}
use Rattle.qw_octet_grammar.specs.Writing.{Puts}
use Rattle.qw_octet_grammar.specs.Inner.Awaiting.{Awaits}
use Rattle.qw_octet_grammar.proofs.WriteLaws.{puts_is, puts_octet, puts_after, puts_made, puts_within, spelled, spells_first, awaits_behind, awaits_next, awaits_all}
use Rattle.qw_module.specs.declared.instruction.ValType.{ValType}
use Rattle.qw_module.specs.declared.instruction.MemArg.{MemArg}
use Rattle.qw_module.specs.declared.module.Limits.{Limits}
use Rattle.qw_module.specs.declared.module.Import.{Import}
use Rattle.qw_module.specs.declared.module.Import.TheVariants as import
use Rattle.qw_module.specs.declared.module.Locals.{Locals}
use Rattle.qw_module.specs.declared.module.Function.{Function}
use Rattle.qw_module.specs.declared.module.ExportKind.{ExportKind}
use Rattle.qw_module.specs.Syntax.{Sequences}
use Rattle.qw_binary.specs.Types.{val_type, func_type, limits, limits_from, mutability}
use Rattle.qw_binary.specs.Instructions.{mem_arg, mem_arg_from, expression}
use Rattle.qw_binary.specs.Contents.{FunctionContents, function_contents}
use Rattle.qw_binary.specs.Sections.{Imported, memory, named_by, names, function_import, described, import_behind, next_import, imports, global_from, kind_by, export_kind, export, locals_from, locals_run, locals_count, locals, code, next_function, functions}
use Rattle.qw_binary.specs.Sections.{global as global_grammar}
use Rattle.qw_binary.specs.Inner.Parts.{MakesKind, type_index_of}
use Rattle.qw_binary.proofs.WriteCodes.{puts_by}

pub puts_mem_arg : (arg : MemArg) (old mid new : List ℕ) → Puts u32 arg.align old mid → Puts u32 arg.offset mid new → Puts mem_arg arg old new
puts_mem_arg arg old mid new p q =
    puts_after u32 (λ align. after u32 (λ offset. is (mem_arg_from align offset))) arg.align arg old mid new p (puts_made u32 (λ offset. mem_arg_from arg.align offset) arg.offset mid new q)

pub puts_func_type : (params results : List ValType) (old mid new : List ℕ) → Puts (vector val_type) params (old ++ 0x60 ∷ []) mid → Puts (vector val_type) results mid new → Puts func_type (record { params = params; results = results }) old new
puts_func_type params results old mid new p q =
    puts_octet _ 0x60 (record { params = params; results = results }) old new
    (puts_after (vector val_type) _ params (record { params = params; results = results }) (old ++ 0x60 ∷ []) mid new p (puts_made (vector val_type) (λ results. record { params = params; results = results }) results mid new q))

pub puts_least : (min : ℕ) (old new : List ℕ) → Puts u32 min (old ++ 0x00 ∷ []) new → Puts limits (record { min = min; max = None }) old new
puts_least min old new p = puts_octet _ 0x00 (limits_from min None) old new (puts_made u32 (λ min. limits_from min None) min (old ++ 0x00 ∷ []) new p)

pub puts_both : (min max : ℕ) (old mid new : List ℕ) → Puts u32 min (old ++ 0x01 ∷ []) mid → Puts u32 max mid new → Puts limits (record { min = min; max = Some max }) old new
puts_both min max old mid new p q =
    puts_octet _ 0x01 (limits_from min (Some max)) old new
    (puts_after u32 _ min (limits_from min (Some max)) (old ++ 0x01 ∷ []) mid new p (puts_made u32 (λ max. limits_from min (Some max)) max mid new q))

pub puts_global : (type : ValType) (mutable : Bool) (init : Sequences) (old first second new : List ℕ) → Puts val_type type old first → Puts mutability mutable first second → Puts expression init second new
    → Puts global_grammar (record { type = record { type = type; mutable = mutable }; init = init }) old new
puts_global type mutable init old first second new p q s =
    puts_after val_type _ type (global_from type mutable init) old first new p
    (puts_after mutability _ mutable (global_from type mutable init) first second new q (puts_made expression (λ init. global_from type mutable init) init second new s))

pub puts_kind : (b index : ℕ) (kind : ExportKind) (old new : List ℕ) → MakesKind (kind_by b) index kind → Puts u32 index (old ++ b ∷ []) new → Puts export_kind kind old new
puts_kind b index kind old new m p = made (kind_by b) refl m
  where
    made : (found : Result (ℕ → ExportKind) BinaryFault) → kind_by b ≡ found → MakesKind found index kind → Puts export_kind kind old new
    made (Ok make) e same =
        puts_after _ (λ make. after u32 (λ index. is (make index))) make kind old (old ++ b ∷ []) new (puts_by kind_by b make old e)
        (subst (λ k. Puts (after u32 (λ index. is (make index))) k (old ++ b ∷ []) new) same (puts_made u32 (λ index. make index) index (old ++ b ∷ []) new p))
    made (Err fault) e none = absurd none

pub puts_export : (text : List ℕ) (kind : ExportKind) (old mid new : List ℕ) → Puts name text old mid → Puts export_kind kind mid new → Puts export (record { name = text; kind = kind }) old new
puts_export text kind old mid new p q =
    puts_after name _ text (record { name = text; kind = kind }) old mid new p (puts_made export_kind (λ kind. record { name = text; kind = kind }) kind mid new q)

pub puts_run : (run : Locals) (old mid new : List ℕ) → Puts u32 run.count old mid → Puts val_type run.ty mid new → Puts locals_run run old new
puts_run run old mid new p q = puts_after u32 _ run.count run old mid new p (puts_made val_type (λ type. locals_from run.count type) run.ty mid new q)

pub puts_locals : (runs : List Locals) (old new : List ℕ) → nat_lt (locals_count runs) (2 ^ 32) ≡ true → Puts (vector locals_run) runs old new → Puts locals runs old new
puts_locals runs old new few p =
    puts_after (vector locals_run) (λ runs. pick (nat_lt (locals_count runs) (2 ^ 32)) (is runs) (refuse NotModule)) runs runs old new new p
    (subst (λ b. Puts (pick b (is runs) (refuse NotModule)) runs new new) (sym few) (puts_is runs new))

pub puts_code : (index : ℕ) (runs : List Locals) (body : Sequences) (old mid inner-locals inner : List ℕ) → Puts locals runs [] inner-locals → Puts expression body inner-locals inner → Puts u32 (length inner) old mid
    → Puts (code index) (record { type_index = index; locals = runs; body = body }) old (mid ++ inner)
puts_code index runs body old mid inner-locals inner p q s =
    let made : FunctionContents = record { type_index = index; locals = runs; body = body } in
    let g = after locals (λ runs. after expression (λ body. is (record { type_index = index; locals = runs; body = body }))) in
    puts_within g made inner old mid s
    (spelled g made inner (puts_after locals _ runs made [] inner-locals inner p (puts_made expression (λ body. record { type_index = index; locals = runs; body = body }) body inner-locals inner q)))

-- ---- the codes of functions

pub codes_begin : (all : List Function) (old new : List ℕ) → Puts u32 (length all) old new → Awaits (functions (map type_index_of all)) (counted (length all - 0) (next_function (map type_index_of all)) (take 0 (map function_contents all))) old new
unfolding Awaits
codes_begin all old new p = λ x text s.
    let indices : List ℕ = map type_index_of all in
    let k : length all - 0 ≡ length all = omega arith in
    let e : (length all == length indices) ≡ true = eq-eqb (length all) (length indices) (sym (length-map all type_index_of)) in
    awaits_behind u32 (λ n. pick (n == length indices) (counted n (next_function indices) []) (refuse NotModule)) (length all) old new p x text
    (spells_first (length all == length indices) (counted (length all) (next_function indices) []) (refuse NotModule) x text e (subst (λ n. Spells (counted n (next_function indices) []) x text) k s))

pub codes_next : (all : List Function) (i : ℕ) (d : Function) (old now new : List ℕ) → i < length all
    → Awaits (functions (map type_index_of all)) (counted (length all - i) (next_function (map type_index_of all)) (take i (map function_contents all))) old now
    → Puts (code (get_or all i d).type_index) (function_contents (get_or all i d)) now new
    → Awaits (functions (map type_index_of all)) (counted (length all - (i + 1)) (next_function (map type_index_of all)) (take (i + 1) (map function_contents all))) old new
codes_next all i d old now new lt a p =
    let indices : List ℕ = map type_index_of all in
    let cs : List FunctionContents = map function_contents all in
    let long : length cs ≡ length all = length-map all function_contents in
    let place : length (take i cs) ≡ i = length-take-le i cs (omega (arith, lt, long)) in
    let index : get_or indices i 0 ≡ (get_or all i d).type_index = get_or-map type_index_of all i d 0 lt in
    let got : get_or cs i (function_contents d) ≡ function_contents (get_or all i d) = get_or-map function_contents all i d (function_contents d) lt in
    let one : Puts (code (get_or indices (length (take i cs)) 0)) (function_contents (get_or all i d)) now new = rw (place, index) p in
    let e : take (i + 1) cs ≡ take i cs ++ function_contents (get_or all i d) ∷ [] =
    ap (λ n. take n cs) (add-one i) ∙ take-suc cs i (function_contents d) (omega (arith, lt, long)) ∙ ap (λ y. take i cs ++ y ∷ []) got in
    awaits_next (functions indices) (next_function indices) (length all) i (take i cs) (take (i + 1) cs) old now new lt a
    (subst (λ w. Puts (next_function indices (take i cs)) w now new) (sym e)
    (puts_made (code (get_or indices (length (take i cs)) 0)) (λ x. take i cs ++ x ∷ []) (function_contents (get_or all i d)) now new one))

pub codes_end : (all : List Function) (i : ℕ) (old now : List ℕ) → i ≡ length all
    → Awaits (functions (map type_index_of all)) (counted (length all - i) (next_function (map type_index_of all)) (take i (map function_contents all))) old now
    → Puts (functions (map type_index_of all)) (map function_contents all) old now
codes_end all i old now at a =
    let cs : List FunctionContents = map function_contents all in
    let whole : take i cs ≡ cs = take_all i cs (omega (arith, at, length-map all function_contents)) in
    subst (λ w. Puts (functions (map type_index_of all)) w old now) whole
    (awaits_all (functions (map type_index_of all)) (next_function (map type_index_of all)) (length all) i (take i cs) old now (omega (arith, at)) a)

-- what a loop that puts them cites
pub ruleset codes_put = (codes_begin, codes_next, codes_end)

-- ---- imports

pub puts_names : (before : List Import) (one : Imported) (text old a new : List ℕ) → named_by before (codes "q") text ≡ Ok one → Puts name (codes "q") old a → Puts name text a new → Puts (names before) one old new
puts_names before one text old a new named p q =
    puts_after name _ (codes "q") one old a new p
    (puts_after name (λ text. settle (named_by before (codes "q") text)) text one a new new q (subst (λ r. Puts (settle r) one new new) (sym named) (puts_is one new)))

pub puts_function_import : (make : ℕ → Import) (type : ℕ) (old new : List ℕ) → Puts u32 type (old ++ 0x00 ∷ []) new → Puts (function_import make) (make type) old new
puts_function_import make type old new p = puts_octet _ 0x00 (make type) old new (puts_made u32 make type (old ++ 0x00 ∷ []) new p)

pub puts_memory_import : (l : Limits) (old new : List ℕ) → Puts limits l (old ++ 0x02 ∷ []) new → Puts (described memory) (import.Memory l) old new
puts_memory_import l old new p = puts_octet _ 0x02 (import.Memory l) old new (puts_made limits (λ l. import.Memory l) l (old ++ 0x02 ∷ []) new p)

pub puts_import : (before : List Import) (one : Imported) (x : Import) (old mid new : List ℕ) → Puts (names before) one old mid → Puts (described one) x mid new → Puts (import_behind before) x old new
puts_import before one x old mid new p q = puts_after (names before) described one x old mid new p q

pub imports_begin : (all : List Import) (old new : List ℕ) → Puts u32 (length all) old new → Awaits imports (counted (length all - 0) next_import (take 0 all)) old new
imports_begin all old new p =
    let k : length all - 0 ≡ length all = omega arith in
    subst (λ n. Awaits imports (counted n next_import []) old new) (sym k) (awaits_behind u32 (λ n. counted n next_import []) (length all) old new p)

pub imports_next : (all : List Import) (i : ℕ) (d : Import) (old now new : List ℕ) → i < length all → Awaits imports (counted (length all - i) next_import (take i all)) old now → Puts (import_behind (take i all)) (get_or all i d) now new
    → Awaits imports (counted (length all - (i + 1)) next_import (take (i + 1) all)) old new
imports_next all i d old now new lt a p =
    let e : take (i + 1) all ≡ take i all ++ get_or all i d ∷ [] = ap (λ n. take n all) (add-one i) ∙ take-suc all i d lt in
    awaits_next imports next_import (length all) i (take i all) (take (i + 1) all) old now new lt a
    (subst (λ w. Puts (next_import (take i all)) w now new) (sym e) (puts_made (import_behind (take i all)) (λ x. take i all ++ x ∷ []) (get_or all i d) now new p))

pub imports_end : (all : List Import) (i : ℕ) (old now : List ℕ) → length all ≤ i → Awaits imports (counted (length all - i) next_import (take i all)) old now → Puts imports all old now
imports_end all i old now le a =
    let whole : take i all ≡ all = take_all i all le in
    subst (λ w. Puts imports w old now) whole (awaits_all imports next_import (length all) i (take i all) old now le a)
