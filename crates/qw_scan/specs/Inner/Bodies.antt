-- Mirrors `check_bodies`: what the bodies of a module are typed under, by what it holds, and what their check answers.
use Rattle.std.specs.Prelude.{◌≡◌, ℕ, ◌+◌, List, ◌++◌, length, map, reverse, take, Some, slice_get, Result, Ok, Err}
use Rattle.std.specs.List.{AllByRecursion, filter_map}
use Rattle.qw_octet_grammar.specs.Grammar.{Grammar, is, after}
use Rattle.qw_module.specs.Syntax.{code_of}
use Rattle.qw_module.specs.Typing.{Signature, Outside}
use Rattle.qw_module.specs.Places.{Typing, tokens_of, IsTypable, IsRefusedAt}
use Rattle.qw_module.specs.Validity.{declared_types, imported_function, imported_memory}
use Rattle.qw_binary.specs.Instructions.{expression}
use Rattle.qw_binary.specs.Contents.{FunctionContents, GlobalContents, Contents}
use Rattle.qw_binary.specs.Sections.{locals}
use Rattle.qw_valid.specs.declared.valid.ValidFault.{ValidFault}
use Rattle.qw_valid.specs.declared.valid.ValidFault.TheVariants as fault
use Rattle.qw_scan.specs.declared.body.BodyFault.{BodyFault}
use Rattle.qw_scan.specs.declared.body.BodyFault.TheVariants as body
use Rattle.qw_scan.specs.declared.bodies.ModuleScope.{ModuleScope}
use Rattle.qw_scan.specs.Inner.Tables.{global_of, signature_in}

-- what a module has that its code may name, by what it holds
abbrev pub outside_by : Contents → Outside
outside_by c =
    record {
      functions = map (signature_in c.types) (filter_map imported_function c.imports ++ map (λ (f : FunctionContents). f.type_index) c.functions);
      globals = map (λ (g : GlobalContents). g.type) c.globals;
      memories = length (filter_map imported_memory c.imports ++ c.memories);
    }

-- the same, by its tables
abbrev pub outside_in : ModuleScope → Outside
outside_in scope =
    record {
      functions = map (signature_in scope.types.now) scope.functions.now;
      globals = map global_of scope.globals.now;
      memories = scope.memories;
    }

-- what the body of a function is typed under
abbrev pub typing_by : Outside → List Signature → FunctionContents → Typing
typing_by outside types f =
    let signature = signature_in types f.type_index in
    record { outside = outside; locals = signature.params ++ declared_types f.locals; results = reverse signature.results }

abbrev pub IsTyped : Outside → List Signature → FunctionContents → Type 0
IsTyped outside types f = IsTypable (typing_by outside types f) (tokens_of (code_of f.body))

-- what the check of a body answers
abbrev pub Judges : {X : Type 0} → Outside → List Signature → FunctionContents → Result X BodyFault → Type 0
Judges outside types f (Ok x) = IsTyped outside types f
Judges outside types f (Err (body.At at)) = IsRefusedAt (typing_by outside types f) (tokens_of (code_of f.body)) at
Judges outside types f (Err body.NoMemory) = Unit {0}

-- what the check of all bodies answers, of a module that imports so many functions
abbrev pub JudgesAll : Outside → List Signature → (imported : ℕ) → List FunctionContents → Result (Unit {0}) ValidFault → Type 0
JudgesAll outside types imported fs (Ok x) = AllByRecursion (IsTyped outside types) fs
JudgesAll outside types imported fs (Err (fault.Body func at)) =
    (number : ℕ) × (f : FunctionContents) × (func ≡ imported + number) × (slice_get fs number ≡ Some f) × AllByRecursion (IsTyped outside types) (take number fs)
    × IsRefusedAt (typing_by outside types f) (tokens_of (code_of f.body)) at
JudgesAll outside types imported fs (Err (fault.Part part)) = ⊥
JudgesAll outside types imported fs (Err fault.NoMemory) = Unit {0}

-- the code of a function, behind its size
abbrev pub code_held : (type_index : ℕ) → Grammar FunctionContents
code_held type_index = after locals (λ runs. after expression (λ body. is (record { type_index = type_index; locals = runs; body = body })))

-- the fault of the body of a function of an index
abbrev pub fault_in : ℕ → BodyFault → ValidFault
fault_in func (body.At at) = fault.Body func at
fault_in func body.NoMemory = fault.NoMemory
