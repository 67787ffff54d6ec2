-- The instructions of a module's functions in the arrays that hold them.
use Rattle.std.proofs.Common.{◌≡◌, ◌≢◌, ℕ, ◌<◌, ◌≤◌, List, ◌^◌, [], length, get_or, Vec, Global, Option, None, Some, option_map, unwrap_or, slice_get, refl, sym, ap, ◌∙◌, subst, arith, vec_len}
use Rattle.std.proofs.lemmas.List.{length-map}
use Rattle.std.proofs.lemmas.Option.{slice_get-map, slice_get_read}
use Rattle.qw_module.specs.declared.instruction.Instr.{Instr}
use Rattle.qw_module.specs.declared.module.Module.{Module}
use Rattle.qw_module.specs.declared.module.Body.{Body}
use Rattle.qw_module.specs.declared.module.Function.{Function}
use Rattle.qw_module.specs.Start.{body_of}
use Rattle.qw_module.specs.Syntax.{Sequences, sequence_at}
use Rattle.qw_module.specs.Validity.{sequences_of}
use Rattle.qw_machine.specs.Inner.Points.{instructions_at}

-- a function that is read is there, so its body is the function's of that number
pub function-there : (m : Module) (number : ℕ) (function : Function) → number < length m.functions.items → function ≡ get_or m.functions.items number function →
    slice_get m.functions.items number ≡ Some function
function-there m number function inside read = slice_get_read m.functions.items (length m.functions.items) number function refl inside read

pub body-read : (m : Module) (number : ℕ) (function : Function) → number < length m.functions.items → function ≡ get_or m.functions.items number function →
    body_of m number ≡ sequences_of function.body
body-read m number function inside read = rw (function-there m number function inside read) refl

-- a sequence of a body is read in the array that holds it
pub array-there : (body : Body) (sequence : ℕ) → sequence < length (sequences_of body).each → sequence < length body.sequences.items
array-there body sequence inner =
    subst (λ (n : ℕ). sequence < n) (length-map body.sequences.items (λ (a : Vec Instr Global). a.items)) inner

pub array-read : (body : Body) (sequence : ℕ) (array : Vec Instr Global) → sequence < length (sequences_of body).each →
    array ≡ get_or body.sequences.items sequence array → sequence_at (sequences_of body) sequence ≡ array.items
array-read body sequence array inner read =
    let arrays : List (Vec Instr Global) = body.sequences.items in
    let there : slice_get arrays sequence ≡ Some array = slice_get_read arrays (length arrays) sequence array refl (array-there body sequence inner) read in
    rw (slice_get-map, there) refl

-- so its length and a number below 2 ^ 63 can be added
items-small : (array : Option (Vec Instr Global)) → length (unwrap_or (option_map (λ (a : Vec Instr Global). a.items) array) []) < 2 ^ 63
items-small None = omega arith
items-small (Some array) = omega (arith, array.ok.0, array.ok.1, array.small)

pub sequence-small : (body : Body) (sequence : ℕ) → length (sequence_at (sequences_of body) sequence) < 2 ^ 63
sequence-small body sequence = rw slice_get-map (items-small (slice_get body.sequences.items sequence))

-- and so is one of a function that is read
pub sequence-read : (m : Module) (number sequence : ℕ) (function : Function) (array : Vec Instr Global) → number < length m.functions.items →
    sequence < length (body_of m number).each → function ≡ get_or m.functions.items number function →
    array ≡ get_or function.body.sequences.items sequence array → instructions_at m number sequence ≡ array.items
sequence-read m number sequence function array inside inner read array_read =
    let body : body_of m number ≡ sequences_of function.body = body-read m number function inside read in
    let lower : sequence < length (sequences_of function.body).each = subst (λ (s : Sequences). sequence < length s.each) body inner in
    rw body (array-read function.body sequence array lower array_read)

-- an index at the end of its array is at the end of its sequence
pub index-end : (m : Module) (number sequence index : ℕ) (array : Vec Instr Global) → instructions_at m number sequence ≡ array.items →
    index ≡ vec_len array → index ≡ length (instructions_at m number sequence)
index-end m number sequence index array read ended = ended ∙ array.ok.0 ∙ ap length (sym read)

-- and one that isn't is before the end
pub index-unfinished : (m : Module) (number sequence index : ℕ) (array : Vec Instr Global) → instructions_at m number sequence ≡ array.items →
    index ≢ vec_len array → index ≤ length (instructions_at m number sequence) → index < length (instructions_at m number sequence)
index-unfinished m number sequence index array read unfinished within =
    let whole : length (instructions_at m number sequence) ≡ vec_len array = ap length read ∙ sym array.ok.0 in
    let apart : index ≢ length (instructions_at m number sequence) = λ e. unfinished (e ∙ whole) in
    omega arith
