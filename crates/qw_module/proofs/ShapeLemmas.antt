-- The shape of a module has one function as its `run`.
use Rattle.std.proofs.Common.{◌≡◌, ℕ, ◌+◌, ◌<◌, length, get_or, sym, ap, ◌∙◌, ⊎_elim, arith}
use Rattle.std.proofs.lemmas.Bool.{cases_lt}
use Rattle.std.proofs.lemmas.List.{get_or_read}
use Rattle.std.specs.List.{AllPairs}
use Rattle.std.specs.String.{string_bytes}
use Rattle.qw_module.specs.declared.module.Export.{Export}
use Rattle.qw_module.specs.declared.module.Module.{Module}
use Rattle.qw_module.specs.declared.module.ExportKind.TheVariants as kind
use Rattle.qw_module.specs.Validity.{imported_functions, HaveOtherNames, IsShaped}

-- of exports with different names no two have one name
pub same_index : (m : Module) → AllPairs HaveOtherNames m.exports.items → (i j : ℕ) (e f : Export) → i < length m.exports.items → j < length m.exports.items →
    get_or m.exports.items i e ≡ e → get_or m.exports.items j f ≡ f → string_bytes e.name ≡ string_bytes f.name → i ≡ j
same_index m apart i j e f inside there first second same = ⊎_elim
    (λ less. absurd (apart i j e less there (named e f i j first (other e f i j there second) same)))
    (λ most. ⊎_elim
    (λ more. absurd (apart j i e more inside (sym (named e f i j first (other e f i j there second) same))))
    (λ least. omega arith)
    (cases_lt j i))
    (cases_lt i j) where
      other : (e f : Export) (i j : ℕ) → j < length m.exports.items → get_or m.exports.items j f ≡ f → get_or m.exports.items j e ≡ f
      other e f i j there second = sym (get_or_read m.exports.items j f there (sym second) e)

      named : (e f : Export) (i j : ℕ) → get_or m.exports.items i e ≡ e → get_or m.exports.items j e ≡ f → string_bytes e.name ≡ string_bytes f.name →
          string_bytes (get_or m.exports.items i e).name ≡ string_bytes (get_or m.exports.items j e).name
      named e f i j first second same = ap (λ (x : Export). string_bytes x.name) first ∙ same ∙ sym (ap (λ (x : Export). string_bytes x.name) second)

pub shape-unique : (m : Module) → AllPairs HaveOtherNames m.exports.items → (a b : ℕ) → IsShaped m a → IsShaped m b → a ≡ b
shape-unique m apart a b one other =
    let e : Export = one.exported.0 in
    let f : Export = other.exported.0 in
    let at = one.exported.1 in
    let there = other.exported.1 in
    let index : at.0 ≡ there.0 = same_index m apart at.0 there.0 e f at.1 there.1 at.2 there.2 (one.exported.2 ∙ sym other.exported.2) in
    let same : e ≡ f = sym at.2 ∙ ap (λ (k : ℕ). get_or m.exports.items k e) index ∙ sym (get_or_read m.exports.items there.0 f there.1 (sym there.2) e) in
    let kinds : kind.Function (length (imported_functions m) + a) ≡ kind.Function (length (imported_functions m) + b) =
    sym one.exported.3 ∙ ap (λ (x : Export). x.kind) same ∙ other.exported.3 in
    let index : length (imported_functions m) + a ≡ length (imported_functions m) + b = cc kinds in
    omega arith
