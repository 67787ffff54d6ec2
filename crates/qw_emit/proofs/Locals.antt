-- The types of declared locals, and locals that begin as 0.
use Rattle.std.proofs.Common.{◌≡◌, ℕ, zero, suc, ◌+◌, ◌<◌, List, [], ◌∷◌, ◌++◌, arith, length, replicate, take, get_or, refl, sym, ap, ◌∙◌, append_assoc}
use Rattle.std.proofs.lemmas.List.{take_more}
use Rattle.qw_module.specs.declared.instruction.ValType.{ValType}
use Rattle.qw_module.specs.declared.module.Locals.{Locals}
use Rattle.qw_module.specs.Validity.{declared_types}
use Rattle.qw_map.specs.Areas.{World}
use Rattle.qw_low.specs.State.{Number}
use Rattle.qw_low.specs.Places.{AreMeant}

declared_types-append : (runs more : List Locals) → declared_types (runs ++ more) ≡ declared_types runs ++ declared_types more
declared_types-append [] more = refl
declared_types-append (run ∷ runs) more =
    ap (λ (types : List ValType). replicate run.count run.ty ++ types) (declared_types-append runs more)
    ∙ sym (append_assoc (replicate run.count run.ty) (declared_types runs) (declared_types more))

-- one local more, as a run of its own or in the last run
pub declared_types-single : (runs : List Locals) (ty : ValType) → declared_types (runs ++ record { count = 1; ty = ty } ∷ []) ≡ declared_types runs ++ ty ∷ []
declared_types-single runs ty = declared_types-append runs (record { count = 1; ty = ty } ∷ [])

replicate-last : (n : ℕ) (ty : ValType) → replicate (n + 1) ty ++ [] ≡ (replicate n ty ++ []) ++ ty ∷ []
replicate-last zero ty = refl
replicate-last (suc n) ty =
    let next : suc n + 1 ≡ suc (n + 1) = omega arith in
    ap (λ (k : ℕ). replicate k ty ++ []) next ∙ ap (λ (types : List ValType). ty ∷ types) (replicate-last n ty)

pub declared_types-longer : (runs : List Locals) (run : Locals) → declared_types (runs ++ record { count = run.count + 1; ty = run.ty } ∷ []) ≡ declared_types (runs ++ run ∷ []) ++ run.ty ∷ []
declared_types-longer runs run =
    declared_types-append runs (record { count = run.count + 1; ty = run.ty } ∷ [])
    ∙ ap (λ (types : List ValType). declared_types runs ++ types) (replicate-last run.count run.ty)
    ∙ sym (append_assoc (declared_types runs) (replicate run.count run.ty ++ []) (run.ty ∷ []))
    ∙ ap (λ (types : List ValType). types ++ run.ty ∷ []) (sym (declared_types-append runs (run ∷ [])))

pub declared_types-next : (old new : List Locals) (types : List ValType) (i : ℕ) (d : ValType) → i < length types → declared_types old ≡ take i types →
    declared_types new ≡ declared_types old ++ get_or types i d ∷ [] → declared_types new ≡ take (i + 1) types
declared_types-next old new types i d within before added = added ∙ rw before (sym (take_more types i d within))

-- zeros mean zeros
pub zeros-meant : (w : World) (n : ℕ) → AreMeant w (replicate n (Number 0)) (replicate n 0)
zeros-meant w zero = tt
zeros-meant w (suc n) = (refl, zeros-meant w n)
