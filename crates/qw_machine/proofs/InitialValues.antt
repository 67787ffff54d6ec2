-- The values that globals begin with, one after another.
use Rattle.std.proofs.Common.{◌≡◌, ◌∙◌, ℕ, ◌+◌, ◌<◌, List, [], ◌∷◌, ◌++◌, length, get_or, map, take, sym, ap, ap₂, add-one}
use Rattle.std.proofs.lemmas.List.{map_push}
use Rattle.std.proofs.Math.Seq.{take-suc}
use Rattle.qw_module.specs.declared.module.Global.{Global}
use Rattle.qw_module.specs.Start.{initial_value}
use Rattle.qw_module.specs.Validity.{code_of_body}

abbrev pub value_at_first : Global → ℕ
value_at_first global = initial_value (code_of_body global.init)

pub one_more_value : (globals : List Global) (i : ℕ) (global : Global) (value : ℕ) (values more : List ℕ) → i < length globals → global ≡ get_or globals i global →
    value ≡ value_at_first global → values ≡ map value_at_first (take i globals) → more ≡ values ++ value ∷ [] → more ≡ map value_at_first (take (i + 1) globals)
one_more_value globals i global value values more inside read is before pushed =
    let taken : take (i + 1) globals ≡ take i globals ++ global ∷ [] =
    ap (λ n. take n globals) (add-one i) ∙ take-suc globals i global inside ∙ ap (λ (g : Global). take i globals ++ g ∷ []) (sym read) in
    pushed ∙ ap₂ (λ (xs : List ℕ) (v : ℕ). xs ++ v ∷ []) before is ∙ sym (map_push value_at_first (take i globals) global) ∙ ap (map value_at_first) (sym taken)
