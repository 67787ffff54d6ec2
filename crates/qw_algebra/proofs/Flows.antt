-- Flows.
use Rattle.std.proofs.Common.{◌≡◌, List, [], refl, ap₂, append-nil}
use Rattle.qw_types.specs.declared.code.Code.{Code}
use Rattle.qw_types.specs.declared.value.Val.{Val}
use Rattle.qw_meaning.specs.Flow.{Flow, codes_given, each, kept}
use Rattle.qw_algebra.proofs.Lists.{all_of_any, flat_map_none, flat_map_single}

pub same_flow : (a b : Flow (List Val)) → a.rows ≡ b.rows → a.codes ≡ b.codes → a ≡ b
same_flow a b rows codes = ap₂ (λ (r : List (List Val)) (c : List Code). record { rows = r; codes = c }) rows codes

-- a clause without a conjunct changes nothing
pub each_none : (f : Flow (List Val)) → each (kept []) f ≡ f
each_none f = same_flow (each (kept []) f) f (flat_map_single f.rows)
    (rw (flat_map_none (λ row. codes_given (kept [] row)) f.rows (all_of_any (λ row. codes_given (kept [] row) ≡ []) f.rows (λ row. refl))) (append-nil f.codes))
