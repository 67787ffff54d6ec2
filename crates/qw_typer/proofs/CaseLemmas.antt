-- The kind and the scale of a CASE, whose results are of one kind.
use Rattle.std.proofs.Common.{◌≡◌, ℕ, Bool, true, Option, Some, None, max, refl, sym, ap, ◌∙◌, arith}
use Rattle.std.proofs.lemmas.Bool.{and_parts}
use Rattle.qw_types.specs.declared.kind.Kind.{Kind}
use Rattle.qw_types.specs.declared.kind.Kind.TheVariants as kind
use Rattle.qw_scalar.specs.Expression.{Choices, case, cases, largest_result, otherwise, scale_of, when}
use Rattle.qw_scalar.specs.Typing.{agree, at_scale, joined, kind_of}
use Rattle.qw_typer.specs.Faults.{results_agree, results_kind}
use Rattle.qw_typer.specs.Inner.Typing.{AreScaled, IsScaled, kind_scale}

pub scaled_cases : (s : ℕ) (cs : Choices) → scale_of (cases s cs) ≡ s
scaled_cases s (otherwise e) = refl
scaled_cases s (when c e rest) = rw (scaled_cases s rest) (omega arith)

pub joined_at : (k other : Option Kind) (s : ℕ) → joined (at_scale k s) (at_scale other s) ≡ at_scale (joined k other) s
joined_at None other s = refl
joined_at (Some (kind.Number a)) None s = refl
joined_at (Some (kind.Number a)) (Some (kind.Number b)) s = let m : max s s ≡ s = omega arith in rw m refl
joined_at (Some (kind.Number a)) (Some kind.Date) s = refl
joined_at (Some (kind.Number a)) (Some kind.Text) s = refl
joined_at (Some kind.Date) other s = refl
joined_at (Some kind.Text) other s = refl

pub agree_at : (k other : Option Kind) (s : ℕ) → agree (at_scale k s) (at_scale other s) ≡ agree k other
agree_at None other s = refl
agree_at (Some (kind.Number a)) None s = refl
agree_at (Some (kind.Number a)) (Some (kind.Number b)) s = refl
agree_at (Some (kind.Number a)) (Some kind.Date) s = refl
agree_at (Some (kind.Number a)) (Some kind.Text) s = refl
agree_at (Some kind.Date) None s = refl
agree_at (Some kind.Date) (Some (kind.Number b)) s = refl
agree_at (Some kind.Date) (Some kind.Date) s = refl
agree_at (Some kind.Date) (Some kind.Text) s = refl
agree_at (Some kind.Text) None s = refl
agree_at (Some kind.Text) (Some (kind.Number b)) s = refl
agree_at (Some kind.Text) (Some kind.Date) s = refl
agree_at (Some kind.Text) (Some kind.Text) s = refl

pub kind_cases : (s : ℕ) (cs : Choices) → kind_of (cases s cs) ≡ at_scale (results_kind cs) s
kind_cases s (otherwise e) = refl
kind_cases s (when c e rest) = rw (kind_cases s rest) (joined_at (kind_of e) (results_kind rest) s)

scale_joined : (k other : Option Kind) → agree k other ≡ true → max (kind_scale k) (kind_scale other) ≡ kind_scale (joined k other)
scale_joined None other h = omega arith
scale_joined (Some (kind.Number a)) None h = omega arith
scale_joined (Some (kind.Number a)) (Some (kind.Number b)) h = refl
scale_joined (Some (kind.Number a)) (Some kind.Date) h = absurd cc
scale_joined (Some (kind.Number a)) (Some kind.Text) h = absurd cc
scale_joined (Some kind.Date) None h = refl
scale_joined (Some kind.Date) (Some (kind.Number b)) h = absurd cc
scale_joined (Some kind.Date) (Some kind.Date) h = refl
scale_joined (Some kind.Date) (Some kind.Text) h = absurd cc
scale_joined (Some kind.Text) None h = refl
scale_joined (Some kind.Text) (Some (kind.Number b)) h = absurd cc
scale_joined (Some kind.Text) (Some kind.Date) h = absurd cc
scale_joined (Some kind.Text) (Some kind.Text) h = refl

pub largest_is : (cs : Choices) → results_agree cs ≡ true → AreScaled cs → largest_result cs ≡ kind_scale (results_kind cs)
largest_is (otherwise e) a h = h
largest_is (when c e rest) a h =
    let (one, others) = and_parts (agree (kind_of e) (results_kind rest)) (results_agree rest) a in
    rw (h.0, largest_is rest others h.1) (scale_joined (kind_of e) (results_kind rest) one)

at_own_scale : (k : Option Kind) → at_scale k (kind_scale k) ≡ k
at_own_scale None = refl
at_own_scale (Some (kind.Number s)) = refl
at_own_scale (Some kind.Date) = refl
at_own_scale (Some kind.Text) = refl

pub kind_case : (cs : Choices) → results_agree cs ≡ true → AreScaled cs → kind_of (case cs) ≡ results_kind cs
kind_case cs a h = kind_cases (largest_result cs) cs ∙ ap (at_scale (results_kind cs)) (largest_is cs a h) ∙ at_own_scale (results_kind cs)

pub scaled_case : (cs : Choices) → results_agree cs ≡ true → AreScaled cs → IsScaled (case cs)
scaled_case cs a h = scaled_cases (largest_result cs) cs ∙ largest_is cs a h ∙ ap kind_scale (sym (kind_case cs a h))

pub told_case : (kind' : Option Kind) (agree' : Bool) (cs : Choices) → agree' ≡ true → kind' ≡ results_kind cs → agree' ≡ results_agree cs → AreScaled cs → (kind' ≡ kind_of (case cs)) × IsScaled (case cs)
told_case kind' agree' cs t k a h = let agrees : results_agree cs ≡ true = sym a ∙ t in (k ∙ sym (kind_case cs agrees h), scaled_case cs agrees h)
