-- Whether each value of IN, or each further argument of NULLIF, compares with the first.
use Rattle.std.proofs.Common.{◌≡◌, ℕ, Bool, true, false, List, [], max, Result, Ok, Err, MatchResult, refl, sym, ap, ◌∙◌, arith, inl, inr}
use Rattle.std.proofs.lemmas.Bool.{and_parts, cases_Bool}
use Rattle.qw_scalar.specs.Expression as meaning
use Rattle.qw_scalar.specs.Typing.{are_comparable, kind_of}
use Rattle.qw_typer.specs.declared.fault.FaultKind.TheVariants.{Clash}
use Rattle.qw_scalar.specs.Tree as tree
use Rattle.qw_scalar.specs.declared.expression.Cond.{Cond}
use Rattle.qw_scalar.specs.declared.expression.Expr.{Expr}
use Rattle.qw_typer.specs.declared.refusal.Refusal.{Refusal}
use Rattle.qw_typer.specs.declared.refusal.Refusal.TheVariants as refusal
use Rattle.qw_typer.specs.declared.tree.Typed.{Typed}
use Rattle.qw_typer.specs.Faults.{among_faults}
use Rattle.qw_typer.specs.Meant.{with_not}
use Rattle.qw_typer.specs.Inner.Typing.{GivesCondition, IsTold, all_comparable, among_outcome, unless_outcome, outcome}
use Rattle.qw_typer.proofs.OutcomeLemmas.{refuses_memory}

none : (token : List ℕ) (x : meaning.Expression) (vs : meaning.Expressions) → all_comparable (kind_of x) vs ≡ true → among_faults token x vs ≡ []
none token x (meaning.last v) h = rw h refl
none token x (meaning.more v vs) h =
    let p = and_parts (are_comparable (kind_of x) (kind_of v)) (all_comparable (kind_of x) vs) h in
    rw (p.0, none token x vs p.1) refl

first : {A : Type 0} (token : List ℕ) (x : meaning.Expression) (vs : meaning.Expressions) (a : A) → all_comparable (kind_of x) vs ≡ false → outcome (among_faults token x vs) a ≡ Err (record { kind = Clash; name = token })
first token x (meaning.last v) a h = rw h refl
first token x (meaning.more v vs) a h = elim (cases_Bool (are_comparable (kind_of x) (kind_of v))) [
  | inl e ↦ rw e (first token x vs a (rest e))
  | inr e ↦ rw e refl
]
  where
    rest : are_comparable (kind_of x) (kind_of v) ≡ true → all_comparable (kind_of x) vs ≡ false
    rest e = rw e at h

-- an outcome, where it is known whether each compares
pub all_compare : {A : Type 0} (token : List ℕ) (comparable : Bool) (x : meaning.Expression) (vs : meaning.Expressions) (a : A) → comparable ≡ true → comparable ≡ all_comparable (kind_of x) vs → outcome (among_faults token x vs) a ≡ Ok a
all_compare token comparable x vs a t e = let n : among_faults token x vs ≡ [] = none token x vs (flip comparable (all_comparable (kind_of x) vs) e t) in rw n refl
  where
    flip : (a b : Bool) → a ≡ b → a ≡ true → b ≡ true
    flip a b e t = cc

pub some_clash : {A : Type 0} (token name : List ℕ) (comparable : Bool) (x : meaning.Expression) (vs : meaning.Expressions) (a : A) → comparable ≡ false → comparable ≡ all_comparable (kind_of x) vs → name ≡ token
    → outcome (among_faults token x vs) a ≡ Err (record { kind = Clash; name = name })
some_clash token name comparable x vs a t e same = rw same (first token x vs a (flip comparable (all_comparable (kind_of x) vs) e t))
  where
    flip : (a b : Bool) → a ≡ b → a ≡ false → b ≡ false
    flip a b e t = cc

same_among : (x x' : meaning.Expression) (vs vs' : meaning.Expressions) → x' ≡ x → vs' ≡ vs → meaning.among x' vs' ≡ meaning.among x vs
same_among x x' vs vs' e f = rw (e, f) refl

-- a call that gives the predicate over the same operands gives what is meant
pub among_given : (token : List ℕ) (negated comparable : Bool) (x x' : meaning.Expression) (vs vs' : meaning.Expressions) (r : Result Cond Refusal) → comparable ≡ true → comparable ≡ all_comparable (kind_of x) vs → x' ≡ x → vs' ≡ vs
    → MatchResult r (λ made. tree.condition_of made ≡ with_not negated (meaning.among x' vs')) (λ refused. refused ≡ refusal.NoMemory) → GivesCondition r (among_outcome token negated x vs)
among_given token negated comparable x x' vs vs' (Ok made) t e ex ev h = all_compare token comparable x vs (with_not negated (meaning.among x vs)) t e ∙ ap Ok (sym (h ∙ ap (with_not negated) (same_among x x' vs vs' ex ev)))
among_given token negated comparable x x' vs vs' (Err refused) t e ex ev h = refuses_memory refused (among_outcome token negated x vs) h

-- the first argument of NULLIF, where each further one compares with it: the kind and the scale stay the first one's
pub unless_told : (token : List ℕ) (comparable : Bool) (first' : Typed) (vs : meaning.Expressions) (made : Expr) → comparable ≡ true → IsTold first' → comparable ≡ all_comparable (kind_of (tree.expression_of first'.tree)) vs
    → tree.expression_of made ≡ meaning.unless_among (meaning.more (tree.expression_of first'.tree) vs)
    → (unless_outcome token (tree.expression_of first'.tree) vs ≡ Ok (tree.expression_of made)) × IsTold (record { kind = first'.kind; tree = made })
unless_told token comparable first' vs made t told compared is =
    let x = tree.expression_of first'.tree in
    let m : max 0 (meaning.scale_of x) ≡ meaning.scale_of x = omega arith in
    (rw is (all_compare token comparable x vs (meaning.unless_among (meaning.more x vs)) t compared), record { kind = rw is told.kind; scaled = rw is (m ∙ told.scaled) })
