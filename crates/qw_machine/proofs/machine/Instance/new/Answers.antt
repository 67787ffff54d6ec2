use Rattle.std.proofs.Common.{◌≡◌, ℕ, sym, ap, ◌∙◌, subst, refl, None, Result, Ok, Err, is_ok, rules}
use Rattle.std.specs.Prelude.{IfOk, MatchResult}
use Rattle.std.proofs.lemmas.Bool.{false≢true}
use Rattle.std.specs.Result.{IsErrAnd}
use Rattle.qw_machine.specs.declared.machine.InstanceFault.TheVariants as fault
use Rattle.qw_machine.specs.Descending.{IsFirstAscending}
use Rattle.qw_machine.specs.Instance.{Called}
use Rattle.qw_module.specs.Start.{begun}
use Rattle.qw_module.specs.Validity.{IsDescending}
use Rattle.qw_machine.proofs.Descents.{first-unique, none-first}
use Rattle.qw_module.proofs.ShapeLemmas.{shape-unique}
use Rattle.qw_machine.proofs.machine.Instance.new.Goals as goal

-- what a value is stays where an error is told as another
kept : {A E F : Type 0} (before : Result A E) (after : Result A F) (P Q : A → Type 0) (R : E → Type 0) → MatchResult before (λ x. after ≡ Ok x) R →
    is_ok after ≡ is_ok before → ((x : A) → P x → Q x) → IfOk before P → IfOk after Q
kept (Ok x) after P Q R told same follows p = rw told (follows x p)
kept (Err e) (Ok x) P Q R told same follows p = absurd (false≢true (sym same))
kept (Err e) (Err f) P Q R told same follows p = tt

pub returns-clause-begun : goal.returns-clause-begun
returns-clause-begun c = λ number shaped descends.
    let m = c.args.valid in
    let found = rw c.module.ensures.«module» at c.in-Some.ensures in
    let same = shape-unique m c.module.ensures.valid.names c.in-Some.number number found shaped in
    kept c.call.result c.map_err.result _ (λ (i : Called). i ≡ record { program = m; state = begun m number c.args.argument; asked = None }) _ c.map_err.ensures.cases c.map_err.ensures.variant
    (λ i is. subst (λ (n : ℕ). i ≡ record { program = m; state = begun m n c.args.argument; asked = None }) same is) c.call.ensures

pub returns-clause-owes_none : goal.returns-clause-owes_none
returns-clause-owes_none c =
    let m = c.args.valid in
    kept c.call.result c.map_err.result (λ (i : Called). i ≡ record { program = m; state = begun m c.in-Some.number c.args.argument; asked = None }) (λ (i : Called). i.asked ≡ None) _
    c.map_err.ensures.cases c.map_err.ensures.variant (λ i is. rw is refl) c.call.ensures

-- an error that is told as one is told as no other
told-alone : {A E F : Type 0} (before : Result A E) (after : Result A F) (told other : F) (R : E → F → Type 0) →
    MatchResult before (λ x. after ≡ Ok x) (λ e. IsErrAnd after (R e)) → ((e : E) (f : F) → R e f → f ≡ told) → (told ≡ other → ⊥) → after ≡ Err other → ⊥
told-alone (Ok x) after told other R cases is apart same = cc (cases, same)
told-alone (Err e) (Ok x) told other R cases is apart same = absurd cases
told-alone (Err e) (Err f) told other R cases is apart same = let here : f ≡ other = cc same in apart (sym (is e f cases) ∙ here)

pub returns-in-Some-first_ascending-clause-not_descending : goal.returns-in-Some-first_ascending-clause-not_descending
returns-in-Some-first_ascending-clause-not_descending c = λ func.
    let m = c.args.valid in
    let found = rw c.module.ensures.«module» at c.in-Some.ensures in
    let first = rw c.module-2.ensures.«module» at c.in-Some-first_ascending.ensures.first in (
      λ same. let here : c.in-Some-first_ascending.func ≡ func = cc same in ((c.in-Some.number, found), subst (IsFirstAscending m) here first),
      λ there. ap (λ (n : ℕ). Err (fault.NotDescending n)) (first-unique m c.in-Some-first_ascending.func func first there.1),
    )

pub call-requires-clause-descends : goal.call-requires-clause-descends
call-requires-clause-descends c = subst IsDescending c.module-2.ensures.«module» c.in_default-first_ascending.ensures.none

pub returns-clause-not_descending : goal.returns-clause-not_descending
returns-clause-not_descending c = λ func.
    let m = c.args.valid in
    let descends = subst IsDescending c.module-2.ensures.«module» c.in_default-first_ascending.ensures.none in (
      λ same. absurd (told-alone c.call.result c.map_err.result fault.NoMemory (fault.NotDescending func) _ c.map_err.ensures.cases (λ e f learnt. search rules) (λ other. cc) same),
      λ there. absurd (none-first m func descends there.1),
    )
