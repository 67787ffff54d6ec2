-- How outcomes go on: past what has no fault, and not past a fault.
use Rattle.std.proofs.Common.{◌≡◌, Result, Ok, Err, refl}
use Rattle.qw_scalar.specs.Expression as meaning
use Rattle.qw_typer.specs.declared.fault.FaultKind.{FaultKind}
use Rattle.qw_typer.specs.declared.refusal.Token.{Token}
use Rattle.qw_typer.specs.declared.refusal.Refusal.{Refusal}
use Rattle.qw_typer.specs.declared.refusal.Refusal.TheVariants as refusal
use Rattle.qw_typer.specs.declared.tree.Typed.{Typed}
use Rattle.qw_typer.specs.Faults.{Fault}
use Rattle.qw_typer.specs.Inner.Typing.{Gives, Refuses, ◌>>=◌, spelled}

pub refuses_then : {A B : Type 0} (r : Refusal) (x : Result A Fault) (f : A → Result B Fault) → Refuses r x → Refuses r (x >>= f)
unfolding Refuses
refuses_then refusal.NoMemory x f h = tt
refuses_then (refusal.Fault kind token) x f h = rw h refl

pub refuses_after : {A B : Type 0} (r : Refusal) (x : Result A Fault) (a : A) (f : A → Result B Fault) → x ≡ Ok a → Refuses r (f a) → Refuses r (x >>= f)
refuses_after r x a f e h = rw e h

pub gives_after : {A : Type 0} (r : Result Typed Refusal) (x : Result A Fault) (a : A) (f : A → Result meaning.Expression Fault) → x ≡ Ok a → Gives r (f a) → Gives r (x >>= f)
gives_after r x a f e h = rw e h

pub refuses_memory : {A : Type 0} (r : Refusal) (x : Result A Fault) → r ≡ refusal.NoMemory → Refuses r x
unfolding Refuses
refuses_memory r x e = rw e tt

pub refuses_fault : {A : Type 0} (kind : FaultKind) (token : Token) (x : Result A Fault) → x ≡ Err (record { kind = kind; name = spelled token }) → Refuses (refusal.Fault kind token) x
unfolding Refuses
refuses_fault kind token x e = e
