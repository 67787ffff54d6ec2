-- From what a statement promises to how the open runs of its module answer.
use Rattle.std.proofs.Common.{◌≡◌, ℕ, ◌<◌, ◌≤◌, ◌⊎◌, inl, inr, List, Option, Some, None, refl, sym, ap, ◌∙◌, subst, ⊎_elim, arith}
use Rattle.std.specs.List.{Contains}
use Rattle.qw_types.specs.declared.code.Code.{Code}
use Rattle.qw_types.specs.declared.code.Code.TheVariants.{DivZero, OutOfRange}
use Rattle.qw_types.specs.declared.value.Val.{Val}
use Rattle.qw_module.specs.Execution.{Returned, Raised, IsOver}
use Rattle.qw_meaning.specs.Outcome as meant
use Rattle.qw_map.specs.Areas.{World}
use Rattle.qw_map.specs.Layout.{Layout, rows_at}
use Rattle.qw_map.specs.Runs.{Moment, OpenRun, BehavesWithin}
use Rattle.qw_map.specs.Turns.{Done, Exception, Pages}
use Rattle.qw_low.specs.Syntax.{Statement}
use Rattle.qw_low.specs.State.{LowState}
use Rattle.qw_low.specs.Meaning.{Outcome, Completed, Exited, Stopped, Wrong, Unfinished, meaning}
use Rattle.qw_low.specs.Places.{IsOutcome, RunsAs, StandsFor}
use Rattle.qw_low.specs.Promise.{Ends}
use Rattle.qw_low.specs.Raising.{code_of}
use Rattle.qw_low.proofs.RefusedOnce.{Refuses, refuses}
use Rattle.qw_feed.proofs.Frames.{Never}
use Rattle.qw_emit.proofs.Refusals.{WasRefused, Tells, told}
use Rattle.qw_promise.specs.Compiled.{AnswersAt, raised_for}
use Rattle.qw_emit.proofs.RunWorlds.{Keeps, run-keeps}

raised-same : (code : Code) → code_of code ≡ raised_for code
raised-same DivZero = refl
raised-same OutOfRange = refl

-- A run that has returned has come to a state of Low of which what was promised holds.
pub record CameTo (P : LowState → Type 0) (b : Moment) : Type 0 where
  pub state : LowState
  pub stands : StandsFor b.world state b.memory
  pub promised : P state

pub came_to : (most pages : ℕ) (P : LowState → Type 0) (R : ℕ → Type 0) (low : Outcome) (start : Moment) → RunsAs low pages start → Ends most P Never R low →
    (k : ℕ) (b : Moment) → OpenRun k start b → b.state ≡ Returned → CameTo P b
came_to most pages P R (Completed n t) start runs h k b run at =
    let over : IsOver b.state = subst IsOver (sym at) tt in
    let end = runs.ends.behaves.ends k b run over in
    record { state = t; stands = (end.1 end.0).1; promised = h.1 }
came_to most pages P R (Exited n t) start runs h k b run at = absurd h.1
came_to most pages P R (Stopped code n t) start runs h k b run at =
    let over : IsOver b.state = subst IsOver (sym at) tt in
    let end = runs.ends.behaves.ends k b run over in
    absurd (raised-returned (sym (end.1 end.0).0 ∙ at))
  where
    raised-returned : Raised code ≡ Returned → ⊥
    raised-returned same = absurd cc
came_to most pages P R Wrong start runs h k b run at = absurd h
came_to most pages P R Unfinished start runs h k b run at = absurd h

-- the codes that a run may raise: a refusal's, and those of the outcome
abbrev pub IsTold : meant.Outcome → ℕ → Type 0
IsTold out code = (code ≡ 3) ⊎ ((codes : List Code) × (one : Code) × (out ≡ meant.Raises codes) × Contains codes one × (code ≡ code_of one))

-- the codes that a run of some module may raise, over any tables: a refusal's, and those of exceptions
abbrev pub IsSomeCode : ℕ → Type 0
IsSomeCode code = (code ≡ 3) ⊎ ((one : Code) × (code ≡ code_of one))

pub told_some : (out : meant.Outcome) (code : ℕ) → IsTold out code → IsSomeCode code
told_some out code (inl refusal) = inl refusal
told_some out code (inr exception) = inr (exception.1, exception.4)

module _ (out : meant.Outcome) (layout : Layout) (most pages left descriptor : ℕ) (start : Moment)
    -- what is promised of the state at a return: no request was refused, and in any memory that stands for it are the rows of the outcome
    (P : LowState → Type 0)
    (rows : (t : LowState) (w : World) (memory : List ℕ) → P t → StandsFor w t memory → Keeps start.world w →
    (t.refused ≡ None) × ((bag : List (List Val)) × meant.IsSameOutcome out (meant.Rows bag) × (rows_at layout w memory descriptor ≡ Some bag))) where
  exception-answers : (code : ℕ) (codes : List Code) (one : Code) (b : Moment) → out ≡ meant.Raises codes → Contains codes one → code ≡ code_of one → b.state ≡ Raised code → b.world.refused ≡ None → AnswersAt out layout most pages descriptor b
  exception-answers code codes DivZero b is there same at none =
      (Exception 1, rw (at, same) refl, (none, (codes, DivZero, is, there, refl)))
  exception-answers code codes OutOfRange b is there same at none =
      (Exception 2, rw (at, same) refl, (none, (codes, OutOfRange, is, there, refl)))

  refusal-answers : (b : Moment) (t : LowState) → b.state ≡ Raised 3 → StandsFor b.world t b.memory → WasRefused pages t → AnswersAt out layout most pages descriptor b
  refusal-answers b t at stands refused =
      let asked : b.world.refused ≡ Some refused.0 = stands.fits.refused ∙ refused.1 in
      (Pages b.world.held refused.0 b.world.limit, rw (at, asked) refl, (refl, refl, omega (arith, refused.2, stands.fits.held, stands.fits.limit), omega (arith, refused.3, stands.fits.held)))

  other : (code : Code) → code_of code ≡ 3 → ⊥
  other DivZero is = absurd cc
  other OutOfRange is = absurd cc

  by_code : (code n : ℕ) (t : LowState) (b : Moment) → IsOutcome (Stopped code n t) b → IsTold out code → Tells pages (Stopped code n t) → Refuses None (Stopped code n t) → AnswersAt out layout most pages descriptor b
  by_code code n t b is (inr exception) tells refuses' = exception-answers code exception.0 exception.1 b exception.2 exception.3 exception.4 is.0
      (⊎_elim (λ three. absurd (other exception.1 (sym exception.4 ∙ three))) (λ none. is.1.fits.refused ∙ none) refuses')
  by_code code n t b is (inl refusal) tells refuses' = ⊎_elim
      (λ one. absurd (omega (arith, one, refusal)))
      (λ more. ⊎_elim (λ two. absurd (omega (arith, two, refusal))) (λ three. refusal-answers b t (is.0 ∙ ap (λ (k : ℕ). Raised k) refusal) is.1 three.1) more)
      tells

  return-answers : (t : LowState) (b : Moment) → b.state ≡ Returned → StandsFor b.world t b.memory → P t → Keeps start.world b.world → AnswersAt out layout most pages descriptor b
  return-answers t b at stands promised keeps =
      let all = rows t b.world b.memory promised stands keeps in
      (Done, rw at refl, (stands.fits.refused ∙ all.0, all.1))

  answered : (n : ℕ) (Q : Moment → Type 0) → n ≤ most → ((b : Moment) → Q b → Keeps start.world b.world → AnswersAt out layout most pages descriptor b) → BehavesWithin n pages n Q start →
      BehavesWithin most pages left (AnswersAt out layout most pages descriptor) start
  answered n Q le answers h = record {
    goes_on = h.goes_on;
    fine = h.fine;
    asks = h.asks;
    bounded = λ k b c run running. let less : k < n = h.bounded k b c run running in omega arith;
    ends = λ k b run over. let end = h.ends k b run over in (omega (arith, end.0), λ within. answers b (end.1 end.0) (run-keeps k start b run));
  }

  within : (n count : ℕ) → count ≤ n → n ≤ most → count ≤ most
  within n count less le = omega (arith, less, le)

  by_outcome : (low : Outcome) → RunsAs low pages start → Ends most P Never (IsTold out) low → Tells pages low → Refuses None low → BehavesWithin most pages left (AnswersAt out layout most pages descriptor) start
  by_outcome (Completed n t) runs h tells refuses' = answered runs.count (IsOutcome (Completed n t)) (within n runs.count runs.most h.0) (λ b is keeps. return-answers t b is.0 is.1 h.1 keeps) runs.ends.behaves
  by_outcome (Exited n t) runs h tells refuses' = absurd h.1
  by_outcome (Stopped code n t) runs h tells refuses' = answered runs.count (IsOutcome (Stopped code n t)) (within n runs.count runs.most h.0) (λ b is keeps. by_code code n t b is h.1 tells refuses') runs.ends.behaves
  by_outcome Wrong runs h tells refuses' = absurd h
  by_outcome Unfinished runs h tells refuses' = absurd h

  -- so a statement that promises this answers in every open run
  pub promised_answers : (fuel : ℕ) (a : Statement) (s : LowState) → s.refused ≡ None → RunsAs (meaning pages fuel a s) pages start → Ends most P Never (IsTold out) (meaning pages fuel a s) →
      BehavesWithin most pages left (AnswersAt out layout most pages descriptor) start
  promised_answers fuel a s none runs h = by_outcome (meaning pages fuel a s) runs h (told pages fuel a s) (subst (λ (r : Option ℕ). Refuses r (meaning pages fuel a s)) none (refuses pages fuel a s))
