use Rattle.std.proofs.Common.{◌≡◌, ℕ, List, arith, refl, sym, ap, subst}
use Rattle.qw_module.specs.Syntax.{done, code_of, IsNumbered}
use Rattle.qw_low.specs.Translation.{statement_code}
use Rattle.qw_low.specs.Inner.Writing.{Writing, sequences, writing_of}
use Rattle.qw_module.specs.Numbering.{IsInOrder}
use Rattle.qw_low.proofs.StepsFit.{code_fits, fits-all, fits-more}
use Rattle.qw_low.proofs.TeesWritten.{step-left, none-left, calls_written, written_code, written_in_order, written_numbered}
use Rattle.qw_low.proofs.body.body_of.Goals as goal

pub loop-step-init : goal.loop-step-init
loop-step-init c = record { written = rw (c.new.ensures.items, c.new-2.ensures.items, c.new-3.ensures.items) refl; fits = tt }

pub loop-step-preserved : goal.loop-step-preserved
loop-step-preserved c = record {
  written = step-left c.args.code.now c.loop-step.step-index _ (writing_of c.loop-step.writer) (writing_of c.write.new.self) _ (omega arith) c.loop-step.invariant.written c.in_ok-write.ensures;
  fits = fits-more c.args.code.now c.loop-step.step-index _ (omega arith) c.read_offset.ensures c.loop-step.invariant.fits;
}

pub returns-clause-code : goal.returns-clause-code
returns-clause-code c = λ s code_is.
    subst (λ (labels : List ℕ). code_of (record { each = sequences c.finish.new.self.finished.items; labels = labels }) ≡ statement_code s done) (sym c.new-4.ensures.items)
    (written_code c.args.code.now (writing_of c.loop-step.writer)
    (none-left c.args.code.now c.loop-step.step-index (writing_of c.loop-step.writer) _ (omega arith) c.loop-step.invariant.written) _
    (ap (λ (w : Writing). w.finished) c.in_ok-finish.ensures.finished) s code_is)

pub returns-clause-numbered : goal.returns-clause-numbered
returns-clause-numbered c = λ s code_is.
    subst (λ (labels : List ℕ). IsNumbered (record { each = sequences c.finish.new.self.finished.items; labels = labels })) (sym c.new-4.ensures.items)
    (written_numbered c.args.code.now (writing_of c.loop-step.writer)
    (none-left c.args.code.now c.loop-step.step-index (writing_of c.loop-step.writer) _ (omega arith) c.loop-step.invariant.written) _
    (ap (λ (w : Writing). w.finished) c.in_ok-finish.ensures.finished) s code_is)

pub returns-clause-calls : goal.returns-clause-calls
returns-clause-calls c =
    calls_written c.args.code.now (writing_of c.loop-step.writer)
    (none-left c.args.code.now c.loop-step.step-index (writing_of c.loop-step.writer) _ (omega arith) c.loop-step.invariant.written) _
    (ap (λ (w : Writing). w.finished) c.in_ok-finish.ensures.finished)

pub returns-clause-order : goal.returns-clause-order
returns-clause-order c = λ s code_is.
    subst (λ (labels : List ℕ). IsInOrder (record { each = sequences c.finish.new.self.finished.items; labels = labels })) (sym c.new-4.ensures.items)
    (written_in_order c.args.code.now (writing_of c.loop-step.writer)
    (none-left c.args.code.now c.loop-step.step-index (writing_of c.loop-step.writer) _ (omega arith) c.loop-step.invariant.written) _
    (ap (λ (w : Writing). w.finished) c.in_ok-finish.ensures.finished) s code_is)

pub returns-clause-offsets : goal.returns-clause-offsets
returns-clause-offsets c = λ s code_is.
    code_fits s c.args.code.now _ code_is (fits-all c.args.code.now c.loop-step.step-index (omega arith) c.loop-step.invariant.fits) (returns-clause-code c s code_is)
