use Rattle.std.proofs.Common.{◌≡◌, ℕ, List, map, reverse, Option, Some, Err, slice_get, ap, sym, ◌∙◌}
use Rattle.std.proofs.lemmas.Result.{err_from_is_err_and}
use Rattle.qw_module.specs.Typing.{types_of}
use Rattle.qw_valid.specs.declared.operands.Refusal.{Refusal}
use Rattle.qw_valid.specs.declared.operands.Refusal.TheVariants.{IllTyped, NoMemory}
use Rattle.qw_valid.specs.Refusals.{Finds}
use Rattle.qw_scan.specs.Inner.Walking.{around_in}
use Rattle.std.specs.Option.{option_map}
use Rattle.std.proofs.lemmas.Option.{slice_get-map}
use Rattle.qw_module.specs.declared.instruction.ValType.{ValType}
use Rattle.qw_valid.specs.Inner.Checking.{taken_in}
use Rattle.qw_valid.specs.Kinds.{taken_by}
use Rattle.qw_scan.specs.declared.body.Frame.{Frame}
use Rattle.qw_scan.proofs.Rounds.{labels_of_rounds}
use Rattle.qw_scan.proofs.body.Walk.label.Goals as goal

pub returns : goal.returns
returns c =
    let frames = reverse c.args.self.now.frames.items in
    ap (λ (ls : List (List ValType)). slice_get ls c.args.index) (labels_of_rounds c.args.self.now.stack.below frames)
    ∙ slice_get-map (λ (frame : Frame). taken_by frame.opener frame.result) frames c.args.index
    ∙ ap (λ (o : Option Frame). option_map (λ (frame : Frame). taken_by frame.opener frame.result) o) c.in_ok-frame.ensures
    ∙ ap (λ (ts : List ValType). Some ts) (sym c.taken.ensures)

refused : (refusal : Refusal) (found : Option Frame) (labels : List (List ValType)) (index : ℕ) → slice_get labels index ≡ option_map (λ (frame : Frame). taken_by frame.opener frame.result) found →
    Finds {A = Frame} (Err refusal) found (λ frame. frame) → Finds {A = Option ValType} (Err refusal) (slice_get labels index) types_of
refused IllTyped found labels index same none = same ∙ ap (option_map (λ (frame : Frame). taken_by frame.opener frame.result)) none
refused NoMemory found labels index same none = tt

pub returns-in_err-frame : goal.returns-in_err-frame
returns-in_err-frame c =
    let frames = reverse c.args.self.now.frames.items in
    let p = err_from_is_err_and c.from_residual.result c.from_residual.ensures.1 in
    rw (p.1, p.2) (refused c.in_err-frame.field-0.0 (slice_get frames c.args.index) (map taken_in (around_in c.args.self.now)) c.args.index
    (ap (λ (ls : List (List ValType)). slice_get ls c.args.index) (labels_of_rounds c.args.self.now.stack.below frames)
    ∙ slice_get-map (λ (frame : Frame). taken_by frame.opener frame.result) frames c.args.index) c.in_err-frame.ensures)
