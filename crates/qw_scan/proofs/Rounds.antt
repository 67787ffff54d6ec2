-- What is around a sequence, by the frames of those that are open and the operands below its own.
use Rattle.std.proofs.Common.{◌≡◌, List, [], ◌∷◌, map, take, Option, refl, ap}
use Rattle.qw_module.specs.declared.instruction.ValType.{ValType}
use Rattle.qw_valid.specs.Inner.Checking.{taken_in}
use Rattle.qw_valid.specs.Kinds.{taken_by}
use Rattle.qw_scan.specs.declared.body.Frame.{Frame}
use Rattle.qw_scan.specs.Inner.Walking.{rounds}

-- the labels are those of the frames
pub labels_of_rounds : (kinds : List (Option ValType)) (frames : List Frame) → map taken_in (rounds kinds frames) ≡ map (λ (frame : Frame). taken_by frame.opener frame.result) frames
labels_of_rounds kinds [] = refl
labels_of_rounds kinds (frame ∷ frames) = ap (λ (ts : List (List ValType)). taken_by frame.opener frame.result ∷ ts) (labels_of_rounds (take frame.height kinds) frames)
