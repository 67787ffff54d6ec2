-- Mirrors `Walk`: what its fields stand for.
use Rattle.std.specs.Prelude.{List, [], ◌∷◌, take, drop, reverse, Option, None}
use Rattle.qw_module.specs.declared.instruction.ValType.{ValType}
use Rattle.qw_module.specs.Syntax.{done}
use Rattle.qw_valid.specs.Inner.Checking.{Around, Walked, walked}
use Rattle.qw_scan.specs.declared.body.Frame.{Frame}
use Rattle.qw_scan.specs.declared.body.Walk.{Walk}

-- what is around where a sequence was begun so, and these operands are below its own
abbrev pub round_of : List (Option ValType) → Frame → Around
round_of kinds frame =
    record {
      opener = frame.opener;
      result = frame.result;
      below = record { kinds = reverse (drop frame.height kinds); unbounded = frame.unreachable };
      other = None;
      after = done;
    }

-- of the sequences that are open, the innermost first
abbrev pub rounds : List (Option ValType) → List Frame → List Around
rounds kinds [] = []
rounds kinds (frame ∷ frames) = round_of kinds frame ∷ rounds (take frame.height kinds) frames

abbrev pub around_in : Walk → List Around
around_in w = rounds w.stack.below (reverse w.frames.items)

abbrev pub walked_of : Walk → Walked
walked_of w = walked w.stack.known (around_in w) done
