-- Mirrors `Walk` of walk.rt: what its fields stand for.
use Rattle.std.specs.Prelude.{ℕ, List, map, reverse, drop, Option}
use Rattle.qw_module.specs.declared.instruction.Instr.{Instr}
use Rattle.qw_module.specs.declared.instruction.Instr.TheVariants as i
use Rattle.qw_valid.specs.declared.walk.Open.{Open}
use Rattle.qw_valid.specs.declared.walk.Walk.{Walk}
use Rattle.qw_module.specs.Syntax.{Code, op, unreachable, block, loop, br, br_if, br_table, return, call, Sequences, labels_in, if_nested, named_if_some, nested, named, sequence_at}
use Rattle.qw_valid.specs.Inner.Checkers.{typing_of, body_of}
use Rattle.qw_valid.specs.Inner.Checking.{Around, Walked, walked, advanced_by}

-- what is left of the sequence of a number from an index on, nested
abbrev pub code_at : Sequences → ℕ → ℕ → Code
code_at sequences number index = nested sequences.labels (named sequences) (drop index (sequence_at sequences number))

abbrev pub first_code : Sequences → ℕ → Code
first_code sequences number = code_at sequences number 0

abbrev pub around_of : Sequences → Open → Around
around_of sequences o =
    record {
      opener = o.opener;
      result = o.result;
      below = o.below;
      other = named_if_some (first_code sequences) o.other;
      after = code_at sequences o.sequence o.after;
    }

abbrev pub around_in : Walk → List Around
around_in w = map (around_of (body_of w.checker)) (reverse w.opened.items)

abbrev pub walked_of : Walk → Walked
walked_of w = walked w.operands (around_in w) (code_at (body_of w.checker) w.sequence w.index)

-- a sequence that begins with this instruction
abbrev pub with_first : Sequences → Instr → Code → Code
with_first s (i.Op o) rest = op o rest
with_first s i.Unreachable rest = unreachable rest
with_first s (i.Block result body) rest = block result (first_code s body) rest
with_first s (i.Loop result body) rest = loop result (first_code s body) rest
with_first s (i.If result then_body else_body) rest = if_nested result (first_code s then_body) (named_if_some (first_code s) else_body) rest
with_first s (i.Br label) rest = br label rest
with_first s (i.BrIf label) rest = br_if label rest
with_first s (i.BrTable first count default) rest = br_table (labels_in s.labels first count) default rest
with_first s i.Return rest = return rest
with_first s (i.Call index) rest = call index rest

-- after an instruction, where the rest follows it
abbrev pub performed : Walk → Instr → Option Walked
performed w instr =
    advanced_by (typing_of w.checker) (with_first (body_of w.checker) instr (code_at (body_of w.checker) w.sequence w.index)) w.operands (around_in w)
