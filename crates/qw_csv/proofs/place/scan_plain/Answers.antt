use Rattle.std.proofs.Common.{◌≡◌, ◌<◌, ◌-◌, [], length, take, get_or, refl, arith}
use Rattle.std.proofs.lemmas.Grind.{common_steps}
use Rattle.csv.specs.declared.parser.State.TheVariants as st
use Rattle.qw_csv.proofs.MachineLemmas.{front_plain, last_split, plain_none, plain_place, plain_whole}
use Rattle.qw_csv.proofs.place.scan_plain.Goals as goal

pub returns-then-is_empty-clause-place : goal.returns-then-is_empty-clause-place
returns-then-is_empty-clause-place c =
    let none : c.args.text.now ≡ [] = grind (arith, common_steps) in
    plain_none c.args.place c.args.text.now none

pub returns-clause-place : goal.returns-clause-place
returns-clause-place c =
    let text = c.args.text.now in
    let some : 0 < length text = grind (arith, common_steps) in
    plain_place c.args.place text c.requires.free c.requires.plain (take (length text - 1) text) (get_or text (length text - 1) 0) c.next_place.result (last_split text some)
    (c.requires.plain (length text - 1) (omega (arith, some))) (front_plain (length text - 1) text c.requires.plain) (c.next_place.ensures st.InField refl)

pub returns-clause-whole : goal.returns-clause-whole
returns-clause-whole c = plain_whole c.args.place c.args.text.now c.requires.free c.requires.plain c.line_ends-whole.result c.line_ends-whole.ensures.line
