use Rattle.std.proofs.Common.{◌≡◌, ◌≤◌, ◌+◌, ◌*◌, ◌∙◌, ℤ, pos, add-one, ap, arith, get_or, length, rules, w32, w64}
use Rattle.std.specs.Int.{cast_unsigned}
use Rattle.std.specs.Prelude.{FitsSigned}
use Rattle.std.proofs.lemmas.Int.{to_z-of_z}
use Rattle.std.proofs.lemmas.Option.{slice_get-get_or}
use Rattle.qw_linear.proofs.AccessFacts.{stored-inside}
use Rattle.qw_columns.proofs.WriteLemmas.{keeps_number, keeps_then, number_next}
use Rattle.qw_columns.proofs.writing.write_short.Goals as goal

abbrev number : (c : goal.After-unwrap) → ℤ
number c = get_or c.args.numbers.now c.loop-row.row (pos 0)

written : (c : goal.After-unwrap) → c.cast_unsigned.result ≡ cast_unsigned w64 (number c)
written c =
    let narrow : FitsSigned w32 (number c) = search rules in
    let from : c.from-number.result ≡ number c = c.from-number.ensures ∙ to_z-of_z w32 (number c) narrow in
    let wide : FitsSigned w64 c.from-number.result = search rules in
    c.cast_unsigned.ensures ∙ ap (cast_unsigned w64) (to_z-of_z w64 c.from-number.result wide ∙ from)

pub loop-row-preserved : goal.loop-row-preserved
loop-row-preserved c =
    let memory = c.loop-row.memory in
    let row = c.loop-row.row in
    let place = c.args.at + 4 * row in
    let room : place + 4 ≤ length memory.octets = omega (arith, c.requires.room, c.loop-row-test.true, c.loop-row.invariant.keeps.len) in
    rw (c.store32.ensures.stored, stored-inside memory.octets place 4 c.cast_unsigned.result room, written c, add-one) (record {
      numbers = number_next memory.octets c.args.at 4 c.args.numbers.now row (number c) (slice_get-get_or c.args.numbers.now row (pos 0) c.loop-row-test.true) room c.loop-row.invariant.numbers;
      keeps = keeps_then c.args.memory.now memory _ c.args.at place (omega arith) c.loop-row.invariant.keeps (keeps_number memory place 4 (cast_unsigned w64 (number c)));
    })
