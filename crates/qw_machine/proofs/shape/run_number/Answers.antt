use Rattle.std.proofs.Common.{◌≡◌, ◌+◌, ◌∙◌, ap, refl, length, rules, arith}
use Rattle.std.proofs.lemmas.Option.{slice_get_read}
use Rattle.qw_module.specs.declared.module.ExportKind.TheVariants as kind
use Rattle.qw_module.specs.Validity.{imported_functions}
use Rattle.qw_machine.proofs.shape.run_number.Goals as goal

pub returns : goal.returns
returns c =
    let m = c.args.module.now in
    let counted = c.in_ok-number.ensures in
    let index : c.in-Function.index ≡ length (imported_functions m) + c.in_ok-number.number = omega (arith, counted.0, counted.1, c.requires) in
    let lookup = c.in_ok-function.ensures.lookup in
    let found = slice_get_read m.functions.items (length m.functions.items) c.in_ok-number.number c.in_ok-function.function.now refl
    (rw c.deref.ensures.value at lookup.3.0) (rw c.deref.ensures.value at lookup.1) in
    record {
      named = search rules;
      exported = c.in-Function.is ∙ ap kind.Function index;
      takes = rw found (c.if-not-is_one_i32.ensures.0 refl);
    }
