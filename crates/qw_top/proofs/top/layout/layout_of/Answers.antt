use Rattle.std.proofs.Common.{◌≡◌, refl}
use Rattle.std.specs.String.{string_bytes}
use Rattle.serde_json.specs.Written.{compact_text}
use Rattle.qw_describe.specs.Description.{told}
use Rattle.qw_top.specs.Inner.Queries.{asked_of}
use Rattle.qw_top.proofs.top.layout.layout_of.Goals as goal

pub returns : goal.returns
returns c =
    let m = c.in_ok-compiled.compiled.module in
    let layout = c.in_ok-compiled.compiled.layout in
    let one = asked_of c.args.query.now in
    let described : string_bytes c.in_ok-text.text ≡ compact_text (told c.args.schema.now m.imports.items layout one.header one.keys) =
    rw (c.in_ok-text.ensures, c.as_slice.ensures.same, c.as_slice-2.ensures.value, c.as_slice-3.ensures, c.in_ok-header.ensures, c.as_slice-4.ensures.value) refl in
    record {
      layout = layout;
      m = m;
      compiled = c.in_ok-compiled.ensures.compiled;
      laid = c.in_ok-compiled.ensures.layout;
      tells = rw (c.in_ok-push_str.ensures.bytes, described) refl;
    }
