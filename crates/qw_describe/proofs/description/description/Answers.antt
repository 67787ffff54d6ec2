use Rattle.std.proofs.Common.{◌≡◌, ◌∙◌, ap, false}
use Rattle.serde_json.specs.View.{view}
use Rattle.serde_json.specs.Written.{compact_text, has_float}
use Rattle.qw_describe.proofs.FloatLemmas.{none_in_told}
use Rattle.qw_describe.proofs.description.description.Goals as goal

pub returns : goal.returns
returns c =
    let value = view c.in_ok-value.value in
    let none : has_float value ≡ false =
    ap has_float c.in_ok-value.ensures ∙ none_in_told c.args.tables.now c.args.imports.now c.args.layout.now c.args.header.now c.args.keys.now in
    c.in_ok-to_string.ensures.text none ∙ ap compact_text c.in_ok-value.ensures
