use Rattle.std.proofs.Common.{◌≡◌, ◌++◌, ◌∙◌, ◌↔◌, List, ℕ, All, IsTrue, length, map, sym, ap, subst, arith}
use Rattle.std.specs.Prelude.{IfSome}
use Rattle.std.specs.List.{filter_map, AllPairs}
use Rattle.qw_module.specs.declared.module.Import.{Import}
use Rattle.qw_module.specs.declared.module.Module.{Module}
use Rattle.qw_module.specs.Validity.{imported_memory}
use Rattle.qw_binary.specs.Contents.{contents_of}
use Rattle.qw_scan.specs.Inner.Outlines.{contents_in}
use Rattle.qw_scan.specs.Inner.Exported.{AreNamedApart}
use Rattle.qw_scan.specs.Inner.ExportsAt.{export_at, IsExportAt}
use Rattle.qw_scan.proofs.OffsetLemmas.{AreExports}
use Rattle.qw_scan.proofs.PartLemmas.{counts_of, HasCounts, export_not_there, exports_told}
use Rattle.qw_scan.proofs.parts.are_exports.Goals as goal
use Rattle.qw_scan.proofs.parts.are_exports.Goals.{After-exports_hold}

-- the exports stand where the offsets say
listed : (c : After-exports_hold) → AreExports c.args.octets.now c.deref-2.result.now (contents_in c.args.octets.now c.args.outline).exports
listed c =
    subst (λ (offsets : List ℕ). AreExports c.args.octets.now offsets (contents_in c.args.octets.now c.args.outline).exports) (sym c.deref-2.ensures.value)
    (c.in_ok-offsets.ensures c.requires.outlined.exports)

counted : (c : After-exports_hold) (m : Module) (same : contents_of m ≡ contents_in c.args.octets.now c.args.outline) →
    HasCounts c.args.octets.now c.args.outline c.args.tables.now c.requires m same (counts_of c.len.result c.in_ok-memories_of.field-0 c.len-2.result)
counted c m same = (
  omega (arith, c.len.ensures, c.args.tables.now.functions.ok.0),
  c.in_ok-memories_of.ensures c.requires.outlined.memories
      ∙ ap (λ (imports : List Import). length (filter_map imported_memory imports ++ (contents_in c.args.octets.now c.args.outline).memories)) c.deref.ensures.value,
  omega (arith, c.len-2.ensures, c.args.tables.now.globals.ok.0),
)

pub returns-then-not-branch : goal.returns-then-not-branch
returns-then-not-branch c = λ m same.
    let here = (goal.at.returns-then-not-branch c).After-exports_hold in
    let are = listed here in
    export_not_there c.args.octets.now c.args.outline c.args.tables.now c.requires m same _ (counted here m same) _ are.1 c.in_ok-exports_hold.field-0 c.if-not-branch.true
    (c.in_ok-exports_hold.ensures are.0)

pub returns : goal.returns
returns c = λ m same.
    let here = (goal.at.returns c).After-exports_hold in
    let are = listed here in
    let again = c.deref-3.ensures.value ∙ sym c.deref-2.ensures.value in
    let names = subst (λ (offsets : List ℕ). IfSome c.names_differ.result (λ differ. IsTrue differ ↔ AllPairs AreNamedApart (map (export_at c.args.octets.now) offsets))) again
    (c.names_differ.ensures (subst (λ (offsets : List ℕ). All (IsExportAt c.args.octets.now) offsets) (sym again) are.0)) in
    exports_told c.args.octets.now c.args.outline c.args.tables.now c.requires m same _ (counted here m same) _ are.1 c.in_ok-exports_hold.field-0 c.names_differ.result c.if-not-branch.false
    (c.in_ok-exports_hold.ensures are.0) names
