use Rattle.std.proofs.Common.{◌+◌, ◌-◌, ◌*◌, ◌++◌, ℕ, List, ap, ◌∙◌, subst, arith}
use Rattle.qw_expr.specs.Bindings.{known_of}
use Rattle.qw_physical.specs.declared.pipeline.ReadColumn.{ReadColumn}
use Rattle.qw_operator.specs.Kept.{ReadsKept}
use Rattle.qw_operator.proofs.Knowing.{known_joined}
use Rattle.qw_group_pipeline.specs.Inner.Valued.{ReadsValued}
use Rattle.qw_group_pipeline.specs.declared.columns.ValueColumn.{ValueColumn}
use Rattle.qw_group_pipeline.proofs.GroupEmits.{met_made}
use Rattle.qw_group_pipeline.proofs.groups.open_group.Goals as goal

pub returns : goal.returns
returns c =
    let first = c.requires.first in
    let counted = c.len.ensures in
    let some = c.in_ok-known.known.items in
    let more = c.in_ok-values.values.items in
    met_made (known_of c.args.known.items) c.args.first (c.args.first - 1) c.args.columns.now.key.items c.args.columns.now.values.items c.new-inner.result c.read_entry.new.emitter c.read_values.new.emitter (known_of some) (known_of more)
    (known_of c.append-2.new.self.items) c.new-inner.ensures.0 c.new-inner.ensures.1 c.new-inner.ensures.2 (omega (arith, first))
    (subst (λ (l : List ReadColumn). ReadsKept 24 (c.args.first - 1) l c.new-inner.result c.read_entry.new.emitter (known_of some)) c.deref.ensures.value c.in_ok-known.ensures)
    (subst (λ (n : ℕ). ReadsValued n (c.args.first - 1) c.args.columns.now.values.items c.read_entry.new.emitter c.read_values.new.emitter (known_of more)) (omega (arith, counted))
    (subst (λ (l : List ValueColumn). ReadsValued (24 + 16 * c.len.result) (c.args.first - 1) l c.read_entry.new.emitter c.read_values.new.emitter (known_of more)) c.deref-2.ensures.value c.in_ok-values.ensures))
    (ap known_of c.in_ok-append-2.ensures.items ∙ (known_joined _ c.args.known.items ∙ ap (λ (l : _). l ++ known_of c.args.known.items) (ap known_of c.in_ok-append.ensures.items ∙ known_joined some more)))
