use Rattle.std.proofs.Common.{sym, ◌∙◌, arith}
use Rattle.qw_types.specs.declared.kind.Kind.TheVariants as kind
use Rattle.qw_scalar.specs.Typing.{kind_of}
use Rattle.qw_low.proofs.Appended.{if_ok, on_ok}
use Rattle.qw_expr.proofs.Extents.{comparing_least}
use Rattle.qw_expr.proofs.Comparable.{dates_of, numbers_of, some_is, texts_of}
use Rattle.qw_expr.proofs.emitter.Emitter.compare.Goals as goal

pub returns-in-Some-Date-clause-emits : goal.returns-in-Some-Date-clause-emits
returns-in-Some-Date-clause-emits c =
    let first = some_is c.args.left.kind c.in-Some-Date.field-0 kind.Date c.in-Some-Date.is (rw c.in-Some-Date.is at c.in-Some-Date.field-0-is) in
    if_ok _ _ c.compare_dates.result
    (λ out does known a b start mid typed low ea eb.
    let dated = dates_of (kind_of a) (kind_of b) (sym ea.computes.kind_is ∙ first) typed.1 in
    does known a b start mid typed dated.0 dated.1 low ea eb) c.compare_dates.ensures.emits

pub returns-in-Some-Number-clause-emits : goal.returns-in-Some-Number-clause-emits
returns-in-Some-Number-clause-emits c =
    let first = some_is c.args.left.kind c.in-Some-Number.field-0 (kind.Number c.in-Some-Number.field-0-0) c.in-Some-Number.is (rw c.in-Some-Number.is at c.in-Some-Number.field-0-is) in
    if_ok _ _ c.compare_numbers.result
    (λ out does known a b start mid typed low ea eb.
    let numeric = numbers_of (kind_of a) (kind_of b) c.in-Some-Number.field-0-0 (sym ea.computes.kind_is ∙ first) typed.1 in
    does known a b start mid typed numeric.0 numeric.1 low ea eb) c.compare_numbers.ensures.emits

pub returns-in-Some-Text-clause-emits : goal.returns-in-Some-Text-clause-emits
returns-in-Some-Text-clause-emits c =
    let first = some_is c.args.left.kind c.in-Some-Text.field-0 kind.Text c.in-Some-Text.is (rw c.in-Some-Text.is at c.in-Some-Text.field-0-is) in
    if_ok _ _ c.compare_texts.result
    (λ out does known a b start mid typed low ea eb.
    let textual = sym ea.computes.kind_is ∙ first in
    does known a b start mid typed textual (texts_of (kind_of a) (kind_of b) textual typed.1) low ea eb) c.compare_texts.ensures.emits

pub returns-in-Some-Date-clause-short : goal.returns-in-Some-Date-clause-short
returns-in-Some-Date-clause-short c = on_ok _ _ c.compare_dates.result (λ few. omega (arith, few, comparing_least c.args.operator)) c.compare_dates.ensures.short

pub returns-in-Some-Number-clause-short : goal.returns-in-Some-Number-clause-short
returns-in-Some-Number-clause-short c = on_ok _ _ c.compare_numbers.result (λ few. omega (arith, few, comparing_least c.args.operator)) c.compare_numbers.ensures.short
