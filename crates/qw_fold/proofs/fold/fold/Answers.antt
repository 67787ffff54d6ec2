use Rattle.std.proofs.Common.{ap, ◌∙◌}
use Rattle.qw_meaning.specs.Select.{Parts}
use Rattle.qw_meaning.proofs.SelectLemmas.{conjuncts_typed, items_typed}
use Rattle.qw_fold.proofs.Lists.{FoldsTo, folded_made, same_made, short_made, specification_made, texts_made}
use Rattle.qw_fold.proofs.fold.fold.Goals as goal

pub conjuncts_of-requires : goal.conjuncts_of-requires
conjuncts_of-requires c =
    record { typed = rw c.conjuncts.ensures.conjuncts (conjuncts_typed c.args.select.now c.conjuncts.ensures.kept) }

pub items_of-requires : goal.items_of-requires
items_of-requires c = record { typed = rw c.items.ensures.items (items_typed c.args.select.now c.items.ensures.kept) }

pub new-requires : goal.new-requires
new-requires c =
    let made : Parts = record { table = c.table.result; columns = c.in_ok-columns.columns.items; conjuncts = c.in_ok-conjuncts.conjuncts.items; items = c.in_ok-items.items.items } in
    let folds : FoldsTo c.args.select.now made = record {
      table = c.table.ensures.table;
      columns = c.in_ok-columns.ensures ∙ c.columns.ensures.columns;
      conjuncts = rw c.conjuncts.ensures.conjuncts at c.in_ok-conjuncts.ensures;
      items = rw c.items.ensures.items at c.in_ok-items.ensures;
    } in
    specification_made c.args.select.now made folds c.conjuncts.ensures.kept

folds_to : (c : goal.After-new) → FoldsTo c.args.select.now c.new.result
folds_to c = record {
  table = ap (λ (p : Parts). p.table) c.new.ensures ∙ c.table.ensures.table;
  columns = ap (λ (p : Parts). p.columns) c.new.ensures ∙ (c.in_ok-columns.ensures ∙ c.columns.ensures.columns);
  conjuncts = rw c.new.ensures (rw c.conjuncts.ensures.conjuncts at c.in_ok-conjuncts.ensures);
  items = rw c.new.ensures (rw c.items.ensures.items at c.in_ok-items.ensures);
}

pub returns-clause-same : goal.returns-clause-same
returns-clause-same c = same_made c.args.select.now c.new.result (folds_to c)

pub returns-clause-folded : goal.returns-clause-folded
returns-clause-folded c = folded_made c.args.select.now c.new.result (folds_to c)

pub returns-clause-short : goal.returns-clause-short
returns-clause-short c = short_made c.args.select.now c.new.result (folds_to c)

pub returns-clause-texts : goal.returns-clause-texts
returns-clause-texts c = texts_made c.args.select.now c.new.result (folds_to c)
