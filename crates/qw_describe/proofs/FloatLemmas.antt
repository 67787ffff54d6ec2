-- What is told has no float.
use Rattle.std.proofs.Common.{◌≡◌, ◌||◌, Bool, false, List, [], ◌∷◌, ℕ, Option, Some, None, map, refl, ap₂}
use Rattle.serde_json.specs.Data.{Data}
use Rattle.serde_json.specs.View.{items_of}
use Rattle.serde_json.specs.Written.{has_float, items_have_float}
use Rattle.qw_types.specs.declared.kind.Kind.{Kind}
use Rattle.qw_types.specs.declared.kind.Kind.TheVariants as kind
use Rattle.qw_types.specs.declared.schema.Column.{Column}
use Rattle.qw_types.specs.declared.schema.Table.{Table}
use Rattle.qw_types.specs.declared.value.Ty.{Ty}
use Rattle.qw_types.specs.declared.value.Ty.TheVariants as ty
use Rattle.qw_module.specs.declared.module.Import.{Import}
use Rattle.qw_module.specs.declared.module.Import.TheVariants as import
use Rattle.qw_map.specs.Layout.{Layout}
use Rattle.qw_order.specs.declared.sort_key.SortKey.{SortKey}
use Rattle.qw_sink.specs.declared.sink.Head.{Head}
use Rattle.qw_describe.specs.Description.{told, told_column, told_head, told_import, told_key, told_kind, told_number, told_option, told_table, told_type, told_used}

neither : (b c : Bool) → b ≡ false → c ≡ false → (b || c) ≡ false
neither b c first second = ap₂ (λ x y. x || y) first second

none_in_list : {T : Type 0} (f : T → Data) (xs : List T) → ((x : T) → has_float (f x) ≡ false) → items_have_float (items_of (map f xs)) ≡ false
none_in_list f [] none = refl
none_in_list f (x ∷ xs) none = neither _ _ (none x) (none_in_list f xs none)

none_in_type : (type : Ty) → has_float (told_type type) ≡ false
none_in_type ty.Integer = refl
none_in_type (ty.Decimal precision scale) = refl
none_in_type ty.Date = refl
none_in_type (ty.Varchar length) = refl

none_in_column : (column : Column) → has_float (told_column column) ≡ false
none_in_column column = neither _ _ (none_in_type column.ty) refl

none_in_table : (table : Table) → has_float (told_table table) ≡ false
none_in_table table = neither _ _ (none_in_list told_column table.columns none_in_column) refl

none_in_option : (n : Option ℕ) → has_float (told_option n) ≡ false
none_in_option None = refl
none_in_option (Some n) = refl

none_in_import : (one : Import) → has_float (told_import one) ≡ false
none_in_import (import.Memory limits) = neither _ _ (none_in_option limits.max) refl
none_in_import (import.Raise type) = refl
none_in_import (import.Pages type) = refl

none_in_kind : (k : Kind) → has_float (told_kind k) ≡ false
none_in_kind (kind.Number scale) = refl
none_in_kind kind.Date = refl
none_in_kind kind.Text = refl

none_in_head : (head : Head) → has_float (told_head head) ≡ false
none_in_head head = neither _ _ (none_in_kind head.kind) refl

pub none_in_told : (tables : List Table) (imports : List Import) (layout : Layout) (header : List Head) (keys : List SortKey)
    → has_float (told tables imports layout header keys) ≡ false
unfolding told
none_in_told tables imports layout header keys =
    neither _ _ (none_in_list told_used layout.columns (λ used. refl))
    (neither _ _ (none_in_list told_import imports none_in_import)
    (neither _ _ (none_in_list told_number layout.literals (λ n. refl))
    (neither _ _ (none_in_list told_key keys (λ key. refl))
    (neither _ _ (none_in_list told_head header none_in_head)
    (neither _ _ (none_in_list told_table tables none_in_table) refl)))))
