-- Names that come again and columns: what loops keep.
use Rattle.std.proofs.Common.{◌≡◌, ℕ, add-one, ◌+◌, ◌-◌, ◌<◌, Bool, true, false, ◌||◌, List, [], ◌∷◌, ◌++◌, length, map, take, drop, get_or, Option, Some, Bor, Ok, Err, Result, refl, sym, ap, ◌∙◌, arith, inl, inr, append_assoc}
use Rattle.std.specs.Prelude.{option_map}
use Rattle.std.specs.List.{list_any}
use Rattle.std.specs.Str.{bytes_eq}
use Rattle.std.proofs.lemmas.Slice.{between_to_end}
use Rattle.qw_token.specs.Token.{lexemes}
use Rattle.qw_token.specs.declared.token.Token.{Token}
use Rattle.qw_types.specs.declared.schema.Column.{Column}
use Rattle.qw_types.specs.declared.schema.Table.{Table}
use Rattle.qw_types.specs.declared.value.Ty.{Ty}
use Rattle.qw_ast.specs.declared.tree.ColumnDefinition.{ColumnDefinition}
use Rattle.qw_ast.proofs.StatementLemmas.{drop_next, lexed}
use Rattle.qw_schema.specs.Inner.Tables.{read_of}
use Rattle.qw_schema.specs.declared.parse.SchemaFault.{SchemaFault}
use Rattle.qw_schema.specs.Inner.Judges.{is_twice, judged, judged_from, name_in, columns_of}
use Rattle.qw_schema.proofs.TerminalLemmas.{cases_option}

-- ---- names that come again

abbrev names_of : List ColumnDefinition → List (List ℕ)
names_of cs = map name_in (map read_of cs)

any_named : (name : List ℕ) (cs : List ColumnDefinition) → list_any (λ (c : ColumnDefinition). bytes_eq name c.name) cs ≡ list_any (bytes_eq name) (names_of cs)
any_named name [] = refl
any_named name (c ∷ cs) = ap (λ b. bytes_eq name c.name || b) (any_named name cs)

abbrev comes_again : List ColumnDefinition → ℕ → ColumnDefinition → Bool
comes_again cs i x = list_any (λ (c : ColumnDefinition). bytes_eq x.name c.name) (take (length cs - (i + 1)) (drop (i + 1) cs))

twice_next : (cs : List ColumnDefinition) (i : ℕ) (x : ColumnDefinition) → i < length cs → x ≡ get_or cs i x → is_twice (names_of (drop i cs)) ≡ (comes_again cs i x || is_twice (names_of (drop (i + 1) cs)))
twice_next cs i x lt is =
    let rest = drop (i + 1) cs in
    ap (λ (y : List ColumnDefinition). is_twice (names_of y)) (drop_next cs i x lt)
    ∙ ap (λ (y : ColumnDefinition). is_twice (names_of (y ∷ rest))) (sym is)
    ∙ ap (λ b. b || is_twice (names_of rest)) (sym (any_named x.name rest))
    ∙ ap (λ (y : List ColumnDefinition). list_any (λ (other : ColumnDefinition). bytes_eq x.name other.name) y || is_twice (names_of rest)) (sym (between_to_end cs (i + 1) (length cs) (omega arith)))

pub twice_ends : (cs : List ColumnDefinition) (i : ℕ) (x : ColumnDefinition) → i < length cs → x ≡ get_or cs i x → true ≡ comes_again cs i x → is_twice (names_of (drop i cs)) ≡ is_twice (names_of cs) → true ≡ is_twice (names_of cs)
twice_ends cs i x lt is again before = ap (λ b. b || is_twice (names_of (drop (i + 1) cs))) again ∙ sym (twice_next cs i x lt is) ∙ before

pub twice_goes_on : (cs : List ColumnDefinition) (i : ℕ) (x : ColumnDefinition) → i < length cs → x ≡ get_or cs i x → false ≡ comes_again cs i x → is_twice (names_of (drop i cs)) ≡ is_twice (names_of cs) → is_twice (names_of (drop (i + 1) cs)) ≡ is_twice (names_of cs)
twice_goes_on cs i x lt is again before = ap (λ b. b || is_twice (names_of (drop (i + 1) cs))) again ∙ sym (twice_next cs i x lt is) ∙ before

-- ---- the loop over columns

pub columns_more : (front : List Column) (c : ColumnDefinition) (cs : List ColumnDefinition) (ty : Ty) (all : Option (List Column)) → c.ty ≡ Some ty
    → option_map (λ x. front ++ x) (columns_of (map read_of (c ∷ cs))) ≡ all
    → option_map (λ x. (front ++ record { name = c.name; ty = ty; not_null = c.not_null } ∷ []) ++ x) (columns_of (map read_of cs)) ≡ all
columns_more front c cs ty all is before =
    elim (cases_option (columns_of (map read_of cs))) [
      | inl none ↦ (let e = rw (is, none) at before in rw none e)
      | inr some ↦ (
          let column : Column = record { name = c.name; ty = ty; not_null = c.not_null } in
          let e = rw (is, some.1) at before in
          rw some.1 (ap Some (append_assoc front (column ∷ []) some.0) ∙ e))
    ]

-- ---- the loop over statements

-- a statement that declares a table, and one that has a fault
pub judged_next : (before : List Table) (k : ℕ) (ss : List (Bor (List Token))) (i : ℕ) (d : Bor (List Token)) (t : Table) → i < length ss
    → ◌≡◌ {A = Result Table SchemaFault} (judged before k (lexemes (get_or ss i d).now)) (Ok t)
    → judged_from before k (lexed (drop i ss)) ≡ judged_from (before ++ t ∷ []) (k + 1) (lexed (drop (i + 1) ss))
judged_next before k ss i d t lt is =
    rw (drop_next ss i d lt, is) (ap (λ n. judged_from (before ++ t ∷ []) n (lexed (drop (i + 1) ss))) (sym (add-one k)))

pub judged_faults : (before : List Table) (k : ℕ) (ss : List (Bor (List Token))) (i : ℕ) (d : Bor (List Token)) (fault : SchemaFault) → i < length ss
    → ◌≡◌ {A = Result Table SchemaFault} (judged before k (lexemes (get_or ss i d).now)) (Err fault)
    → judged_from before k (lexed (drop i ss)) ≡ Err fault
judged_faults before k ss i d fault lt is = rw (drop_next ss i d lt, is) refl
