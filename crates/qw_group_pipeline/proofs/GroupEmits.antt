-- What is emitted for the groups of a table, from what was emitted for their parts.
use Rattle.std.proofs.Common.{◌≡◌, ℕ, ◌+◌, ◌*◌, ◌≤◌, inl, inr, Bool, true, false, Some, None, List, [], ◌∷◌, ◌++◌, length, map, not, refl, sym, ap, ◌∙◌, subst, append_assoc, append-nil, length-append, arith}
use Rattle.std.specs.List.{AllByRecursion}
use Rattle.qw_types.specs.Kind.{type_kind}
use Rattle.qw_types.specs.Value.{type_scale}
use Rattle.qw_layout.specs.Row.{cell_offset}
use Rattle.qw_map.proofs.AreaLemmas.{all-append}
use Rattle.qw_module.specs.declared.instruction.ValType.{ValType}
use Rattle.qw_module.specs.declared.instruction.ValType.TheVariants.{I32}
use Rattle.qw_scalar.specs.Expression.{Expression, scale_of}
use Rattle.qw_scalar.specs.Typing.{kind_of}
use Rattle.qw_low.specs.declared.step.LowStep.{LowStep}
use Rattle.qw_low.specs.Steps.{steps_of}
use Rattle.qw_low.specs.Syntax.{Statement, seq}
use Rattle.qw_expr.specs.Bindings.{IsServed, Knows}
use Rattle.qw_expr.specs.Cells.{IsBelow, IsBelowNull}
use Rattle.qw_expr.specs.Computes.{AreBelow, Known}
use Rattle.qw_expr.specs.Emits.{extent, free_of}
use Rattle.qw_expr.specs.declared.emitter.Emitter.{Emitter}
use Rattle.qw_expr.specs.declared.operand.Operand.{Operand}
use Rattle.qw_expr.proofs.Nulls.{known_below_more}
use Rattle.qw_read.specs.Reading.{most_of}
use Rattle.qw_table.specs.Entries.{cell_from}
use Rattle.qw_group.specs.Values.{may_be_null}
use Rattle.qw_group.specs.Walks.{groups_walk_block}
use Rattle.qw_physical.specs.Physical.{Operator, Sink}
use Rattle.qw_physical.specs.declared.pipeline.ReadColumn.{ReadColumn}
use Rattle.qw_operator.specs.Carries.{EmitsTo, IsCarriedTo, ReadsEntry, entry_types, known_entry}
use Rattle.qw_operator.specs.Takes.{CanCarry, anywhere}
use Rattle.qw_operator.specs.Grouping.{Group}
use Rattle.qw_operator.specs.Puts.{IsGroupedWithin}
use Rattle.qw_operator.specs.Kept.{ReadsKept}
use Rattle.qw_operator.proofs.EntryReads.{entry_many}
use Rattle.qw_operator.proofs.KeptReads.{kept_free}
use Rattle.qw_operator.proofs.Knowing.{carry_over, served_entry}
use Rattle.qw_operator.proofs.Unguarded.{emits_map, unguarded}
use Rattle.qw_table.specs.declared.key.Field.{Field}
use Rattle.qw_group_pipeline.specs.Groups.{EmitsGroupsTo, Grouping, InEnd, IsGroupRowTo, ReadsValues, all_anywhere, known_group, known_values, value_anywhere, values_types}
use Rattle.qw_group_pipeline.specs.Inner.Met.{IsMet}
use Rattle.qw_group_pipeline.specs.Inner.Valued.{ReadsValued}
use Rattle.qw_group_pipeline.specs.declared.columns.ValueColumn.{ValueColumn}
use Rattle.qw_group_pipeline.proofs.GroupsShort.{groups_short, met_long}
use Rattle.qw_group_pipeline.proofs.ValueReads.{values_many}

-- ---- a group is met
module _ (literals : List Known) (first entry : ℕ) (key : List ReadColumn) (values : List ValueColumn) (start mid inner : Emitter) (some more all : List Known) (first_is : start.first ≡ first) (no_code : start.block.code.items ≡ []) (no_own : start.own.items ≡ [])
    (entry_is : first ≡ entry + 1) (k : ReadsKept 24 entry key start mid some) (v : ReadsValued (24 + 16 * length key) entry values mid inner more) (all_is : all ≡ (some ++ more) ++ literals) where
  start_free : free_of start ≡ first
  start_free = let none = ap (λ (l : List ValType). length l) no_own in omega (arith, none, first_is)

  mid_free : free_of mid ≡ first + 3 * length key
  mid_free = let far = kept_free 24 entry key start mid some k in let from = start_free in omega (arith, far, from)

  pub met_made : IsMet literals first key values inner all
  met_made = record {
    entry = entry;
    entry_is = entry_is;
    first_is = v.first_is ∙ (k.first_is ∙ first_is);
    key_reads = k.reads;
    value_reads = v.reads;
    code_is = v.code_is ∙ ap (λ (l : List LowStep). l ++ steps_of v.reads) (k.code_is ∙ ap (λ (l : List LowStep). l ++ steps_of k.reads) no_code);
    own_is = v.own_is ∙ ap (λ (l : List ValType). l ++ values_types values) (k.own_is ∙ ap (λ (l : List ValType). l ++ entry_types key) no_own);
    key_reading = subst (λ (n : ℕ). ReadsEntry 24 entry n key k.reads) start_free k.reading;
    value_reading = subst (λ (n : ℕ). ReadsValues (24 + 16 * length key) entry n values v.reads) mid_free v.reading;
    known_is = all_is
        ∙ (ap (λ (l : List Known). (l ++ more) ++ literals) (k.known_is ∙ ap (λ (n : ℕ). known_entry n key) start_free)
        ∙ ap (λ (l : List Known). (known_entry first key ++ l) ++ literals) (v.known_is ∙ ap (λ (n : ℕ). known_values n values) mid_free));
  }

-- ---- what is known at a group
abbrev value_operand : (free : ℕ) → ValueColumn → Operand
value_operand free v = record { cell = cell_from free (may_be_null v.function); kind = Some (type_kind v.ty); scale = type_scale v.ty; most = most_of v.ty }

abbrev key_operand : (free : ℕ) → ReadColumn → Operand
key_operand free c = record { cell = cell_from free (not c.not_null); kind = Some (type_kind c.ty); scale = type_scale c.ty; most = most_of c.ty }

values_known : (free : ℕ) (values : List ValueColumn) (known : List Known) (e : Expression) → Knows (map value_anywhere values ++ known) e → Knows (known_values free values ++ known) e
values_known free [] known e h = h
values_known free (v ∷ values) known e (o, inl same) = (value_operand free v, inl (ap (λ (x : Known). let k : Known = record { expression = x.expression; operand = value_operand free v } in k) same))
values_known free (v ∷ values) known e (o, inr there) = let rest = values_known (free + 8) values known e (o, there) in (rest.0, inr rest.1)

keys_known : (free : ℕ) (key : List ReadColumn) (xs ys : List Known) (over : (e : Expression) → Knows xs e → Knows ys e) (e : Expression) → Knows (map anywhere key ++ xs) e → Knows (known_entry free key ++ ys) e
keys_known free [] xs ys over e h = over e h
keys_known free (c ∷ key) xs ys over e (o, inl same) = (key_operand free c, inl (ap (λ (x : Known). let k : Known = record { expression = x.expression; operand = key_operand free c } in k) same))
keys_known free (c ∷ key) xs ys over e (o, inr there) = let rest = keys_known (free + 3) key xs ys over e (o, there) in (rest.0, inr rest.1)

pub group_takes : (free : ℕ) (key : List ReadColumn) (values : List ValueColumn) (literals : List Known) (operators : List Operator) (sink : Sink) → CanCarry (all_anywhere key values ++ literals) operators sink → CanCarry (known_group free key values ++ literals) operators sink
group_takes free key values literals operators sink h =
    let some : List Known = known_values (free + 3 * length key) values in
    subst (λ (ks : List Known). CanCarry ks operators sink) (sym (append_assoc (known_entry free key) some literals))
    (carry_over (map anywhere key ++ (map value_anywhere values ++ literals)) (known_entry free key ++ (some ++ literals))
    (keys_known free key (map value_anywhere values ++ literals) (some ++ literals) (values_known (free + 3 * length key) values literals)) operators sink
    (subst (λ (ks : List Known). CanCarry ks operators sink) (append_assoc (map anywhere key) (map value_anywhere values) literals) h))

null_below : (free n : ℕ) (nullable : Bool) → free + 3 ≤ n → IsBelowNull n (cell_from free nullable).null
null_below free n true le = omega (arith, le)
null_below free n false le = tt

values_below : (free n : ℕ) (values : List ValueColumn) → free + 8 * length values ≤ n → AreBelow n (known_values free values)
values_below free n [] le = tt
values_below free n (v ∷ values) le = (
  (omega (arith, le), omega (arith, le), null_below free n (may_be_null v.function) (omega (arith, le))),
  values_below (free + 8) n values (omega (arith, le)),
)

abbrev IsDescribed : Known → Type 0
IsDescribed k = (k.operand.kind ≡ kind_of k.expression) × (k.operand.scale ≡ scale_of k.expression)

values_described : (free : ℕ) (values : List ValueColumn) → AllByRecursion IsDescribed (known_values free values)
values_described free [] = tt
values_described free (v ∷ values) = ((refl, refl), values_described (free + 8) values)

pub group_served : (m free n : ℕ) (key : List ReadColumn) (values : List ValueColumn) (literals : List Known) → m ≤ free → free + 3 * length key + 8 * length values ≤ n → IsServed m literals → IsServed n (known_group free key values ++ literals)
group_served m free n key values literals low high served =
    let some : List Known = known_values (free + 3 * length key) values in
    let keys : IsServed n (known_entry free key) = subst (IsServed n) (append-nil (known_entry free key)) (served_entry free free n key [] (omega arith) (omega (arith, high)) (tt, tt)) in (
      all-append (λ (k : Known). IsBelow n k.operand.cell) (known_entry free key ++ some) literals
          (all-append (λ (k : Known). IsBelow n k.operand.cell) (known_entry free key) some keys.0 (values_below (free + 3 * length key) n values high)) (known_below_more m n literals (omega (arith, low, high)) served.0),
      all-append IsDescribed (known_entry free key ++ some) literals (all-append IsDescribed (known_entry free key) some keys.1 (values_described (free + 3 * length key) values)) served.1,
    )

-- ---- what is done there
module _ (literals : List Known) (count : ℕ) (key : List ReadColumn) (values : List ValueColumn) (inner : Emitter) (held : List Known) (met : IsMet literals (count + 2) key values inner held) where
  pub inner_free : free_of inner ≡ count + 2 + 3 * length key + 8 * length values
  inner_free =
      let own = ap (λ (l : List ValType). length l) met.own_is ∙ length-append (entry_types key) (values_types values) in
      let keys = entry_many key in
      let areas = values_many values in
      let first = met.first_is in
      omega (arith, own, keys, areas, first)

  entry_at : met.entry ≡ count + 1
  entry_at = let is = met.entry_is in omega (arith, is)

  -- within the reads operators were emitted, and what is innermost
  module _ (End : List Known → (next : ℕ) → Statement → List ValType → Type 0) (operators : List Operator) (directory : ℕ) (old mid new done : Emitter) (count_is : count ≡ free_of old) (em : EmitsTo End held operators inner done) (code : mid.block.code.items ≡ old.block.code.items)
      (own : mid.own.items ≡ old.own.items ++ (I32 ∷ I32 ∷ [])) (walked : (b : Statement) → done.block.code.items ≡ steps_of b → new.block.code.items ≡ mid.block.code.items ++ steps_of (groups_walk_block directory count b)) (joined : new.own.items ≡ mid.own.items ++ done.own.items) where
    abbrev at_group : Statement
    at_group = seq met.key_reads (seq met.value_reads em.statement)

    at_group_is : done.block.code.items ≡ steps_of (seq met.key_reads (seq met.value_reads em.statement))
    at_group_is = em.code_is ∙ (ap (λ (l : List LowStep). l ++ steps_of em.statement) met.code_is ∙ append_assoc (steps_of met.key_reads) (steps_of met.value_reads) (steps_of em.statement))

    own_done : done.own.items ≡ entry_types key ++ (values_types values ++ em.own)
    own_done = em.own_is ∙ (ap (λ (l : List ValType). l ++ em.own) met.own_is ∙ append_assoc (entry_types key) (values_types values) em.own)

    row_here : IsGroupRowTo (InEnd End operators) literals (count + 1) (cell_offset (length key)) (count + 2) key values (seq met.key_reads (seq met.value_reads em.statement)) (entry_types key ++ (values_types values ++ em.own))
    row_here = record {
      key_reads = met.key_reads;
      value_reads = met.value_reads;
      rest = em.statement;
      rest_own = em.own;
      is = refl;
      own_is = refl;
      key_reading = subst (λ (n : ℕ). ReadsEntry (cell_offset 0) n (count + 2) key met.key_reads) entry_at met.key_reading;
      value_reading = subst (λ (n : ℕ). ReadsValues (cell_offset (length key)) n (count + 2 + 3 * length key) values met.value_reads) entry_at met.value_reading;
      carried = subst (λ (n : ℕ). IsCarriedTo End (known_group (count + 2) key values ++ literals) n operators em.statement em.own) inner_free
          (subst (λ (ks : List Known). IsCarriedTo End ks (free_of inner) operators em.statement em.own) met.known_is em.carried);
    }

    pub groups_emit : new.first ≡ old.first → EmitsGroupsTo (InEnd End operators) literals directory key values old new
    groups_emit first =
        let b : Statement = seq met.key_reads (seq met.value_reads em.statement) in
        let own_here : List ValType = entry_types key ++ (values_types values ++ em.own) in
        record {
          first_is = first;
          statement = groups_walk_block directory (free_of old) b;
          own = (I32 ∷ I32 ∷ []) ++ own_here;
          code_is = walked b at_group_is ∙ (ap (λ (l : List LowStep). l ++ steps_of (groups_walk_block directory count b)) code ∙ ap (λ (n : ℕ). old.block.code.items ++ steps_of (groups_walk_block directory n b)) count_is);
          own_is = joined ∙ (ap (λ (l : List ValType). l ++ done.own.items) own ∙ (append_assoc old.own.items (I32 ∷ I32 ∷ []) done.own.items ∙ ap (λ (l : List ValType). old.own.items ++ ((I32 ∷ I32 ∷ []) ++ l)) own_done));
          pipeline = record {
            met = b;
            met_own = own_here;
            is = refl;
            own_is = refl;
            row = subst (λ (n : ℕ). IsGroupRowTo (InEnd End operators) literals (n + 1) (cell_offset (length key)) (n + 2) key values b own_here) count_is row_here;
          };
        }

    pub groups_within : (rest : ℕ) → extent done ≤ extent inner + rest → extent new ≤ extent old + (25 * length key + 328 * length values + rest + 60)
    groups_within rest within =
        groups_short old mid new inner done directory count (25 * length key + 328 * length values) rest at_group at_group_is code own (walked at_group at_group_is) joined (met_long literals (count + 2) key values inner held met) within

-- ---- a row that goes into another table of groups, where none is passed over
pub into_groups : (fields : List Field) (g : Group) (known : List Known) (operators : List Operator) (old new : Emitter) → EmitsTo (λ ks n a own. IsGroupedWithin None fields ks n g a own) known operators old new → EmitsTo (Grouping fields g) known operators old new
into_groups fields g known operators old new h =
    emits_map (λ ks n a own. IsGroupedWithin None fields ks n g a own) (Grouping fields g) (λ ks n a own is. unguarded fields ks n g a own is) known operators old new h
