-- What the tests of a module's parts tell of each module that holds what the octets spell.
use Rattle.std.proofs.Common.{◌≡◌, ℕ, ◌+◌, ◌<◌, ◌≤◌, ◌↔◌, Bool, true, false, List, [], ◌∷◌, ◌++◌, length, map, get_or, drop, All, IsTrue, Option, Some, None, Result, Ok, Err, refl, sym, ap, subst, ◌∙◌, ⊎_elim, arith, length-append}
use Rattle.std.specs.Prelude.{◌==◌, if◌then◌else◌, IfSome, IfErr, OnOk}
use Rattle.std.specs.List.{AllByRecursion, AllPairs, filter_map}
use Rattle.std.specs.String.{string_bytes}
use Rattle.std.proofs.lemmas.Bool.{false≢true, cases_lt}
use Rattle.std.proofs.lemmas.List.{length-map, get_or-map, nil_from_length}
use Rattle.std.proofs.lemmas.List.Elements.{All-map, All-from_recursion}
use Rattle.qw_octet_grammar.specs.declared.fault.BinaryFault.TheVariants.{NotModule}
use Rattle.qw_octet_grammar.specs.Grammar.{pick, refuse}
use Rattle.qw_octet_grammar.specs.Numbers.{u32}
use Rattle.qw_octet_grammar.specs.Vectors.{counted}
use Rattle.qw_octet_grammar.specs.Reading.{read}
use Rattle.qw_octet_grammar.proofs.GrammarLaws.{bind_ok}
use Rattle.qw_module.specs.declared.module.Limits.{Limits}
use Rattle.qw_module.specs.declared.module.Import.{Import}
use Rattle.qw_module.specs.declared.module.Import.TheVariants as import
use Rattle.qw_module.specs.declared.module.Function.{Function}
use Rattle.qw_module.specs.declared.module.Export.{Export}
use Rattle.qw_module.specs.declared.module.ExportKind.{ExportKind}
use Rattle.qw_module.specs.declared.module.ExportKind.TheVariants as kind
use Rattle.qw_module.specs.declared.module.Module.{Module}
use Rattle.qw_module.specs.Syntax.{IsNumbered}
use Rattle.qw_module.specs.Typing.{Signature, GlobalType}
use Rattle.qw_module.specs.Validity.{signature_of, sequences_of, imported_function, imported_memory, functions_of, memories_of, IsValidMemory, IsValidImport, IsExportedOf, IsExport, HaveOtherNames}
use Rattle.qw_binary.specs.Contents.{FunctionContents, GlobalContents, ExportContents, Contents, function_contents, global_contents, export_contents, contents_of}
use Rattle.qw_binary.specs.Sections.{next_function, functions}
use Rattle.qw_binary.proofs.NumberedBodies.{numbered_bodies}
use Rattle.qw_valid.specs.declared.valid.Part.{Part}
use Rattle.qw_valid.specs.declared.valid.Part.TheVariants as part
use Rattle.qw_valid.specs.declared.valid.ValidFault.{ValidFault}
use Rattle.qw_valid.specs.declared.valid.ValidFault.TheVariants as fault
use Rattle.qw_valid.specs.ValidFaults.{PartHolds, place_of, BeforeHold, ArePartsValid, IsFault}
use Rattle.qw_scan.specs.declared.exports.Counts.{Counts}
use Rattle.qw_scan.specs.declared.outline.Outline.{Outline}
use Rattle.qw_scan.specs.declared.tables.Tables.{Tables}
use Rattle.qw_scan.specs.Inner.Exported.{IsKindAmong, IsAmong, AreNamedApart}
use Rattle.qw_scan.specs.Inner.Initial.{HasInitial}
use Rattle.qw_scan.specs.Inner.Outlines.{values_at, IsThere, indices_in, contents_in}
use Rattle.qw_scan.specs.Inner.Parts.{HasOneResult, IsImportOf, Describes, decided}
use Rattle.qw_scan.specs.Inner.Tables.{global_of}
use Rattle.qw_scan.specs.Inner.TypesAt.{signature_at}
use Rattle.qw_scan.proofs.ModuleBodies.{counted_codes, values_there}
use Rattle.qw_valid.proofs.NameOrder.{apart_alike}

-- ---- what tells of one thing tells of another

pub retold : {P Q : Type 0} (answer : Option Bool) → (P → Q) → (Q → P) → IfSome answer (λ h. IsTrue h ↔ P) → IfSome answer (λ h. IsTrue h ↔ Q)
retold (Some h) to from told = (λ so. to (told.0 so), λ q. told.1 (from q))
retold None to from told = tt

-- of all of a list, by what they hold
all_held : {X Y : Type 0} (f : X → Y) (P : Y → Type 0) (xs : List X) → All P (map f xs) → All (λ x. P (f x)) xs
all_held f P xs all k d within = subst P (get_or-map f xs k d (f d) within) (all k (f d) (omega (arith, within, length-map xs f)))

abbrev pub counts_of : (functions memories globals : ℕ) → Counts
counts_of functions memories globals = record { functions = functions; memories = memories; globals = globals }

-- ---- indices of types

functions_sized : (own bytes : List ℕ) (fs : List FunctionContents) (last : List ℕ) → read (functions own) bytes ≡ Ok (fs, last) → (count : ℕ) × (mid : List ℕ) × (read u32 bytes ≡ Ok (count, mid))
unfolding read
functions_sized own bytes fs last e =
    let a = bind_ok (read u32 bytes) (λ y. read (pick (y.0 == length own) (counted y.0 (next_function own) []) (refuse NotModule)) y.1) (fs, last) e in
    (a.0.0, a.0.1, a.1)

index_of : FunctionContents → ℕ
index_of f = f.type_index

indices_there : (own whole : List ℕ) (at : Option ℕ) → IsThere (functions own) whole at → length own ≡ length (values_at (functions own) whole at) → map (λ (f : FunctionContents). f.type_index) (values_at (functions own) whole at) ≡ own
unfolding values_at
indices_there own whole None there complete = sym (nil_from_length own complete)
indices_there own whole (Some at) there complete =
    let v = values_there (functions own) whole (Some at) at refl there in
    let s = functions_sized own (drop at whole) v.0 v.1 v.2 in
    ap (map (λ (f : FunctionContents). f.type_index)) v.3 ∙ (counted_codes own (drop at whole) s.0 s.1 v.0 v.1 s.2 v.2).1

module _ (whole : List ℕ) (o : Outline) (t : Tables) (d : Describes whole o t) (m : Module) (same : contents_of m ≡ contents_in whole o) where
  abbrev held : Contents
  held = contents_in whole o

  -- ---- types

  types_same : map (signature_at whole) t.types.items ≡ map signature_of m.types.items
  types_same = d.tabled.types ∙ sym (ap (λ (c : Contents). c.types) same)

  pub type_count : length t.types.items ≡ length m.types.items
  type_count = sym (length-map t.types.items (signature_at whole)) ∙ ap (λ (ss : List Signature). length ss) types_same ∙ length-map m.types.items signature_of

  pub types_told : (answer : Option Bool) → IfSome answer (λ h. IsTrue h ↔ All HasOneResult (map (signature_at whole) t.types.items)) → IfSome answer (λ h. IsTrue h ↔ PartHolds m part.Types)
  types_told answer told = retold answer
      (λ all. all_held signature_of HasOneResult m.types.items (subst (All HasOneResult) types_same all))
      (λ all. subst (All HasOneResult) (sym types_same) (All-map HasOneResult signature_of m.types.items all)) told

  -- ---- imports

  imports_same : t.imports.items ≡ m.imports.items
  imports_same = d.tabled.imports ∙ sym (ap (λ (c : Contents). c.imports) same)

  import_valid : (n : ℕ) → n ≡ length m.types.items → (x : Import) → IsImportOf n x → IsValidImport m x
  import_valid n few (import.Memory limits) valid = valid
  import_valid n few (import.Raise type) valid = omega (arith, few, valid)
  import_valid n few (import.Pages type) valid = omega (arith, few, valid)

  import_of : (n : ℕ) → n ≡ length m.types.items → (x : Import) → IsValidImport m x → IsImportOf n x
  import_of n few (import.Memory limits) valid = valid
  import_of n few (import.Raise type) valid = omega (arith, few, valid)
  import_of n few (import.Pages type) valid = omega (arith, few, valid)

  pub imports_told : (n : ℕ) (h : Bool) → n ≡ length t.types.items → IsTrue h ↔ All (IsImportOf n) t.imports.items → IsTrue h ↔ PartHolds m part.Imports
  imports_told n h few told =
      let count : n ≡ length m.types.items = few ∙ type_count in (
        λ so. subst (All (IsValidImport m)) imports_same (λ k e within. import_valid n count (get_or t.imports.items k e) (told.0 so k e within)),
        λ all. told.1 (subst (All (IsImportOf n)) (sym imports_same) (λ k e within. import_of n count (get_or m.imports.items k e) (all k e within))),
      )

  -- ---- functions

  functions_same : held.functions ≡ map function_contents m.functions.items
  functions_same = sym (ap (λ (c : Contents). c.functions) same)

  indices_same : indices_in whole o ≡ map (λ (f : FunctionContents). f.type_index) (map function_contents m.functions.items)
  indices_same = sym (indices_there (indices_in whole o) whole o.codes d.outlined.codes d.complete) ∙ ap (map (λ (f : FunctionContents). f.type_index)) functions_same

  function_count : length (indices_in whole o) ≡ length m.functions.items
  function_count = d.complete ∙ ap (λ (fs : List FunctionContents). length fs) functions_same ∙ length-map m.functions.items function_contents

  numbered : All (λ (f : Function). IsNumbered (sequences_of f.body)) m.functions.items
  numbered = all_held function_contents (λ (f : FunctionContents). IsNumbered f.body) m.functions.items
      (All-from_recursion (λ (f : FunctionContents). IsNumbered f.body) (map function_contents m.functions.items)
      (subst (AllByRecursion (λ (f : FunctionContents). IsNumbered f.body)) functions_same (numbered_bodies whole held d.spelled)))

  pub functions_told : (own : List ℕ) (n : ℕ) (h : Bool) → own ≡ indices_in whole o → n ≡ length t.types.items → IsTrue h ↔ All (λ index. index < n) own → IsTrue h ↔ PartHolds m part.Functions
  functions_told own n h own_is few told =
      let count : n ≡ length m.types.items = few ∙ type_count in
      let indices : own ≡ map (λ (f : FunctionContents). f.type_index) (map function_contents m.functions.items) = own_is ∙ indices_same in (
        λ so.
            let all = all_held function_contents (λ (f : FunctionContents). f.type_index < n) m.functions.items
            (all_held (λ (f : FunctionContents). f.type_index) (λ index. index < n) (map function_contents m.functions.items) (subst (All (λ index. index < n)) indices (told.0 so))) in
            λ k e within. let one = all k e within in (omega (arith, one, count), numbered k e within),
        λ all. told.1 (subst (All (λ index. index < n)) (sym indices)
            (All-map (λ index. index < n) (λ (f : FunctionContents). f.type_index) (map function_contents m.functions.items)
            (All-map (λ (f : FunctionContents). f.type_index < n) function_contents m.functions.items (λ k e within. let one = (all k e within).0 in omega (arith, one, count))))),
      )

  -- ---- memories

  memories_same : held.memories ≡ m.memories.items
  memories_same = sym (ap (λ (c : Contents). c.memories) same)

  pub memories_told : (before : ℕ) (answer : Option Bool) → before ≡ length (filter_map imported_memory t.imports.items) →
      IfSome answer (λ h. IsTrue h ↔ (All IsValidMemory held.memories × (before + length held.memories ≤ 1))) → IfSome answer (λ h. IsTrue h ↔ PartHolds m part.Memory)
  memories_told before answer imported told =
      let first : before ≡ length (filter_map imported_memory m.imports.items) = imported ∙ ap (λ (xs : List Import). length (filter_map imported_memory xs)) imports_same in
      let second : length held.memories ≡ length m.memories.items = ap (λ (xs : List Limits). length xs) memories_same in
      let both : length (memories_of m) ≡ before + length held.memories = omega (arith, first, second, length-append (filter_map imported_memory m.imports.items) m.memories.items) in
      retold answer
      (λ valid. let few = valid.1 in (subst (All IsValidMemory) memories_same valid.0, omega (arith, few, both)))
      (λ valid. let few = valid.1 in (subst (All IsValidMemory) (sym memories_same) valid.0, omega (arith, few, both))) told

  -- ---- globals

  globals_same : held.globals ≡ map global_contents m.globals.items
  globals_same = sym (ap (λ (c : Contents). c.globals) same)

  pub globals_told : (answer : Option Bool) → IfSome answer (λ h. IsTrue h ↔ All HasInitial held.globals) → IfSome answer (λ h. IsTrue h ↔ PartHolds m part.Globals)
  globals_told answer told = retold answer
      (λ all. all_held global_contents HasInitial m.globals.items (subst (All HasInitial) globals_same all))
      (λ all. subst (All HasInitial) (sym globals_same) (All-map HasInitial global_contents m.globals.items all)) told

  -- ---- exports

  exports_same : held.exports ≡ map export_contents m.exports.items
  exports_same = sym (ap (λ (c : Contents). c.exports) same)

  functions_in_all : length t.functions.items ≡ length (functions_of m)
  functions_in_all =
      let imported : length (filter_map imported_function held.imports) ≡ length (filter_map imported_function m.imports.items) = ap (λ (c : Contents). length (filter_map imported_function c.imports)) (sym same) in
      let own = function_count in
      let table : length t.functions.items ≡ length (filter_map imported_function held.imports) + length (indices_in whole o) =
      ap (λ (ns : List ℕ). length ns) d.tabled.functions ∙ length-append (filter_map imported_function held.imports) (indices_in whole o) in
      omega (arith, imported, own, table, length-append (filter_map imported_function m.imports.items) (map (λ (f : Function). f.type_index) m.functions.items), length-map m.functions.items (λ (f : Function). f.type_index))

  memories_in_all : (n : ℕ) → n ≡ length (filter_map imported_memory t.imports.items ++ held.memories) → n ≡ length (memories_of m)
  memories_in_all n is = is ∙ ap (λ (xs : List Import). length (filter_map imported_memory xs ++ held.memories)) imports_same ∙ ap (λ (xs : List Limits). length (filter_map imported_memory m.imports.items ++ xs)) memories_same

  globals_in_all : length t.globals.items ≡ length m.globals.items
  globals_in_all =
      sym (length-map t.globals.items global_of) ∙ ap (λ (gs : List GlobalType). length gs) d.tabled.globals ∙ length-map held.globals (λ (g : GlobalContents). g.type)
      ∙ ap (λ (gs : List GlobalContents). length gs) globals_same ∙ length-map m.globals.items global_contents

  -- there are so many things of each kind
  abbrev pub HasCounts : Counts → Type 0
  HasCounts counts = (counts.functions ≡ length t.functions.items) × (counts.memories ≡ length (filter_map imported_memory t.imports.items ++ held.memories)) × (counts.globals ≡ length t.globals.items)

  exported_of : (counts : Counts) → HasCounts counts → (x : ExportKind) → IsKindAmong counts x → IsExportedOf m x
  exported_of counts (functions, memories, globals) (kind.Function index) among = let all = functions_in_all in omega (arith, among, functions, all)
  exported_of counts (functions, memories, globals) (kind.Memory index) among = let all = memories_in_all counts.memories memories in omega (arith, among, all)
  exported_of counts (functions, memories, globals) (kind.Global index) among = let all = globals_in_all in omega (arith, among, globals, all)

  among_exported : (counts : Counts) → HasCounts counts → (x : ExportKind) → IsExportedOf m x → IsKindAmong counts x
  among_exported counts (functions, memories, globals) (kind.Function index) there = let all = functions_in_all in omega (arith, there, functions, all)
  among_exported counts (functions, memories, globals) (kind.Memory index) there = let all = memories_in_all counts.memories memories in omega (arith, there, all)
  among_exported counts (functions, memories, globals) (kind.Global index) there = let all = globals_in_all in omega (arith, there, globals, all)

  module _ (counts : Counts) (has : HasCounts counts) (found : List ExportContents) (is : found ≡ held.exports) where
    all_found : found ≡ map export_contents m.exports.items
    all_found = is ∙ exports_same

    there_told : (h : Bool) → IsTrue h ↔ All (IsAmong counts) found → IsTrue h ↔ All (IsExport m) m.exports.items
    there_told h told = (
      λ so.
          let all = all_held export_contents (IsAmong counts) m.exports.items (subst (All (IsAmong counts)) all_found (told.0 so)) in
          λ k e within. exported_of counts has (get_or m.exports.items k e).kind (all k e within),
      λ all. told.1 (subst (All (IsAmong counts)) (sym all_found)
          (All-map (IsAmong counts) export_contents m.exports.items (λ k e within. among_exported counts has (get_or m.exports.items k e).kind (all k e within)))),
    )

    names_same : map (λ (e : ExportContents). e.name) found ≡ map (λ (e : Export). string_bytes e.name) m.exports.items
    names_same = ap (map (λ (e : ExportContents). e.name)) all_found ∙ names_of m.exports.items
      where
        names_of : (es : List Export) → map (λ (e : ExportContents). e.name) (map export_contents es) ≡ map (λ (e : Export). string_bytes e.name) es
        names_of [] = refl
        names_of (e ∷ es) = ap (λ (rest : List (List ℕ)). string_bytes e.name ∷ rest) (names_of es)

    names_apart : (r : Bool) → IsTrue r ↔ AllPairs AreNamedApart found → IsTrue r ↔ AllPairs HaveOtherNames m.exports.items
    names_apart r told = (
      λ so. apart_alike (λ (e : ExportContents). e.name) (λ (e : Export). string_bytes e.name) found m.exports.items names_same (told.0 so),
      λ all. told.1 (apart_alike (λ (e : Export). string_bytes e.name) (λ (e : ExportContents). e.name) m.exports.items found (sym names_same) all),
    )

    -- some export is of what isn't there
    pub export_not_there : (h : Bool) → h ≡ false → IsTrue h ↔ All (IsAmong counts) found → IsTrue false ↔ PartHolds m part.Exports
    export_not_there h isnt told = (λ so. absurd (false≢true so), λ both. absurd (false≢true (sym isnt ∙ (there_told h told).1 both.0)))

    -- all are there
    pub exports_told : (h : Bool) (answer : Option Bool) → h ≡ true → IsTrue h ↔ All (IsAmong counts) found → IfSome answer (λ r. IsTrue r ↔ AllPairs AreNamedApart found) → IfSome answer (λ r. IsTrue r ↔ PartHolds m part.Exports)
    exports_told h (Some r) holds told names =
        let apart = names_apart r names in
        (λ so. ((there_told h told).0 holds, apart.0 so), λ both. apart.1 both.1)
    exports_told h None holds told names = tt

-- ---- all parts, one after another

part_at : ℕ → Part
part_at n =
    if n == 0 then part.Types
    else if n == 1 then part.Imports
    else if n == 2 then part.Functions
    else if n == 3 then part.Memory
    else if n == 4 then part.Globals
    else part.Exports

at_place : (p : Part) → part_at (place_of p) ≡ p
unfolding part_at
at_place part.Types = refl
at_place _ = refl

few_parts : (p : Part) → place_of p < 6
few_parts part.Types = omega arith
few_parts _ = omega arith

abbrev refused : ValidFault → Result (Unit {0}) ValidFault
refused why = Err why

fault_is : (f g : ValidFault) → refused f ≡ refused g → f ≡ g
fault_is f g e = cc

module _ (m : Module) where
  pub none_before : BeforeHold m 0
  none_before p less = absurd (omega (arith, less))

  -- the answer of the part that comes next
  abbrev pub Answers : Part → Option Bool → Type 0
  Answers p answer = IfSome answer (λ h. IsTrue h ↔ PartHolds m p)

  holds_where : (p : Part) (answer : Option Bool) → Answers p answer → decided p answer ≡ Ok tt → PartHolds m p
  holds_where p (Some true) told e = told.0 refl
  holds_where p (Some false) told e = absurd cc
  holds_where p None told e = absurd cc

  pub one_more_holds : (p : Part) (answer : Option Bool) (x : Unit {0}) → Answers p answer → decided p answer ≡ Ok x → BeforeHold m (place_of p) → BeforeHold m (place_of p + 1)
  one_more_holds p answer x told e before q less =
      ⊎_elim (λ (earlier : place_of q < place_of p). before q earlier)
      (λ (later : place_of p ≤ place_of q).
      let same : place_of q ≡ place_of p = omega (arith, later, less) in
      let is : q ≡ p = sym (at_place q) ∙ ap part_at same ∙ at_place p in
      subst (PartHolds m) (sym is) (holds_where p answer told e))
      (cases_lt (place_of q) (place_of p))

  pub fault_here : (p : Part) (answer : Option Bool) (why : ValidFault) → Answers p answer → decided p answer ≡ Err why → BeforeHold m (place_of p) → IsFault why m
  fault_here p (Some true) why told e before = absurd cc
  fault_here p (Some false) why told e before = subst (λ (f : ValidFault). IsFault f m) (fault_is (fault.Part p) why e) (before, λ holds. false≢true (told.1 holds))
  fault_here p None why told e before = subst (λ (f : ValidFault). IsFault f m) (fault_is fault.NoMemory why e) tt

  pub all_hold : BeforeHold m 6 → ArePartsValid m
  all_hold before p = before p (few_parts p)

  -- the last part
  pub last_valid : (answer : Option Bool) (r : Result (Unit {0}) ValidFault) → Answers part.Exports answer → r ≡ decided part.Exports answer → BeforeHold m 5 → OnOk r (ArePartsValid m)
  last_valid answer (Ok x) told is before = all_hold (one_more_holds part.Exports answer x told (sym is) before)
  last_valid answer (Err why) told is before = tt

  pub last_fault : (answer : Option Bool) (r : Result (Unit {0}) ValidFault) → Answers part.Exports answer → r ≡ decided part.Exports answer → BeforeHold m 5 → IfErr r (λ why. IsFault why m)
  last_fault answer (Ok x) told is before = tt
  last_fault answer (Err why) told is before = fault_here part.Exports answer why told (sym is) before
