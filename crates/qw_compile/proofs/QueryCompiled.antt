-- The module around a query's statement is the compiled form of what is promised of the query.
use Rattle.std.proofs.Common.{◌≡◌, ℕ, suc, ◌+◌, ◌*◌, ◌^◌, ◌≤◌, IsUtf8, List, [], ◌∷◌, ◌++◌, length, length-append, map, Some, refl, sym, subst, arith}
use Rattle.std.specs.List.{AllByRecursion, concat}
use Rattle.qw_types.specs.declared.kind.Kind.{Kind}
use Rattle.qw_types.specs.declared.value.Val.{Val}
use Rattle.qw_linear.specs.Memory.{page}
use Rattle.qw_module.specs.declared.instruction.ValType.{ValType}
use Rattle.qw_module.specs.declared.module.Module.{Module}
use Rattle.qw_scalar.specs.Expression.{Expression}
use Rattle.qw_scalar.specs.Typing.{kind_of}
use Rattle.qw_map.specs.Layout.{Layout, descriptor_size, entry_offset}
use Rattle.qw_meaning.specs.Outcome.{IsSameOutcome, Rows}
use Rattle.qw_meaning.specs.Select.{AreOfEntries}
use Rattle.qw_low.specs.Syntax.{Statement}
use Rattle.qw_low.specs.Meaning.{meaning}
use Rattle.qw_low.specs.Promise.{Ends}
use Rattle.qw_low.specs.Size.{size}
use Rattle.qw_low.proofs.Promises.{Ends-weaker}
use Rattle.qw_feed.specs.Feeds.{Tells}
use Rattle.qw_feed.proofs.Frames.{Never}
use Rattle.qw_read.specs.Constants.{IsSmall, SetsAll}
use Rattle.qw_read.specs.Texts.{LeadsToAll}
use Rattle.qw_read.specs.declared.constant.Word.{Word}
use Rattle.qw_physical.specs.Physical.{Pipeline, select}
use Rattle.qw_physical.specs.declared.pipeline.ReadColumn.{ReadColumn}
use Rattle.qw_operator.proofs.Stood.{Stood}
use Rattle.qw_promise.specs.Compiled.{GoesWith, IsCompiled}
use Rattle.qw_promise.specs.Promise.{Promise}
use Rattle.qw_emit.specs.RunsOf.{IsMadeOf, first_locals}
use Rattle.qw_emit.specs.Alike.{AreAlike}
use Rattle.qw_emit.proofs.Answered.{IsTold}
use Rattle.qw_emit.proofs.ModuleCompiled.{AreReady, Ending, module_compiled}
use Rattle.qw_low.specs.Begin.{first_state}
use Rattle.qw_compile.specs.QueryLocals.{own_start, query_locals, query_readers}
use Rattle.qw_compile.specs.Statements.{AreCourses, Course, IsCourse, query_block}
use Rattle.qw_compile.proofs.LocalsDeclared.{first_own_types, rest_own_types}
use Rattle.qw_compile.proofs.LocalsPlaced.{literal_count, literals_known, texts_placed, words_placed}
use Rattle.qw_compile.proofs.PipelineRuns.{AreStood, fed_over}
use Rattle.qw_compile.proofs.QueryRuns.{AreLaid, IsAnswered, LastReach, Reach, Setting, whole_ends}
use Rattle.qw_compile.proofs.QueryTyped.{own_types, query_locals_long, types}

-- Over tables, with bounds of their own: each pipeline that is reached finds what it looks up, and stays within the bounds; and what it raises is told.
pub record IsBounded (T n : ℕ) (columns : List ReadColumn) (texts : List (List ℕ)) (words : List Word) (at : ℕ) (table_of : ℕ → ℕ) (building : List Pipeline) (last : Pipeline) (items : List Expression) (Told : ℕ → Type 0) (u most N : ℕ) (tables : List (List (List Val))) : Type 0 where
  pub some : 1 ≤ N
  pub u_low : u ≤ page
  pub budget : ℕ → ℕ
  pub reached : (front : List Pipeline) (p : Pipeline) (back : List Pipeline) (stoods : List Stood) → building ≡ front ++ p ∷ back → AreStood tables [] front stoods →
      Reach T n columns (literals_known T at texts words) tables u most N table_of stoods p (budget (length front)) (budget (suc (length front)))
  pub told : (front : List Pipeline) (p : Pipeline) (back : List Pipeline) (stoods : List Stood) → building ≡ front ++ p ∷ back → AreStood tables [] front stoods → (raised : ℕ) → Tells (fed_over tables stoods p).codes raised → Told raised
  pub last_reached : (stoods : List Stood) → AreStood tables [] building stoods → LastReach T n columns (literals_known T at texts words) tables u most N table_of stoods last (length items) (budget T)
  pub told_last : (stoods : List Stood) → AreStood tables [] building stoods → (raised : ℕ) → Tells (fed_over tables stoods last).codes raised → Told raised

module _ (promise : Promise) (layout : Layout) (T : ℕ) (columns : List ReadColumn) (texts : List (List ℕ)) (words : List Word) (table_of : ℕ → ℕ) (laid : AreLaid table_of layout.columns columns) (texts_are : layout.literals ≡ concat texts)
    (utf8 : AllByRecursion IsUtf8 texts) (small_words : AllByRecursion IsSmall words) (leads sets : Statement) (building : List Pipeline) (last : Pipeline) (items : List Expression) (last_is : last.sink ≡ select items)
    (kinds_are : map kind_of items ≡ map (λ (k : Kind). Some k) layout.cells) (builds : List Course) (last_course : Course) (builds_own last_own : List ValType) (all_built : length building ≡ T) where
  abbrev n : ℕ
  n = literal_count texts words

  abbrev at : ℕ
  at = entry_offset (length layout.columns)

  abbrev own_first : ℕ
  own_first = own_start T n (length columns)

  abbrev locals : List ValType
  locals = query_locals T (length texts) (length words) columns (builds_own ++ last_own)

  abbrev others : ℕ
  others = length locals

  abbrev whole : Statement
  whole = query_block T (descriptor_size layout) leads sets builds last_course

  module _ (goes_with : GoesWith promise layout) (leads_all : LeadsToAll (texts_placed T at texts) leads) (sets_all : SetsAll (words_placed T (length texts) words) sets)
      (built : AreCourses (literals_known T at texts words) (query_readers T n columns) own_first building builds builds_own) (made : IsCourse (literals_known T at texts words) (query_readers T n columns) (own_first + length builds_own) last last_course last_own) where
    -- over any tables that are ready, within bounds
    module _ (tables : List (List (List Val))) (limit : ℕ) (ready : AreReady layout tables limit) (Told : ℕ → Type 0) (u most N : ℕ) (b : IsBounded T n columns texts words at table_of building last items Told u most N tables) where
      bounded_ends : Ends (size whole * N) (IsAnswered layout tables building last) Never Told (meaning most N whole (first_state layout tables limit (first_locals others)))
      bounded_ends =
          let long = query_locals_long T (length texts) (length words) columns (builds_own ++ last_own) in
          let two = length-append builds_own last_own in
          let S : Setting = record { layout = layout; tables = tables; limit = limit; are_ready = ready; small = goes_with.small; T = T; columns = columns; texts = texts; words = words; table_of = table_of; laid = laid; texts_are = texts_are; utf8 = utf8; small_words = small_words; leads = leads; sets = sets; leads_all = leads_all; sets_all = sets_all; most = most; N = N; u = u; some = b.some; u_low = b.u_low; own = builds_own ++ last_own } in
          let owned = own_types T at columns texts words (builds_own ++ last_own) in
          whole_ends S Told
          (record { building = building; builds = builds; builds_own = builds_own; built = built; no_more = omega (arith, all_built); own_room = omega (arith, long, two); own_types = first_own_types (types T at columns texts words (builds_own ++ last_own)) own_first (builds_own ++ last_own) builds_own last_own refl owned; budget = b.budget; reached = b.reached; told = b.told })
          last items last_is kinds_are last_course last_own made (omega (arith, long, two)) (rest_own_types (types T at columns texts words (builds_own ++ last_own)) own_first (builds_own ++ last_own) builds_own last_own refl owned)
          (λ stoods are. subst (λ (k : ℕ). LastReach T n columns (literals_known T at texts words) tables u most N table_of stoods last (length items) (b.budget k)) (sym all_built) (b.last_reached stoods are)) b.told_last

    pub query_compiled : size whole ≤ 2 ^ 22 → AreAlike promise.entries → (u : List (List (List Val)) → ℕ) →
        (bounded : (tables : List (List (List Val))) → AreOfEntries promise.entries tables → IsBounded T n columns texts words at table_of building last items (IsTold (promise.outcome tables)) (u tables) (promise.pages tables) (1 + promise.units tables) tables) →
        (same : (tables : List (List (List Val))) (stoods : List Stood) → AreOfEntries promise.entries tables → AreStood tables [] building stoods → (fed_over tables stoods last).codes ≡ [] → IsSameOutcome (promise.outcome tables) (Rows (fed_over tables stoods last).rows)) →
        (m : Module) → IsMadeOf m whole others → IsCompiled promise layout m
    query_compiled short alike u bounded same m is_made =
        module_compiled promise layout whole others (λ tables. 1 + promise.units tables) goes_with alike short
        (λ tables limit of ready.
        Ends-weaker (size whole * (1 + promise.units tables)) (size whole * (1 + promise.units tables)) (IsAnswered layout tables building last) (Ending promise layout tables) Never Never (IsTold (promise.outcome tables)) (IsTold (promise.outcome tables))
        (meaning (promise.pages tables) (1 + promise.units tables) whole (first_state layout tables limit (first_locals others))) (omega arith)
        (λ t h. record { settled = h.settled; same = subst (λ (rows : List (List Val)). IsSameOutcome (promise.outcome tables) (Rows rows)) (sym h.rows) (same tables h.stoods of h.are h.none) }) (λ t x. x) (λ code x. x)
        (bounded_ends tables limit ready (IsTold (promise.outcome tables)) (u tables) (promise.pages tables) (1 + promise.units tables) (bounded tables of)))
        m is_made
