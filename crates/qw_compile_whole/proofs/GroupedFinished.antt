-- What is made of a statement whose rows go into a table of groups, over as many columns as its layout has, whether rows are counted or not, and the module around it.
use Rattle.std.proofs.Common.{◌≡◌, ◌∙◌, ◌≤◌, ◌<◌, ℕ, ◌+◌, ◌^◌, Option, List, [], ◌∷◌, ◌++◌, length, ap, subst, subst₂, arith}
use Rattle.std.specs.List.{AllByRecursion}
use Rattle.qw_linear.specs.Memory.{page}
use Rattle.qw_module.specs.declared.instruction.ValType.{ValType}
use Rattle.qw_module.specs.declared.instruction.ValType.TheVariants.{I32}
use Rattle.qw_module.specs.declared.module.Module.{Module}
use Rattle.qw_map.specs.Layout.{Layout, descriptor_size, entry_offset}
use Rattle.qw_map.specs.declared.layout.Used.{Used}
use Rattle.qw_low.specs.declared.step.LowStep.{LowStep}
use Rattle.qw_low.specs.Size.{size}
use Rattle.qw_low.specs.Steps.{steps_of}
use Rattle.qw_low.specs.Syntax.{Statement}
use Rattle.qw_low.specs.Typing.{IsTyped}
use Rattle.qw_read.specs.Constants.{IsSmall}
use Rattle.qw_read.specs.Texts.{LeadsToAll}
use Rattle.qw_physical.specs.Coded.{pipeline_of}
use Rattle.qw_physical.specs.Physical.{Operator, Sink}
use Rattle.qw_physical.specs.declared.pipeline.Pipeline as coded
use Rattle.qw_physical.specs.declared.pipeline.ReadColumn.{ReadColumn}
use Rattle.qw_operator.specs.Carries.{directory}
use Rattle.qw_operator.proofs.CarriedTyped.{AreLed}
use Rattle.qw_emit.specs.RunsOf.{IsMadeOf}
use Rattle.qw_operator.specs.Grouping.{CanGroup, Group}
use Rattle.qw_group_pipeline.specs.Groups.{IsGroupPipeline}
use Rattle.qw_group_pipeline.specs.declared.columns.ValueColumn.{ValueColumn}
use Rattle.qw_group_pipeline.proofs.RowFeeds.{AreOfKinds}
use Rattle.qw_compile.specs.QueryLiterals.{query_words}
use Rattle.qw_compile.specs.QueryLocals.{own_start, query_locals}
use Rattle.qw_compile.specs.QueryMade.{literal_locals, literals_by, readers_by, texts_by}
use Rattle.qw_compile.specs.Statements.{AreCourses}
use Rattle.qw_compile.proofs.QueryTyped.{IsLeading, types}
use Rattle.qw_compile.proofs.Sizes.{size_steps}
use Rattle.qw_compile_whole.specs.GroupedMade.{IsGroupedMade}
use Rattle.qw_compile_whole.specs.GuardedStatements.{IsGatheringBy, guard_for, guarded_block_of}
use Rattle.qw_compile_whole.proofs.GroupedTyped.{guarded_typed}

-- the module is made of whatever statement of Low these are the steps of
abbrev pub MakesModule : List LowStep → List ValType → Module → Type 0
MakesModule code locals m = (st : Statement) → code ≡ steps_of st → IsTyped (I32 ∷ locals) st → size st ≤ 2 ^ 22 → IsMadeOf m st (length locals)

pub few_steps : (code : List LowStep) (st : Statement) → code ≡ steps_of st → length code ≤ 2097152 → size st ≤ 2 ^ 22
few_steps code st is short = let steps : length code ≡ length (steps_of st) = ap (λ (c : List LowStep). length c) is in omega (arith, short, steps, size_steps st)

module _ {T : ℕ} {texts : List (List ℕ)} {ps : List coded.Pipeline} {group : Group} {key : List ReadColumn} {values : List ValueColumn} {behind : coded.Pipeline} {columns : List ReadColumn} {used : List Used} {layout : Layout} {code : List LowStep} {locals : List ValType}
    (h : IsGroupedMade T texts ps group key values behind columns used layout code locals) (guard : Option ℕ) (guard_is : guard_for (length ps) (length values) ≡ guard) where
  abbrev all : List coded.Pipeline
  all = ps ++ behind ∷ []

  abbrev first : ℕ
  first = own_start T (literal_locals texts all) (length columns)

  abbrev whole : Option ℕ → Statement
  whole g = guarded_block_of g T (descriptor_size layout) h.leads h.sets h.builds (length h.building) h.gathers h.walk

  abbrev declared : List ValType
  declared = types T (entry_offset (length columns)) columns texts (query_words all) (h.builds_own ++ (h.gathers_own ++ h.walk_own))

  code_by : code ≡ steps_of (whole guard)
  code_by = h.code_is ∙ ap (λ (g : Option ℕ). steps_of (whole g)) guard_is

  pub few_by : length code ≤ 2097152 → size (whole guard) ≤ 2 ^ 22
  few_by short = few_steps code (whole guard) code_by short

  pub made_by : (m : Module) → MakesModule code locals m → descriptor_size layout ≤ page → length code ≤ 2097152 → AllByRecursion IsSmall (query_words (ps ++ behind ∷ [])) → length h.building < T → CanGroup group → AreOfKinds values →
      AllByRecursion (IsLeading declared) h.building → AreLed declared h.gathering.operators → IsLeading declared (pipeline_of behind) → IsMadeOf m (whole guard) (length (query_locals T (length texts) (length (query_words all)) columns (h.builds_own ++ (h.gathers_own ++ h.walk_own))))
  made_by m made small short small_words low can kinds leading led behind_led =
      subst (λ (l : List ValType). IsMadeOf m (whole guard) (length l)) h.locals_are
      (made (whole guard) code_by
      (subst (λ (g : Option ℕ). IsTyped (I32 ∷ locals) (whole g)) guard_is (guarded_typed T texts ps behind columns used layout code locals small small_words group key values h low can kinds leading led behind_led)) (few_by short))

  -- ---- over so many columns
  module _ (n : ℕ) (many : length columns ≡ n) where
    pub leads_at : LeadsToAll (texts_by T n texts) h.leads
    leads_at = subst (λ (k : ℕ). LeadsToAll (texts_by T k texts) h.leads) many h.leads_all

    pub built_at : AreCourses (literals_by T n texts all) (readers_by T texts all columns) first h.building h.builds h.builds_own
    built_at = subst (λ (k : ℕ). AreCourses (literals_by T k texts all) (readers_by T texts all columns) first h.building h.builds h.builds_own) many h.built

    pub gathered_at : IsGatheringBy guard (literals_by T n texts all) (readers_by T texts all columns) (first + length h.builds_own) h.gathering group h.fields h.gathers h.gathers_own
    gathered_at =
        subst₂ (λ (g : Option ℕ) (k : ℕ). IsGatheringBy g (literals_by T k texts all) (readers_by T texts all columns) (first + length h.builds_own) h.gathering group h.fields h.gathers h.gathers_own) guard_is many h.gathered

    abbrev Walks : ℕ → List Operator → Sink → Type 0
    Walks k os s = IsGroupPipeline (literals_by T k texts all) (directory (length h.building)) (first + length h.builds_own + length h.gathers_own) key values os s h.walk h.walk_own

    pub walked_at : (os : List Operator) (s : Sink) → (pipeline_of behind).operators ≡ os → (pipeline_of behind).sink ≡ s → Walks n os s
    walked_at os s operators_are sink_is = subst₂ (λ (ops : List Operator) (k : Sink). Walks n ops k) operators_are sink_is (subst (λ (k : ℕ). Walks k (pipeline_of behind).operators (pipeline_of behind).sink) many h.walked)
