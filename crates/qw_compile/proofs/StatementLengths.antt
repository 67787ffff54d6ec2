-- How many steps and locals the statement of a query has.
use Rattle.std.proofs.Common.{◌≡◌, ℕ, zero, suc, ◌+◌, ◌*◌, ◌≤◌, eqb, Option, Some, None, IsSome, List, [], ◌∷◌, ◌++◌, length, length-append, sum_by, refl, sym, ap, subst, arith}
use Rattle.std.specs.List.{AllByRecursion, IsDistinct}
use Rattle.qw_algebra.proofs.Lists.{all_more}
use Rattle.qw_module.specs.declared.instruction.ValType.{ValType}
use Rattle.qw_module.specs.declared.instruction.ValType.TheVariants.{I32}
use Rattle.qw_low.specs.declared.step.LowStep.{LowStep}
use Rattle.qw_low.specs.Size.{size}
use Rattle.qw_low.specs.Steps.{steps_of}
use Rattle.qw_low.specs.Syntax.{Statement}
use Rattle.qw_feed.specs.Room.{space_block}
use Rattle.qw_read.specs.declared.reader.Reader.{Reader}
use Rattle.qw_physical.specs.Coded.{pipeline_of}
use Rattle.qw_physical.specs.Named.{numbers}
use Rattle.qw_physical.specs.declared.pipeline.Pipeline.{Pipeline}
use Rattle.qw_physical.specs.declared.pipeline.ReadColumn.{ReadColumn}
use Rattle.qw_operator.proofs.Shortness.{steps_twice}
use Rattle.qw_compile.specs.CourseSpan.{course_span}
use Rattle.qw_compile.specs.Limits.{AreShort}
use Rattle.qw_compile.specs.QueryLocals.{held_types, part_types, query_locals, readers_over, table_types, text_types, word_types}
use Rattle.qw_compile.specs.QueryMade.{ArePlacesOf, CanStand}
use Rattle.qw_compile.specs.declared.courses.Places.{Places}
use Rattle.qw_compile.proofs.ReadersFew.{few_over}
use Rattle.qw_compile.proofs.SpanLengths.{CanBe, short_steps}

-- none where there is one
pub never_none : {X : Type 0} (o : Option X) → IsSome o → ((x : X) → o ≡ Some x → ⊥) → ⊥
never_none None there none = absurd cc
never_none (Some x) there none = none x refl

-- ---- the pipelines, from the places of literals and columns
pub places_short : (tables : ℕ) (ts : List (List ℕ)) (ps : List Pipeline) (columns : List ReadColumn) (p : Places) → ArePlacesOf tables ts ps columns p → IsDistinct eqb (numbers columns)
    → AllByRecursion (λ (q : Pipeline). CanStand tables ts ps columns (pipeline_of q)) ps → AreShort ps → sum_by (course_span p.readers.items) ps ≤ 2013572
places_short tables ts ps columns p are once stand short =
    short_steps p.readers.items (λ entry. subst (λ (rs : List Reader). length (readers_over entry rs) ≤ 64) (sym are.readers) (few_over tables _ columns once entry)) ps
    (all_more (λ (q : Pipeline). CanStand tables ts ps columns (pipeline_of q)) CanBe ps (λ q can. record { known = _; takes = can.takes }) stand) short

-- ---- the whole
-- where free space begins, the literals, and the pipelines
pub few_steps : (descriptor texts words : ℕ) (leads sets : Statement) (pipelines code : List LowStep) (own : List ValType) → code ≡ steps_of (space_block descriptor) ++ (steps_of leads ++ (steps_of sets ++ pipelines)) → size leads ≤ 6 * texts → size sets ≤ 2 * words →
    length pipelines + length own ≤ 2030000 → texts ≤ 4012 → words ≤ 4012 → length code ≤ 2097152
few_steps descriptor texts words leads sets pipelines code own is leading setting short few few_words =
    let all = ap (λ (l : List LowStep). length l) is in
    let one = length-append (steps_of (space_block descriptor)) (steps_of leads ++ (steps_of sets ++ pipelines)) in
    let two = length-append (steps_of leads) (steps_of sets ++ pipelines) in
    let three = length-append (steps_of sets) pipelines in
    omega (arith, all, one, two, three, steps_twice leads, steps_twice sets, leading, setting, short, few, few_words)

-- ---- locals
pub tables_long : (n : ℕ) (rest : List ValType) → length (table_types n rest) ≡ n + length rest
tables_long zero rest = omega arith
tables_long (suc n) rest = let more = tables_long n rest in omega (arith, more)

pub texts_long : (n : ℕ) (rest : List ValType) → length (text_types n rest) ≡ 2 * n + length rest
texts_long zero rest = omega arith
texts_long (suc n) rest = let more = texts_long n rest in omega (arith, more)

pub words_long : (n : ℕ) (rest : List ValType) → length (word_types n rest) ≡ n + length rest
words_long zero rest = omega arith
words_long (suc n) rest = let more = words_long n rest in omega (arith, more)

pub parts_long : (columns : List ReadColumn) (rest : List ValType) → length (part_types columns rest) ≡ 3 * length columns + length rest
parts_long [] rest = omega arith
parts_long (column ∷ columns) rest = let more = parts_long columns rest in omega (arith, more)

pub held_long : (columns : List ReadColumn) (rest : List ValType) → length (held_types columns rest) ≡ 3 * length columns + length rest
held_long [] rest = omega arith
held_long (column ∷ columns) rest = let more = held_long columns rest in omega (arith, more)

pub locals_long : (tables texts words : ℕ) (columns : List ReadColumn) (own : List ValType) → length (query_locals tables texts words columns own) ≡ 7 + tables + (2 * texts + words) + 6 * length columns + length own
locals_long tables texts words columns own =
    let held : List ValType = held_types columns own in
    let parts : List ValType = part_types columns held in
    let numbers : List ValType = word_types words parts in
    omega (arith, tables_long tables (I32 ∷ I32 ∷ I32 ∷ text_types texts numbers), texts_long texts numbers, words_long words parts, parts_long columns held, held_long columns own)

pub few_locals : (tables texts words : ℕ) (columns : List ReadColumn) (own locals : List ValType) (pipelines : List LowStep) → locals ≡ query_locals tables texts words columns own → length pipelines + length own ≤ 2030000 → tables ≤ 9 → texts ≤ 4012 → words ≤ 4012 →
    length columns ≤ 512 → length locals ≤ 2097152
few_locals tables texts words columns own locals pipelines is short few few_texts few_words few_columns =
    let all = ap (λ (l : List ValType). length l) is in
    omega (arith, all, locals_long tables texts words columns own, short, few, few_texts, few_words, few_columns)
