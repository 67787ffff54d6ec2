-- The steps that are added for a group.
use Rattle.std.proofs.Common.{◌≡◌, ℕ, ◌+◌, ◌*◌, List, [], ◌∷◌, ◌++◌, length, refl, sym, ap, ap₂, ◌∙◌, subst, arith}
use Rattle.std.proofs.lemmas.List.{append_assoc}
use Rattle.qw_layout.specs.Row.{cell_offset}
use Rattle.qw_low.specs.declared.step.LowStep.{LowStep}
use Rattle.qw_low.specs.declared.step.LowStep.TheVariants as step
use Rattle.qw_low.specs.Syntax.{Statement, local, skip, seq, conditional}
use Rattle.qw_low.specs.Steps.{steps_of}
use Rattle.qw_low.proofs.Appended.{two, three}
use Rattle.qw_feed.specs.Cells.{cells_block}
use Rattle.qw_feed.specs.Stages.{Test}
use Rattle.qw_table.specs.Joins.{sources_of}
use Rattle.qw_table.specs.Keys.{FindsSlot, TestsKey}
use Rattle.qw_table.specs.Tables.{insert_block}
use Rattle.qw_table.specs.declared.key.Field.{Field}
use Rattle.qw_group.specs.Areas.{Aggregates}
use Rattle.qw_group.specs.Groups.{Groups, UpdatesAreas, find_block, place_block, group_block, group_size}
use Rattle.qw_group.specs.Inner.GroupSteps.{find_begun, turn_ended, loop_ended, find_ended, place_begun, place_moved, place_ended}
use Rattle.qw_group.specs.declared.group.Aggregate.{Aggregate}

pub find_added : (d h g out : ℕ) (test : Statement) (b0 b1 b2 b3 : List LowStep) → b1 ≡ b0 ++ find_begun d h g → b2 ≡ b1 ++ steps_of test → b3 ≡ b2 ++ find_ended out g → b3 ≡ b0 ++ steps_of (find_block d h g (record { out = local out; block = test }))
find_added d h g out test b0 b1 b2 b3 first second third =
    three b0 b1 b2 b3 (find_begun d h g) (steps_of test) (find_ended out g) first second third
    ∙ ap (λ (l : List LowStep). b0 ++ (find_begun d h g ++ l)) (sym (append_assoc (steps_of test) (turn_ended out g) (loop_ended g)))

pub place_added : (size d h g : ℕ) (fill : Statement) (b0 b1 b2 b3 : List LowStep) → b1 ≡ b0 ++ place_begun g → b2 ≡ b1 ++ steps_of (insert_block size d h (g + 1) fill) → b3 ≡ b2 ++ place_ended size g → b3 ≡ b0 ++ steps_of (conditional (local g) skip (place_block size d h g fill))
place_added size d h g fill b0 b1 b2 b3 first second third =
    let insert : List LowStep = steps_of (insert_block size d h (g + 1) fill) in
    three b0 b1 b2 b3 (place_begun g) insert (place_ended size g) first second third
    ∙ ap (λ (l : List LowStep). b0 ++ (place_begun g ++ l)) (sym (append_assoc insert (place_moved size g) (step.End ∷ [])))

-- the area of one aggregate more
pub areas_further : (e at g i : ℕ) (x : Aggregate) (rest : List Aggregate) (a b : Statement) → Aggregates x.function x.argument e (at + 32 * i) g a → UpdatesAreas e (at + 32 * (i + 1)) g rest b → UpdatesAreas e (at + 32 * i) g (x ∷ rest) (seq a b)
areas_further e at g i x rest a b one more =
    let next : at + 32 * (i + 1) ≡ at + 32 * i + 32 = omega arith in
    (a, b, refl, one, subst (λ (n : ℕ). UpdatesAreas e n g rest b) next more)

pub group_added : (directory free slot out size areas : ℕ) (key : List Field) (aggregates : List Aggregate) (find test update : Statement) (b0 b1 b2 b3 b4 b5 b6 b7 b8 : List LowStep) → slot ≡ free + 3 → out ≡ free + 6 → areas ≡ 24 + 16 * length key → size ≡ areas + 32 * length aggregates →
    FindsSlot key free find → TestsKey key (free + 5) (free + 6) test → UpdatesAreas (free + 4) areas (free + 15) aggregates update → b1 ≡ b0 ++ steps_of find → b2 ≡ b1 ++ find_begun directory slot (free + 4) → b3 ≡ b2 ++ steps_of test → b4 ≡ b3 ++ find_ended out (free + 4) →
    b5 ≡ b4 ++ place_begun (free + 4) → b6 ≡ b5 ++ steps_of (insert_block size directory slot (free + 5) (cells_block 24 (sources_of key))) → b7 ≡ b6 ++ place_ended size (free + 4) → b8 ≡ b7 ++ steps_of update → (a : Statement) × (b8 ≡ b0 ++ steps_of a) × Groups directory key aggregates free a
group_added directory free slot out size areas key aggregates find test update b0 b1 b2 b3 b4 b5 b6 b7 b8 slot_is out_is areas_is size_is finds tests updates h1 h2 h3 h4 h5 h6 h7 h8 =
    let g : ℕ = free + 4 in
    let fill : Statement = cells_block 24 (sources_of key) in
    let wide : ℕ = group_size key aggregates in
    let whole : size ≡ wide = omega (arith, size_is, areas_is) in
    let there : areas ≡ cell_offset (length key) = areas_is in
    let told : Test = record { out = local (free + 6); block = test } in
    let up : free + 5 ≡ g + 1 = omega arith in
    let begun : b2 ≡ b1 ++ find_begun directory (free + 3) g = h2 ∙ ap (λ (h : ℕ). b1 ++ find_begun directory h g) slot_is in
    let ended : b4 ≡ b3 ++ find_ended (free + 6) g = h4 ∙ ap (λ (n : ℕ). b3 ++ find_ended n g) out_is in
    let searched : b4 ≡ b1 ++ steps_of (find_block directory (free + 3) g told) = find_added directory (free + 3) g (free + 6) test b1 b2 b3 b4 begun h3 ended in
    let entered : b6 ≡ b5 ++ steps_of (insert_block wide directory (free + 3) (g + 1) fill) = h6 ∙ (ap₂ (λ (n h : ℕ). b5 ++ steps_of (insert_block n directory h (free + 5) fill)) whole slot_is ∙ ap (λ (x : ℕ). b5 ++ steps_of (insert_block wide directory (free + 3) x fill)) up) in
    let placed : b7 ≡ b4 ++ steps_of (conditional (local g) skip (place_block wide directory (free + 3) g fill)) = place_added wide directory (free + 3) g fill b4 b5 b6 b7 h5 entered (h7 ∙ ap (λ (n : ℕ). b6 ++ place_ended n g) whole) in
    let group : Statement = group_block wide directory (free + 3) g told fill update in (
      seq find group,
      two b0 b1 b8 (steps_of find) (steps_of group) h1 (three b1 b4 b7 b8 (steps_of (find_block directory (free + 3) g told)) (steps_of (conditional (local g) skip (place_block wide directory (free + 3) g fill))) (steps_of update) searched placed h8),
      record { find = find; finds = finds; test = test; tests = tests; update = update; updates = subst (λ (n : ℕ). UpdatesAreas g n (free + 15) aggregates update) there updates; is = refl },
    )
