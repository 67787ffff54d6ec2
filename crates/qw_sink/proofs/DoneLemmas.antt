-- What a bench keeps of an instance that is done and not released.
use Rattle.std.proofs.Common.{◌≡◌, ℕ, ◌^◌, ◌<◌, ◌*◌, ◌≤◌, nat_le, Bool, false, inl, inr, List, length, Option, Some, None, IsSome, slice_get, refl, sym, ◌∙◌, subst, arith}
use Rattle.std.specs.Prelude.{IfSome, ◌==◌, ◌||◌}
use Rattle.std.specs.List.{AllByRecursion}
use Rattle.std.specs.Option.{option_and_then, option_map_or}
use Rattle.std.proofs.lemmas.Bool.{cases_Bool}
use Rattle.std.proofs.lemmas.Option.{none-some, slice_get_within}
use Rattle.qw_types.specs.declared.value.Val.{Val}
use Rattle.qw_map.specs.Areas.{World}
use Rattle.qw_map.specs.Behaving.{HasRows}
use Rattle.qw_map.specs.Columns.{column_pages}
use Rattle.qw_map.specs.Free.{IsTaken}
use Rattle.qw_map.specs.Runs.{begins}
use Rattle.qw_map.specs.Turns.{Done, Exception, Steps, Trap, Instance, LiesWithin, is_back, end_at, end_of_raise, end_of_refusal, moment_of}
use Rattle.qw_module.specs.Execution.{State, Running, Returned, Raised, Trapped, IsOver}
use Rattle.qw_map.proofs.AreaLemmas.{all-weaker}
use Rattle.qw_map.proofs.FreeFacts.{taken-within}
use Rattle.qw_map.proofs.Separate.{held-own}
use Rattle.qw_map.specs.Layout.{Layout, rows_at}
use Rattle.qw_bench.specs.Bench.{Serves, Task, end_in, released_in}
use Rattle.qw_bench.specs.Standing.{IsBench, Standing, rows_in}
use Rattle.qw_map.proofs.TurnFacts.{found-in}

-- an instance that is done has returned
pub returned : (s : State) (w : World) (ran most : ℕ) → end_at s w ran most ≡ Some Done → s ≡ Returned
returned Returned w ran most is = refl
returned (Trapped why) w ran most is = cc
returned (Running c) w ran most is = elim (cases_Bool (nat_le most ran)) [
  | inl e ↦ absurd (steps-done (rw e at is))
  | inr e ↦ absurd (none-some Done (rw e at is))
]
  where
    steps-done : {most : ℕ} → Some (Steps most) ≡ Some Done → ⊥
    steps-done h = cc
returned (Raised code) w ran most is = absurd (raised code w is)
  where
    refusal : (o : Option ℕ) (w : World) → end_of_refusal o w ≡ Some Done → ⊥
    refusal None w h = cc
    refusal (Some asked) w h = cc

    raised : (code : ℕ) (w : World) → end_of_raise code w ≡ Some Done → ⊥
    raised code w h = elim (cases_Bool ((code == 1) || (code == 2))) [
      | inl e ↦ (let h : Some (Exception code) ≡ Some Done = rw e at h in cc)
      | inr e ↦ elim (cases_Bool (code == 3)) [
        | inl f ↦ refusal w.refused w (rw (e, f) at h)
        | inr f ↦ (let h : Some Trap ≡ Some Done = rw (e, f) at h in cc)
      ]
    ]

-- The instance of a number that is done and not released, its task, and what follows of them.
pub record IsDone (b : Standing) (i : ℕ) : Type 0 where
  pub instance : Instance
  pub instance_found : slice_get b.shared.instances i ≡ Some instance
  pub done : instance.end ≡ Some Done
  pub held : instance.released ≡ false
  pub task : Task
  pub task_found : slice_get b.tasks i ≡ Some task

pub done-there : (b : Standing) (i : ℕ) → IsBench b → end_in b.shared i ≡ Some Done → released_in b.shared i ≡ false → IsDone b i
done-there b i kept done held = by_instance (slice_get b.shared.instances i) refl done held
  where
    by_instance : (o : Option Instance) → slice_get b.shared.instances i ≡ o → option_and_then (λ (x : Instance). x.end) o ≡ Some Done →
        option_map_or (λ (x : Instance). x.released) o false ≡ false → IsDone b i
    by_instance None found done held = absurd (none-some Done done)
    by_instance (Some instance) found done held =
        let within : i < length b.tasks = omega (arith, slice_get_within b.shared.instances i instance found, kept.serving.many) in
        let task = found-in b.tasks i within in
        record { instance = instance; instance_found = found; done = done; held = held; task = task.0; task_found = task.1 }

module _ (b : Standing) (i : ℕ) (kept : IsBench b) (is : IsDone b i) where
  serves : Serves b.shared.common.memory is.task is.instance
  serves = kept.serving.serving i is.task is.instance is.task_found is.instance_found

  has-pages : is_back is.instance ≡ false
  has-pages = rw (is.done, is.held) refl

  inside : AllByRecursion (LiesWithin (length b.shared.common.memory)) is.instance.world.own
  inside =
      let separate = kept.serving.safe.separate in
      let behind : ℕ = column_pages kept.tables in
      let free : List Bool = b.shared.common.free in
      all-weaker (IsTaken behind free) (LiesWithin (length b.shared.common.memory))
      (λ area taken. taken-within behind free (length b.shared.common.memory) area taken (omega (arith, separate.flags, separate.whole))) is.instance.world.own
      (rw (held-own is.instance has-pages) at (separate.own i is.instance is.instance_found))

  rows-there : IsSome (rows_at is.task.program.layout is.instance.world b.shared.common.memory is.task.descriptor)
  rows-there =
      let over : is.instance.state ≡ Returned = returned is.instance.state is.instance.world is.instance.ran is.instance.most_steps (sym serves.whole.end_is ∙ is.done) in
      let here = moment_of is.instance b.shared.common.memory in
      let rows = (serves.behaves has-pages).ends 0 here (begins here) (subst IsOver (sym over) tt) (omega arith) in
      subst (HasRows is.task.program.layout is.task.descriptor here) over rows

  -- what was told of a bench leads to its rows
  pub record Leads (layout : Layout) (memory : List ℕ) (descriptor : ℕ) : Type 0 where
    pub room : length memory < 2 ^ 32
    pub inside : AllByRecursion (LiesWithin (length memory)) is.instance.world.own
    pub there : IsSome (rows_at layout is.instance.world memory descriptor)
    pub reads : (rows : List (List Val)) → rows_at layout is.instance.world memory descriptor ≡ Some rows → rows_in b i ≡ Some rows

  pub leads : (layout : Layout) (memory : List ℕ) (descriptor : ℕ) → IfSome (slice_get b.tasks i) (λ (task : Task). layout ≡ task.program.layout) →
      memory ≡ b.shared.common.memory → IfSome (slice_get b.tasks i) (λ (task : Task). descriptor ≡ task.descriptor) → Leads layout memory descriptor
  leads layout memory descriptor laid memory_is first =
      let layout_is : layout ≡ is.task.program.layout = rw is.task_found at laid in
      let descriptor_is : descriptor ≡ is.task.descriptor = rw is.task_found at first in
      rw (layout_is, memory_is, descriptor_is) (record {
        room = omega (arith, kept.serving.safe.separate.room);
        inside = inside;
        there = rows-there;
        reads = λ rows read. rw (is.task_found, is.instance_found) read;
      })
