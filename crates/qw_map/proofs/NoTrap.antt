-- Where each step is fine, no instance ends with a trap.
use Rattle.std.proofs.Common.{◌≡◌, ◌≢◌, ℕ, zero, suc, ◌+◌, nat_le, true, false, List, [], ◌∷◌, ◌++◌, length, take, drop, reverse, replicate, Option, Some, None, IsSome, inl, inr, subst, ⊎_elim}
use Rattle.std.proofs.lemmas.Bool.{cases_Bool, false≢true}
use Rattle.std.proofs.lemmas.Option.{same_Some, none-some}
use Rattle.qw_module.specs.Syntax.{Code, done}
use Rattle.qw_module.specs.Execution.{Store, Context, label, frame, Config, State, Running, Returned, Raised, Trapped, Event, Grows, AsksHost, Raises, Step, nop, unreachable_traps, drop_operand, select, local_get, local_set, local_tee, global_get, global_set, const, unop, binop, divide, divide_traps, testop, relop, cvtop, load, load_outside, store, store_outside, memory_size, grow_granted, grow_refused, enter_block, enter_loop, if_true, if_false, then_true, then_false, branch, branch_taken, branch_passed, branch_chosen, leave, raise, ask_granted, ask_refused, invoke, settled, branched, left, arity_of, chosen, with_global}
use Rattle.qw_map.specs.Areas.{World, IsFine, grants, world_after}
use Rattle.qw_map.specs.Turns.{Shared, Trap, Act, end_of_refusal, end_of_raise, end_at, placing, given, turns, EachInstance, AreSafe}
use Rattle.qw_module.proofs.Steps.{rule_from_next}
use Rattle.qw_map.proofs.TurnFacts.{each-put, each-step, turns-keep}
use Rattle.qw_map.proofs.Separate.{safe-step, safe-release, fine-now, unended-held}

-- a state to which fine steps lead: nothing trapped, and what was raised may be raised
abbrev pub Goes : World → State → Type 0
Goes w (Running c) = Unit {0}
Goes w Returned = Unit {0}
Goes w (Raised code) = IsFine w (Raises code)
Goes w (Trapped why) = ⊥

settled-goes : (w : World) (the_store : Store) (contexts : List Context) (code : Code) (operands locals : List ℕ) → Goes w (settled the_store contexts code operands locals)
settled-goes w the_store [] done operands locals = tt
settled-goes w the_store (label target arity below after ∷ contexts) done operands locals = settled-goes w the_store contexts after (operands ++ below) locals
settled-goes w the_store (frame outer arity below after ∷ contexts) done operands locals = settled-goes w the_store contexts after (operands ++ below) outer
settled-goes w the_store [] _ operands locals = tt
settled-goes w the_store (label target arity below after ∷ contexts) _ operands locals = tt
settled-goes w the_store (frame outer arity below after ∷ contexts) _ operands locals = tt

branched-goes : (w : World) (the_store : Store) (index : ℕ) (contexts : List Context) (operands locals : List ℕ) (s : State) →
    branched the_store index contexts operands locals ≡ Some s → Goes w s
branched-goes w the_store index [] operands locals s e = absurd (none-some s e)
branched-goes w the_store zero (label target arity below after ∷ contexts) operands locals s e = ⊎_elim
    (λ is. subst (Goes w) (same_Some _ s (rw is at e)) (settled-goes w the_store contexts target (take arity operands ++ below) locals))
    (λ is_not. absurd (none-some s (rw is_not at e)))
    (cases_Bool (nat_le arity (length operands)))
branched-goes w the_store (suc index) (label target arity below after ∷ contexts) operands locals s e = branched-goes w the_store index contexts operands locals s e
branched-goes w the_store zero (frame outer arity below after ∷ contexts) operands locals s e = absurd (none-some s e)
branched-goes w the_store (suc index) (frame outer arity below after ∷ contexts) operands locals s e = absurd (none-some s e)

left-goes : (w : World) (the_store : Store) (contexts : List Context) (operands : List ℕ) (s : State) → left the_store contexts operands ≡ Some s → Goes w s
left-goes w the_store [] operands s e = subst (Goes w) (same_Some Returned s e) tt
left-goes w the_store (label target arity below after ∷ contexts) operands s e = left-goes w the_store contexts operands s e
left-goes w the_store (frame outer arity below after ∷ contexts) operands s e = ⊎_elim
    (λ is. subst (Goes w) (same_Some _ s (rw is at e)) (settled-goes w the_store contexts after (take arity operands ++ below) outer))
    (λ is_not. absurd (none-some s (rw is_not at e)))
    (cases_Bool (nat_le arity (length operands)))

pub step-goes : (w : World) (c : Config) (m : List ℕ) (e : Event) (s : State) (after : List ℕ) → Step c m e s after → IsFine w e → Goes (world_after w m e) s
step-goes w _ _ _ _ _ (nop c m rest code) fine = settled-goes w c.store c.contexts rest _ _
step-goes w _ _ _ _ _ (unreachable_traps c m rest code) fine = absurd fine
step-goes w _ _ _ _ _ (drop_operand c m v operands rest code popped) fine = settled-goes w c.store c.contexts rest _ _
step-goes w _ _ _ _ _ (select c m n y x operands rest code popped) fine = settled-goes w c.store c.contexts rest _ _
step-goes w _ _ _ _ _ (local_get c m x v rest code found) fine = settled-goes w c.store c.contexts rest _ _
step-goes w _ _ _ _ _ (local_set c m x v operands rest code popped room) fine = settled-goes w c.store c.contexts rest _ _
step-goes w _ _ _ _ _ (local_tee c m x v operands rest code popped room) fine = settled-goes w c.store c.contexts rest _ _
step-goes w _ _ _ _ _ (global_get c m x v rest code found) fine = settled-goes w c.store c.contexts rest _ _
step-goes w _ _ _ _ _ (global_set c m x v operands rest code popped room) fine = settled-goes w (with_global c.store x v) c.contexts rest _ _
step-goes w _ _ _ _ _ (const c m n rest code) fine = settled-goes w c.store c.contexts rest _ _
step-goes w _ _ _ _ _ (unop c m type u x operands rest code popped) fine = settled-goes w c.store c.contexts rest _ _
step-goes w _ _ _ _ _ (binop c m type b y x operands rest code popped) fine = settled-goes w c.store c.contexts rest _ _
step-goes w _ _ _ _ _ (divide c m type d y x v operands rest code popped gives) fine = settled-goes w c.store c.contexts rest _ _
step-goes w _ _ _ _ _ (divide_traps c m type d y x why operands rest code popped gives) fine = absurd fine
step-goes w _ _ _ _ _ (testop c m type x operands rest code popped) fine = settled-goes w c.store c.contexts rest _ _
step-goes w _ _ _ _ _ (relop c m type r y x operands rest code popped) fine = settled-goes w c.store c.contexts rest _ _
step-goes w _ _ _ _ _ (cvtop c m v x operands rest code popped) fine = settled-goes w c.store c.contexts rest _ _
step-goes w _ _ _ _ _ (load c m l arg address operands rest code popped room) fine = settled-goes w c.store c.contexts rest _ _
step-goes w _ _ _ _ _ (load_outside c m l arg address operands rest code popped outside) fine = absurd fine
step-goes w _ _ _ _ _ (store c m st arg address v operands rest code popped room) fine = settled-goes w c.store c.contexts rest _ _
step-goes w _ _ _ _ _ (store_outside c m st arg address v operands rest code popped outside) fine = absurd fine
step-goes w _ _ _ _ _ (memory_size c m rest code) fine = settled-goes w c.store c.contexts rest _ _
step-goes w _ _ _ _ _ (grow_granted c m pages operands rest code popped room) fine = settled-goes (world_after w m (Grows pages true)) c.store c.contexts rest _ _
step-goes w _ _ _ _ _ (grow_refused c m pages operands rest code popped) fine = settled-goes (world_after w m (Grows pages false)) c.store c.contexts rest _ _
step-goes w _ _ _ _ _ (enter_block c m result inner rest code) fine = settled-goes w c.store (label _ _ _ _ ∷ c.contexts) inner [] c.locals
step-goes w _ _ _ _ _ (enter_loop c m result inner rest code) fine = settled-goes w c.store (label _ _ _ _ ∷ c.contexts) inner [] c.locals
step-goes w _ _ _ _ _ (if_true c m result inner other rest n operands code popped nonzero) fine = settled-goes w c.store (label _ _ _ _ ∷ c.contexts) inner [] c.locals
step-goes w _ _ _ _ _ (if_false c m result inner other rest operands code popped) fine = settled-goes w c.store (label _ _ _ _ ∷ c.contexts) other [] c.locals
step-goes w _ _ _ _ _ (then_true c m result inner rest n operands code popped nonzero) fine = settled-goes w c.store (label _ _ _ _ ∷ c.contexts) inner [] c.locals
step-goes w _ _ _ _ _ (then_false c m result inner rest operands code popped) fine = settled-goes w c.store (label rest (arity_of result) operands rest ∷ c.contexts) done [] c.locals
step-goes w _ _ _ _ _ (branch c m index rest s code there) fine = branched-goes w c.store index c.contexts c.operands c.locals s there
step-goes w _ _ _ _ _ (branch_taken c m index n rest operands s code popped nonzero there) fine = branched-goes w c.store index c.contexts operands c.locals s there
step-goes w _ _ _ _ _ (branch_passed c m index rest operands code popped) fine = settled-goes w c.store c.contexts rest _ _
step-goes w _ _ _ _ _ (branch_chosen c m labels default n rest operands s code popped there) fine = branched-goes w c.store (chosen labels default n) c.contexts operands c.locals s there
step-goes w _ _ _ _ _ (leave c m rest s code there) fine = left-goes w c.store c.contexts c.operands s there
step-goes w _ _ _ _ _ (raise c m index number operands rest code found popped) fine = fine
step-goes w _ _ _ _ _ (ask_granted c m index pages first operands rest code found popped there) fine = settled-goes (world_after w m (AsksHost pages (Some first))) c.store c.contexts rest _ _
step-goes w _ _ _ _ _ (ask_refused c m index pages operands rest code found popped) fine = settled-goes (world_after w m (AsksHost pages None)) c.store c.contexts rest _ _
step-goes w _ _ _ _ _ (invoke c m index function rest code found room) fine =
    settled-goes w c.store (label done function.results [] done ∷ frame c.locals function.results (drop function.params c.operands) rest ∷ c.contexts) function.body []
    (reverse (take function.params c.operands) ++ replicate function.declared 0)

-- the end at a code that may be raised
refusal-untrapped : (refused : Option ℕ) (w : World) → IsSome refused → end_of_refusal refused w ≢ Some Trap
refusal-untrapped None w some e = absurd (false≢true some)
refusal-untrapped (Some asked) w some e = cc

raise-untrapped : (code : ℕ) (w : World) → IsFine w (Raises code) → end_of_raise code w ≢ Some Trap
raise-untrapped code w (inl is) e = let f = rw is at e in absurd cc
raise-untrapped code w (inr (inl is)) e = let f = rw is at e in absurd cc
raise-untrapped code w (inr (inr (is, some))) e = refusal-untrapped w.refused w some (rw is at e)

end-untrapped : (s : State) (w : World) (ran most : ℕ) → Goes w s → end_at s w ran most ≢ Some Trap
end-untrapped (Running c) w ran most goes e = ⊎_elim (λ is. let f = rw is at e in absurd cc) (λ is_not. let f = rw is_not at e in absurd cc) (cases_Bool (nat_le most ran))
end-untrapped Returned w ran most goes e = cc
end-untrapped (Raised code) w ran most goes e = raise-untrapped code w goes e
end-untrapped (Trapped why) w ran most goes e = absurd goes

abbrev Untrapped : Shared → Type 0
Untrapped s = EachInstance (λ i. i.end ≢ Some Trap) s

pub untrapped-turns : (behind : ℕ) (s : Shared) (acts : List Act) → AreSafe behind s → Untrapped s → Untrapped (turns acts s)
untrapped-turns behind s acts safe untrapped = (turns-keep (λ (now : Shared). AreSafe behind now × Untrapped now)
    (λ now j one c t there unended running made h.
    let after : World = world_after one.world now.common.memory t.event in
    let fine : IsFine one.world t.event = fine-now behind now h.0 j one c t there (unended-held one unended) running made in
    let goes : Goes after t.state = step-goes one.world c now.common.memory t.event t.state t.memory (rule_from_next (grants one.world) (placing now.common) c now.common.memory t made) fine in (
      safe-step behind now j one c t there unended running made h.0,
      each-step (λ k i. i.end ≢ Some Trap) now j one t there (end-untrapped t.state after (one.ran + 1) one.most_steps goes)
          (λ k i elsewhere found. h.1 k i found),
    ))
    (λ now j one there done unreleased h. (
      safe-release behind now j one there done unreleased h.0,
      each-put (λ k i. i.end ≢ Some Trap) now j one (given one now.common) there (h.1 j one there) (λ k i elsewhere found. h.1 k i found),
    ))
    acts s (safe, untrapped)).1
