-- A statement's code does what the statement means, in as many instructions, or in one fewer where it sets a local that is got next.
use Rattle.std.proofs.Common.{◌≡◌, ◌≢◌, ℕ, zero, suc, ◌+◌, ◌-◌, ◌≤◌, inl, inr, true, nat_lt, List, [], ◌∷◌, length, Option, Some, None, option_and_then, slice_get, slice_set, refl, sym, ap, ◌∙◌, subst, ⊎_elim, arith}
use Rattle.std.proofs.lemmas.Bool.{cases_Bool, eqb-true, ltb-true}
use Rattle.std.proofs.lemmas.Option.{same_Some}
use Rattle.qw_linear.specs.Memory.{number_at}
use Rattle.qw_module.specs.declared.instruction.Op.TheVariants as o
use Rattle.qw_module.specs.declared.instruction.Const.TheVariants as const
use Rattle.qw_module.specs.declared.instruction.Load.{Load}
use Rattle.qw_module.specs.declared.instruction.Store as instruction
use Rattle.qw_module.specs.declared.instruction.ValType.TheVariants.{I32}
use Rattle.qw_module.specs.declared.instruction.Relation.TheVariants.{Eq}
use Rattle.qw_module.specs.Numbers.{load_width, loaded_value, store_width, truth}
use Rattle.qw_module.specs.Syntax.{Code, done, op, loop, if_then, br_if, return, call}
use Rattle.qw_module.specs.Execution.{Store, Context, label, State, Returned, Raised, left, Raises, refusal}
use Rattle.qw_module.specs.Step.{wants, Goes, Asks, Puts}
use Rattle.qw_map.specs.Areas.{Area, World, IsFine, GoesOn}
use Rattle.qw_map.specs.Runs.{Moment}
use Rattle.qw_map.proofs.TurnFacts.{slice_get-set_same}
use Rattle.qw_module.proofs.Sound.{settled-unfinished}
use Rattle.std.specs.Prelude.{◌==◌}
use Rattle.qw_low.specs.Syntax.{Expression, Statement}
use Rattle.qw_low.specs.State.{Part, Column, Own, Value, Number, Address, LowState, is_within, stored_as, with_cell}
use Rattle.qw_low.specs.Meaning.{value, cost, Outcome, Completed, Exited, Stopped, Wrong, Unfinished, with_local, found_at, put_at, raised}
use Rattle.qw_low.specs.Translation.{expression_code, statement_code, unaligned, raising, setting, to_octets, on_answer}
use Rattle.qw_low.specs.Places.{Means, AreMeant, StandsFor, HasHosts}
use Rattle.qw_low.proofs.ExactSteps.{Comes, LooksAhead, counted, instead, goes, loads, stores, raises, weaker, knowing}
use Rattle.qw_low.proofs.Paths.{set_steps}
use Rattle.qw_low.proofs.Standing.{stable, lies, lies-at, area_of-sized, length-meant, set-meant}
use Rattle.qw_low.proofs.CellLemmas.{loaded-means, found-there, stored-means, given-there, stored-stands}
use Rattle.qw_low.proofs.ExpressionRuns.{standing, config, op_goes, within-is, expression_runs}

-- a state that differs in its locals alone stands where the other does
pub relocated : (w : World) (s : LowState) (locals : List Value) (memory : List ℕ) → StandsFor w s memory → StandsFor w (record s { locals = locals }) memory
relocated w s locals memory h = record {
  fits = record { columns = h.fits.columns; own = h.fits.own; held = h.fits.held; limit = h.fits.limit; refused = h.fits.refused; positive = h.fits.positive; apart = h.fits.apart };
  whole = h.whole;
  some = h.some;
  octets = h.octets;
  room = h.room;
  inside = h.inside;
  cells = h.cells;
}

-- what is inside an if or a loop, before what follows
abbrev pub inside : Code → List Context → List Context
inside k contexts = label k 0 [] k ∷ contexts

-- the end of a turn, and a turn: the code of a loop
abbrev pub again : Expression → Code
again e = expression_code e (br_if 0 done)

abbrev pub the_loop : Expression → Statement → Code
the_loop e a = loop None (statement_code a (again e)) done

-- what is inside of a loop, which stands in a choice before what follows
abbrev pub in_loop : Expression → Statement → Code → List Context → List Context
in_loop e a k contexts = label (the_loop e a) 0 [] done ∷ inside k contexts

-- what a value tells a choice, and the word that leads the same way
abbrev pub Tells : Option Value → ℕ → Type 0
Tells (Some (Number n)) m = n ≡ m
Tells (Some (Address p o)) m = m ≡ 1
Tells None m = ⊥

abbrev pub Alike : ℕ → ℕ → Type 0
Alike zero word = word ≡ zero
Alike (suc n) word = (v : ℕ) × (word ≡ suc v)

abbrev told_value : (found : Option Value) (n : ℕ) → Tells found n → Value
told_value (Some v) n tells = v
told_value None n tells = absurd tells

told-is : (found : Option Value) (n : ℕ) (tells : Tells found n) → found ≡ Some (told_value found n tells)
told-is (Some v) n tells = refl
told-is None n tells = absurd tells

alike-same : (n word : ℕ) → word ≡ n → Alike n word
alike-same zero word is = is
alike-same (suc n) word is = (n, is)

alike : (w : World) (s : LowState) (memory : List ℕ) → StandsFor w s memory → (found : Option Value) (n : ℕ) (tells : Tells found n) (word : ℕ) → Means w (told_value found n tells) word → Alike n word
alike w s memory h (Some (Number m)) n tells word means = alike-same n word (means ∙ tells)
alike w s memory h (Some (Address p off)) n tells word means =
    let some : 1 ≤ means.0.start = h.fits.positive p means.0 means.1 in
    rw tells (word - 1, omega (arith, means.3))
alike w s memory h None n tells word means = absurd tells

module _ (Q : Moment → Type 0) (module_store : Store) where
  -- the code from a state on has this outcome: after n instructions it goes on with what follows, or raises
  abbrev pub QuietTo : ℕ → Outcome → World → (List ℕ → Type 0) → State → (List ℕ → State) → Type 0
  QuietTo n (Completed m t) w M state following = (j : ℕ) →
      ((w' : World) (xs : List ℕ) → AreMeant w' t.locals xs → Comes Q w' (StandsFor w' t) j (following xs)) → Comes Q w M (n + j) state
  QuietTo n (Exited m t) w M state following = (j : ℕ) →
      ((w' : World) → Comes Q w' (StandsFor w' t) j Returned) → Comes Q w M (n + j) state
  QuietTo n (Stopped code m t) w M state following = (j : ℕ) →
      ((w' : World) → Comes Q w' (StandsFor w' t) j (Raised code)) → Comes Q w M (n + j) state
  QuietTo n Wrong w M state following = Unit {0}
  QuietTo n Unfinished w M state following = Unit {0}

  -- a return from these contexts ends the run: no frame awaits
  abbrev pub EndsRun : List Context → Type 0
  EndsRun contexts = left module_store contexts [] ≡ Some Returned

  module _ (s : LowState) (w : World) (xs : List ℕ) (are : AreMeant w s.locals xs) (contexts : List Context) where
    pub steps_from : (w' : World) (t : LowState) (ys : List ℕ) (code : Code) (operands : List ℕ) (n : ℕ) (next : State) → code ≢ done → wants (config module_store code operands ys contexts) ≡ Goes next →
        Comes Q w' (StandsFor w' t) n next → Comes Q w' (StandsFor w' t) (suc n) (standing module_store code operands ys contexts)
    steps_from w' t ys code operands n next unfinished wanted comes =
        subst (λ (state : State). Comes Q w' (StandsFor w' t) (suc n) state) (sym (settled-unfinished module_store contexts code operands ys unfinished))
        (goes Q w' (StandsFor w' t) (stable w' t) n (config module_store code operands ys contexts) next wanted comes)

    -- one step of code that holds others
    pub steps_to : (code : Code) (operands : List ℕ) (n : ℕ) (next : State) → code ≢ done → wants (config module_store code operands xs contexts) ≡ Goes next →
        Comes Q w (StandsFor w s) n next → Comes Q w (StandsFor w s) (suc n) (standing module_store code operands xs contexts)
    steps_to code operands n next unfinished wanted comes =
        subst (λ (state : State). Comes Q w (StandsFor w s) (suc n) state) (sym (settled-unfinished module_store contexts code operands xs unfinished))
        (goes Q w (StandsFor w s) (stable w s) n (config module_store code operands xs contexts) next wanted comes)

    -- a word is put into a local
    sets_word : (w' : World) (t : LowState) (ys : List ℕ) (x word : ℕ) (k : Code) (j : ℕ) → nat_lt x (length ys) ≡ true →
        Comes Q w' (StandsFor w' t) j (standing module_store k [] (slice_set ys x word) contexts) →
        Comes Q w' (StandsFor w' t) (1 + j) (standing module_store (op (o.LocalSet x) k) (word ∷ []) ys contexts)
    sets_word w' t ys x word k j below comes = counted Q w' (StandsFor w' t) (suc j) (1 + j) _ (omega arith)
        (op_goes Q module_store contexts w' t ys (o.LocalSet x) k (word ∷ []) [] (slice_set ys x word) j (rw below refl) comes)

    -- the same before code that may begin by getting it: a tee wants what the get behind a set wants, so it leads where that leads
    pub setting_runs : LooksAhead Q → (w' : World) (t : LowState) (ys : List ℕ) (x word : ℕ) (k : Code) (j : ℕ) → nat_lt x (length ys) ≡ true →
        Comes Q w' (StandsFor w' t) j (standing module_store k [] (slice_set ys x word) contexts) →
        Comes Q w' (StandsFor w' t) (set_steps x k + j) (standing module_store (setting x k) (word ∷ []) ys contexts)
    setting_runs ahead w' t ys x word (op (o.LocalGet y) k) j below comes = ⊎_elim
        (λ same.
        let is : x ≡ y = eqb-true x y same in
        let there : slice_get (slice_set ys x word) y ≡ Some word = subst (λ (z : ℕ). slice_get (slice_set ys x word) z ≡ Some word) is (slice_get-set_same ys x word (ltb-true x (length ys) below)) in
        rw same (counted Q w' (StandsFor w' t) j (0 + j) _ (omega arith)
        (subst (λ (state : State). Comes Q w' (StandsFor w' t) j state) (sym (settled-unfinished module_store contexts (op (o.LocalTee x) k) (word ∷ []) ys (λ e. cc)))
        (instead Q w' (StandsFor w' t) ahead j (config module_store (op (o.LocalTee x) k) (word ∷ []) ys contexts) (config module_store (op (o.LocalGet y) k) [] (slice_set ys x word) contexts)
        (rw (below, there) refl)
        (subst (λ (state : State). Comes Q w' (StandsFor w' t) j state) (settled-unfinished module_store contexts (op (o.LocalGet y) k) [] (slice_set ys x word) (λ e. cc)) comes)))))
        (λ other. rw other (sets_word w' t ys x word (op (o.LocalGet y) k) j below comes))
        (cases_Bool (x == y))
    setting_runs ahead w' t ys x word k j below comes = sets_word w' t ys x word k j below comes

    -- and where the locals mean values
    sets : LooksAhead Q → (x : ℕ) (v : Value) (word : ℕ) (k : Code) (j : ℕ) → nat_lt x (length s.locals) ≡ true → Means w v word →
        ((w' : World) (ys : List ℕ) → AreMeant w' (slice_set s.locals x v) ys → Comes Q w' (StandsFor w' (record s { locals = slice_set s.locals x v })) j (standing module_store k [] ys contexts)) →
        Comes Q w (StandsFor w s) (set_steps x k + j) (standing module_store (setting x k) (word ∷ []) xs contexts)
    sets ahead x v word k j room means onward =
        setting_runs ahead w s xs x word k j (rw (length-meant w s.locals xs are) room)
        (weaker Q w (StandsFor w s) (StandsFor w (record s { locals = slice_set s.locals x v })) j (standing module_store k [] (slice_set xs x word) contexts)
        (λ memory h. relocated w s (slice_set s.locals x v) memory h)
        (onward w (slice_set xs x word) (set-meant w s.locals xs are x v word means)))

    -- and given a value that is there
    given : LooksAhead Q → (m n x : ℕ) (k : Code) (state : State) (found : Option Value) →
        ((v : Value) → found ≡ Some v → (j : ℕ) → ((word : ℕ) → Means w v word → Comes Q w (StandsFor w s) (set_steps x k + j) (standing module_store (setting x k) (word ∷ []) xs contexts)) →
        Comes Q w (StandsFor w s) (m + j) state) →
        QuietTo m (with_local n s x found) w (StandsFor w s) state (λ ys. standing module_store k [] ys contexts)
    given ahead m n x k state None lead = tt
    given ahead m n x k state (Some v) lead = ⊎_elim
        (λ room. rw room (λ j onward. lead v refl j (λ word means. sets ahead x v word k j room means onward)))
        (λ no_room. rw no_room tt)
        (cases_Bool (nat_lt x (length s.locals)))

    pub assign_runs : LooksAhead Q → (x : ℕ) (e : Expression) (k : Code) →
        QuietTo (cost e + set_steps x k) (with_local (cost e + 1) s x (value s e)) w (StandsFor w s) (standing module_store (expression_code e (setting x k)) [] xs contexts) (λ ys. standing module_store k [] ys contexts)
    assign_runs ahead x e k = given ahead (cost e + set_steps x k) (cost e + 1) x k (standing module_store (expression_code e (setting x k)) [] xs contexts) (value s e)
        (λ v is j onward. knowing Q w (StandsFor w s) (cost e + set_steps x k + j) _ (λ memory h.
        counted Q w (StandsFor w s) (cost e + (set_steps x k + j)) (cost e + set_steps x k + j) _ (omega arith)
        (expression_runs Q module_store contexts w s xs memory h are e v is (setting x k) [] (set_steps x k + j) onward)))

    -- what is read at an address
    pub load_runs : LooksAhead Q → (x : ℕ) (l : Load) (offset : ℕ) (at : Expression) (k : Code) →
        QuietTo (cost at + 1 + set_steps x k) (with_local (cost at + 2) s x (found_at s l offset (value s at))) w (StandsFor w s)
        (standing module_store (expression_code at (op (o.Load l (unaligned offset)) (setting x k))) [] xs contexts) (λ ys. standing module_store k [] ys contexts)
    load_runs ahead x l offset at k = given ahead (cost at + 1 + set_steps x k) (cost at + 2) x k (standing module_store (expression_code at (op (o.Load l (unaligned offset)) (setting x k))) [] xs contexts) (found_at s l offset (value s at))
        (λ v is j onward. knowing Q w (StandsFor w s) (cost at + 1 + set_steps x k + j) _ (λ memory h.
        let found = found-there s l offset (value s at) v is in
        let p : Part = found.0 in
        let off : ℕ = found.1 in
        let r = h.cells p (off + offset) (load_width l) found.2 found.4 in
        counted Q w (StandsFor w s) (cost at + suc (set_steps x k + j)) (cost at + 1 + set_steps x k + j) _ (omega arith)
        (expression_runs Q module_store contexts w s xs memory h are at (Address p off) found.3 (op (o.Load l (unaligned offset)) (setting x k)) [] (suc (set_steps x k + j))
        (λ word means.
        let same : means.0 ≡ r.area = same_Some means.0 r.area (sym means.1 ∙ r.is) in
        let place : word + offset ≡ r.area.start + (off + offset) = omega (arith, means.3, ap (λ (a : Area). a.start) same) in
        subst (λ (state : State). Comes Q w (StandsFor w s) (suc (set_steps x k + j)) state)
        (sym (settled-unfinished module_store contexts (op (o.Load l (unaligned offset)) (setting x k)) (word ∷ []) xs (λ e. cc)))
        (loads Q w (StandsFor w s) (stable w s) (λ n. Means w found.2 n) (set_steps x k + j) (config module_store (op (o.Load l (unaligned offset)) (setting x k)) (word ∷ []) xs contexts)
        (r.area.start + (off + offset)) (load_width l) (λ n. standing module_store (setting x k) (loaded_value l n ∷ []) xs contexts)
        (ap (λ (a : ℕ). Asks a (load_width l) (λ n. standing module_store (setting x k) (loaded_value l n ∷ []) xs contexts)) place)
        (lies w p r.area (off + offset) (load_width l) r.is r.inside)
        (λ m stands.
        let r' = stands.cells p (off + offset) (load_width l) found.2 found.4 in
        let area : r'.area ≡ r.area = same_Some r'.area r.area (sym r'.is ∙ r.is) in
        (omega (arith, r.inside, stands.inside p r.area r.is), subst (λ (a : Area). Means w found.2 (number_at m (a.start + (off + offset)) (load_width l))) area r'.means))
        (λ n n_means. onward (loaded_value l n) (loaded-means w l found.2 v n n_means found.5)))))))

    -- what is put at an address
    pub store_runs : (st : instruction.Store) (offset : ℕ) (at it : Expression) (k : Code) (place put : Option Value) → value s at ≡ place → option_and_then (stored_as st) (value s it) ≡ put →
        QuietTo (cost at + cost it + 1) (put_at (cost at + cost it + 1) s offset (store_width st) place put) w (StandsFor w s)
        (standing module_store (expression_code at (expression_code it (op (o.Store st (unaligned offset)) k))) [] xs contexts) (λ ys. standing module_store k [] ys contexts)
    store_runs st offset at it k None put place_is put_is = tt
    store_runs st offset at it k (Some (Number n)) put place_is put_is = tt
    store_runs st offset at it k (Some (Address (Column i) off)) put place_is put_is = tt
    store_runs st offset at it k (Some (Address (Own i) off)) None place_is put_is = tt
    store_runs st offset at it k (Some (Address (Own i) off)) (Some v) place_is put_is = ⊎_elim
        (λ room. rw room (λ j onward. knowing Q w (StandsFor w s) (cost at + cost it + 1 + j) _ (λ memory h.
        let size = within-is (slice_get s.own i) (off + offset + store_width st) room in
        let area = area_of-sized w s h.fits (Own i) size.0 size.1 in
        let it_is = given-there (stored_as st) (value s it) v put_is in
        let fits : off + offset + store_width st ≤ area.0.size = omega (arith, size.2, area.2) in
        let after : LowState = record s { cells = with_cell s.cells (Own i) (off + offset) (store_width st) v } in
        counted Q w (StandsFor w s) (cost at + (cost it + suc j)) (cost at + cost it + 1 + j) _ (omega arith)
        (expression_runs Q module_store contexts w s xs memory h are at (Address (Own i) off) place_is (expression_code it (op (o.Store st (unaligned offset)) k)) [] (cost it + suc j)
        (λ x x_means. expression_runs Q module_store contexts w s xs memory h are it it_is.0 it_is.1 (op (o.Store st (unaligned offset)) k) (x ∷ []) (suc j)
        (λ y y_means.
        let same : x_means.0 ≡ area.0 = same_Some x_means.0 area.0 (sym x_means.1 ∙ area.1) in
        let place : x + offset ≡ area.0.start + (off + offset) = omega (arith, x_means.3, ap (λ (a : Area). a.start) same) in
        subst (λ (state : State). Comes Q w (StandsFor w s) (suc j) state)
        (sym (settled-unfinished module_store contexts (op (o.Store st (unaligned offset)) k) (y ∷ x ∷ []) xs (λ e. cc)))
        (stores Q w (StandsFor w s) (stable w s) (StandsFor w after) j (config module_store (op (o.Store st (unaligned offset)) k) (y ∷ x ∷ []) xs contexts)
        (area.0.start + (off + offset)) (store_width st) y (standing module_store k [] xs contexts)
        (ap (λ (a : ℕ). Puts a (store_width st) y (standing module_store k [] xs contexts)) place)
        (lies-at w.own i area.0 (off + offset) (store_width st) area.1 fits)
        (λ m stands. (
          omega (arith, fits, stands.inside (Own i) area.0 area.1),
          stored-stands w s m stands i (off + offset) (store_width st) v area.0 area.1 fits y (stored-means w s m stands st it_is.0 v y y_means it_is.2),
        ))
        (onward w xs are))))))))
        (λ no_room. rw no_room tt)
        (cases_Bool (is_within (slice_get s.own i) (off + offset + store_width st)))

    -- ---- a request for pages
    pub runs_on : (code : Code) (operands ys : List ℕ) → code ≢ done → GoesOn (standing module_store code operands ys contexts)
    runs_on code operands ys unfinished = subst GoesOn (sym (settled-unfinished module_store contexts code operands ys unfinished)) tt

    -- after the answer of the growth: three steps to the choice
    pub answered_by : (w' : World) (t : LowState) (found answer x : ℕ) (k : Code) (n : ℕ) → nat_lt x (length xs) ≡ true → truth (found == refusal) ≡ answer →
        Comes Q w' (StandsFor w' t) n (standing module_store (if_then None (raising 3 done) (to_octets x k)) (answer ∷ []) (slice_set xs x found) contexts) →
        Comes Q w' (StandsFor w' t) (suc (suc (suc n))) (standing module_store (on_answer x k) (found ∷ []) xs contexts)
    answered_by w' t found answer x k n room is comes =
        let ys : List ℕ = slice_set xs x found in
        let rest : Code = if_then None (raising 3 done) (to_octets x k) in
        op_goes Q module_store contexts w' t xs (o.LocalTee x) (op (o.Const (const.I32 refusal)) (op (o.Relation I32 Eq) rest)) (found ∷ []) (found ∷ []) ys (suc (suc n)) (rw room refl)
        (op_goes Q module_store contexts w' t ys (o.Const (const.I32 refusal)) (op (o.Relation I32 Eq) rest) (found ∷ []) (refusal ∷ found ∷ []) ys (suc n) refl
        (op_goes Q module_store contexts w' t ys (o.Relation I32 Eq) rest (refusal ∷ found ∷ []) (answer ∷ []) ys n (rw is refl) comes))

    -- the number of pages stands on the operands
    pub asks_for : (e : Expression) (count x : ℕ) (k : Code) → value s e ≡ Some (Number count) → (memory : List ℕ) → StandsFor w s memory → (n : ℕ) →
        Comes Q w (StandsFor w s) n (standing module_store (call 1 (on_answer x k)) (count ∷ []) xs contexts) →
        Comes Q w (StandsFor w s) (cost e + n) (standing module_store (expression_code e (call 1 (on_answer x k))) [] xs contexts)
    asks_for e count x k is memory h n comes = expression_runs Q module_store contexts w s xs memory h are e (Number count) is (call 1 (on_answer x k)) [] n
        (λ word means. subst (λ (m : ℕ). Comes Q w (StandsFor w s) n (standing module_store (call 1 (on_answer x k)) (m ∷ []) xs contexts)) (sym means) comes)

    -- the word of a number or an address leads one way or the other
    pub tests : (e : Expression) (choice : Code) (n : ℕ) → Tells (value s e) n → (m : ℕ) →
        ((word : ℕ) → Alike n word → Comes Q w (StandsFor w s) (suc m) (standing module_store choice (word ∷ []) xs contexts)) →
        Comes Q w (StandsFor w s) (cost e + 1 + m) (standing module_store (expression_code e choice) [] xs contexts)
    tests e choice n tells m onward = knowing Q w (StandsFor w s) (cost e + 1 + m) _ (λ memory h.
        counted Q w (StandsFor w s) (cost e + suc m) (cost e + 1 + m) _ (omega arith)
        (expression_runs Q module_store contexts w s xs memory h are e (told_value (value s e) n tells) (told-is (value s e) n tells) choice [] (suc m)
        (λ word means. onward word (alike w s memory h (value s e) n tells word means))))

    raises_to : HasHosts module_store → (code : ℕ) (k : Code) → IsFine w (Raises code) → (j : ℕ) → Comes Q w (StandsFor w s) j (Raised code) →
        Comes Q w (StandsFor w s) (2 + j) (standing module_store (raising code k) [] xs contexts)
    raises_to imported code k fine j comes = counted Q w (StandsFor w s) (suc (suc j)) (2 + j) _ (omega arith)
        (op_goes Q module_store contexts w s xs (o.Const (const.I32 code)) (call 0 k) [] (code ∷ []) xs (suc j) refl
        (subst (λ (state : State). Comes Q w (StandsFor w s) (suc j) state) (sym (settled-unfinished module_store contexts (call 0 k) (code ∷ []) xs (λ e. cc)))
        (raises Q w (StandsFor w s) (stable w s) j (config module_store (call 0 k) (code ∷ []) xs contexts) code (rw (imported.0) refl) fine comes)))

    pub raise_runs : HasHosts module_store → (code : ℕ) (k : Code) → QuietTo 2 (raised code s) w (StandsFor w s) (standing module_store (raising code k) [] xs contexts) (λ ys. standing module_store k [] ys contexts)
    raise_runs imported zero k = tt
    raise_runs imported (suc zero) k = λ j onward. raises_to imported 1 k (inl refl) j (onward w)
    raise_runs imported (suc (suc zero)) k = λ j onward. raises_to imported 2 k (inr (inl refl)) j (onward w)
    raise_runs imported (suc (suc (suc code))) k = tt

    -- the run is left, through all labels
    pub exit_runs : EndsRun contexts → (k : Code) → QuietTo 1 (Exited 1 s) w (StandsFor w s) (standing module_store (return k) [] xs contexts) (λ ys. standing module_store k [] ys contexts)
    exit_runs ends k = λ j onward. counted Q w (StandsFor w s) (suc j) (1 + j) _ (omega arith)
        (steps_to (return k) [] j Returned (λ e. cc) (rw ends refl) (onward w))
