-- Rounds of turns: turns after turns, and how many instructions are left after each.
use Rattle.std.proofs.Common.{◌≡◌, ◌≢◌, ℕ, zero, suc, ◌+◌, ◌-◌, ◌<◌, ◌≤◌, Bool, true, false, not, ⊎_elim, List, [], ◌∷◌, ◌++◌, length, map, Option, Some, IsSome, is_some, slice_get, slice_set, refl, sym, ap, ◌∙◌, subst, arith, add-one, append_assoc}
use Rattle.std.specs.Prelude.{if◌then◌else◌}
use Rattle.std.specs.List.{list_any}
use Rattle.std.specs.Option.{option_and_then}
use Rattle.std.proofs.lemmas.Bool.{cases_Bool, false≢true}
use Rattle.std.proofs.Math.Nat.{eq-or-lt_of_le}
use Rattle.std.proofs.lemmas.List.{append-nil, map-append}
use Rattle.std.proofs.lemmas.Option.{none-some, same_Some, slice_get_within}
use Rattle.qw_map.specs.Turns.{End, Instance, Shared, EachInstance, IsWhole, steps_of, Act, turn, acted, turns, with_instance}
use Rattle.qw_map.proofs.TurnFacts.{found-in, slice_get-set_same}
use Rattle.qw_map.proofs.TurnSteps.{limits-turns, turn-others, turns-many, turns-whole, unended-runs}
use Rattle.qw_bench.specs.declared.bench.Ended.{Ended}
use Rattle.qw_bench.specs.declared.bench.Seat.{Seat}
use Rattle.qw_bench.specs.Bench.{AreRounds, end_in, ran_in, round, unended_below}
use Rattle.qw_bench.specs.Inner.Rounds.{steps_left}
use Rattle.qw_bench.specs.Bench as rounds
use Rattle.qw_bench.proofs.SeatSteps.{is_some-end_of}
use Rattle.qw_bench.proofs.Serving.{each-whole}
use Rattle.qw_bench.specs.Standing.{IsBench, Standing, end_of}
use Rattle.qw_bench.specs.Inner.Seats.{instance_of}

-- turns after turns
pub turns-append : (xs ys : List Act) (s : Shared) → turns (xs ++ ys) s ≡ turns ys (turns xs s)
turns-append [] ys s = refl
turns-append (x ∷ xs) ys s = turns-append xs ys (acted s x)

-- ---- how many instructions are left
steps_left-set : (xs : List Instance) (k : ℕ) (x old : Instance) → slice_get xs k ≡ Some old →
    steps_left (slice_set xs k x) + (old.most_steps - old.ran) ≡ steps_left xs + (x.most_steps - x.ran)
steps_left-set [] k x old found = absurd (none-some old found)
steps_left-set (y ∷ xs) zero x old found = let same : y ≡ old = same_Some y old found in rw (← same) (omega arith)
steps_left-set (y ∷ xs) (suc k) x old found = omega (arith, steps_left-set xs k x old found)

turn-falls : (s : Shared) (k quantum : ℕ) (i : Instance) → slice_get s.instances k ≡ Some i → i.ran < i.most_steps →
    ran_in s k < ran_in (acted s (turn k quantum)) k → steps_left (acted s (turn k quantum)).instances < steps_left s.instances
turn-falls s k quantum i found below more =
    let x = steps_of quantum i s.common in
    let now : acted s (turn k quantum) ≡ with_instance s k x = rw found refl in
    let put : slice_get (slice_set s.instances k x.0) k ≡ Some x.0 = slice_get-set_same s.instances k x.0 (slice_get_within s.instances k i found) in
    let later : slice_get (acted s (turn k quantum)).instances k ≡ Some x.0 = rw now put in
    let ran : i.ran < x.0.ran = rw (now, put, found) at more in
    let most : x.0.most_steps ≡ i.most_steps = limits-turns s (turn k quantum ∷ []) k i x.0 found later in
    rw now (omega (arith, steps_left-set s.instances k x.0 i found))

-- ---- a round, instance by instance
abbrev round_below : (quantum : ℕ) → Shared → (n : ℕ) → List Act
round_below quantum s n = map (λ (i : ℕ). turn i quantum) (unended_below s n)

-- the instances below k have had their turns of a round that began at s
pub record IsRounding (quantum : ℕ) (s : Shared) (k : ℕ) (now : Shared) : Type 0 where
  pub state : now ≡ turns (map (λ (i : ℕ). turn i quantum) (unended_below s k)) s
  pub rest : (j : ℕ) → k ≤ j → slice_get now.instances j ≡ slice_get s.instances j
  pub many : length now.instances ≡ length s.instances
  pub falls : unended_below s k ≢ [] → steps_left now.instances < steps_left s.instances
  pub less : steps_left now.instances ≤ steps_left s.instances

-- the end of the next instance is what it was
end-kept : (quantum : ℕ) (s : Shared) (k : ℕ) (now : Shared) → IsRounding quantum s k now → end_in s k ≡ end_in now k
end-kept quantum s k now so_far = ap (option_and_then (λ (i : Instance). i.end)) (sym (so_far.rest k (omega arith)))

pub rounding-ended : (quantum : ℕ) (s : Shared) (k : ℕ) (now : Shared) → is_some (end_in now k) ≡ true → IsRounding quantum s k now → IsRounding quantum s (k + 1) now
rounding-ended quantum s k now ended so_far =
    let none : unended_below s (suc k) ≡ unended_below s k = rw (end-kept quantum s k now so_far, ended) (append-nil (unended_below s k)) in
    let next : IsRounding quantum s (suc k) now = record {
      state = rw none so_far.state;
      rest = λ j low. so_far.rest j (omega arith);
      many = so_far.many;
      falls = rw none so_far.falls;
      less = so_far.less;
    } in
    subst (λ (n : ℕ). IsRounding quantum s n now) (sym (add-one k)) next

pub rounding-turn : (quantum : ℕ) (s : Shared) (k : ℕ) (now : Shared) (i : Instance) → slice_get now.instances k ≡ Some i → i.ran < i.most_steps →
    is_some (end_in now k) ≡ false → ran_in now k < ran_in (acted now (turn k quantum)) k → IsRounding quantum s k now → IsRounding quantum s (k + 1) (acted now (turn k quantum))
rounding-turn quantum s k now i found below unended more so_far =
    let one : unended_below s (suc k) ≡ unended_below s k ++ k ∷ [] = rw (end-kept quantum s k now so_far, unended) refl in
    let falls = turn-falls now k quantum i found below more in
    let next : IsRounding quantum s (suc k) (acted now (turn k quantum)) = record {
      state = rw (one, map-append {A = ℕ} {B = Act} (λ i. turn i quantum) (unended_below s k) (k ∷ []), turns-append (round_below quantum s k) (turn k quantum ∷ []) s)
          (ap (λ (x : Shared). acted x (turn k quantum)) so_far.state);
      rest = λ j low. turn-others now k j quantum (λ same. absurd (omega arith)) ∙ so_far.rest j (omega arith);
      many = turns-many now (turn k quantum ∷ []) ∙ so_far.many;
      falls = λ some. omega (arith, so_far.less, falls);
      less = omega (arith, so_far.less, falls);
    } in
    subst (λ (n : ℕ). IsRounding quantum s n (acted now (turn k quantum))) (sym (add-one k)) next

-- the instances of a bench are whole, whatever turns they were given
pub whole-now : (b : Standing) → IsBench b → (acts : List Act) (now : Shared) → now ≡ turns acts b.shared → EachInstance IsWhole now
whole-now b kept acts now is = subst (EachInstance IsWhole) (sym is) (turns-whole b.shared acts (each-whole kept.tables b.tasks b.shared kept.serving))

pub next-below : (b : Standing) → IsBench b → (quantum k : ℕ) (now : Shared) (i : Instance) → IsRounding quantum b.shared k now → slice_get now.instances k ≡ Some i →
    is_some (end_in now k) ≡ false → i.ran < i.most_steps
next-below b kept quantum k now i so_far found unended =
    let whole = whole-now b kept (round_below quantum b.shared k) now so_far.state k i found in
    let none : is_some i.end ≡ false = rw found at unended in
    (unended-runs i whole none i.state refl).2

-- the test that an instance hasn't ended
end-test : (s : Shared) (k : ℕ) (o : Option Ended) (test : Bool) → end_of o ≡ end_in s k → is_some o ≡ test → is_some (end_in s k) ≡ test
end-test s k o test told is = ap (λ (e : Option End). is_some e) (sym told) ∙ is_some-end_of o ∙ is

-- the next instance of a bench had its turn, as it hadn't ended
pub turned-next : (b : Standing) → IsBench b → (quantum k result : ℕ) (self new : Standing) (o : Option Ended) → IsRounding quantum b.shared k self.shared →
    k < length b.shared.instances → end_of o ≡ end_in self.shared k → is_some o ≡ false → new.shared ≡ acted self.shared (turn k quantum) →
    ran_in new.shared k ≡ ran_in self.shared k + result → (result ≡ 0 → IsSome (end_in self.shared k)) →
    IsRounding quantum b.shared (k + 1) new.shared
turned-next b kept quantum k result self new o so_far within told is turned counted none =
    let now = self.shared in
    let unended = end-test now k o false told is in
    let i = found-in now.instances k (omega (arith, so_far.many)) in
    let below = next-below b kept quantum k now i.0 so_far i.1 unended in
    let some : 1 ≤ result = one result (λ zeroth. false≢true (sym unended ∙ none zeroth)) in
    let more : ran_in now k < ran_in (acted now (turn k quantum)) k = rw (← turned) (omega (arith, counted)) in
    rw turned (rounding-turn quantum b.shared k now i.0 i.1 below unended more so_far)
  where
    one : (n : ℕ) → (n ≡ 0 → ⊥) → 1 ≤ n
    one zero some = absurd (some refl)
    one (suc n) some = omega arith

-- it had ended
pub passed-next : (quantum k : ℕ) (s : Shared) (self : Standing) (o : Option Ended) → IsRounding quantum s k self.shared →
    end_of o ≡ end_in self.shared k → is_some o ≡ true → IsRounding quantum s (k + 1) self.shared
passed-next quantum k s self o so_far told is = rounding-ended quantum s k self.shared (end-test self.shared k o true told is) so_far

-- ---- all rounds
-- rounds led from s to this state, and go on with what follows from it
pub record HasRounded (quantum : ℕ) (s now : Shared) : Type 0 where
  pub before : List Act
  pub state : now ≡ turns before s
  pub goes_on : (rest : List Act) → AreRounds quantum rest now → AreRounds quantum (before ++ rest) s

pub rounded-more : (quantum : ℕ) (s now new : Shared) → HasRounded quantum s now → new ≡ turns (round quantum now) now → HasRounded quantum s new
rounded-more quantum s now new so_far is = record {
  before = so_far.before ++ round quantum now;
  state = is ∙ ap (turns (round quantum now)) so_far.state ∙ sym (turns-append so_far.before (round quantum now) s);
  goes_on = λ rest h. rw append_assoc (so_far.goes_on (round quantum now ++ rest) (rounds.first now rest (rw (← is) h)));
}

-- the test over the seats is one over their instances
pub seats-open : (seats : List Seat) → list_any (λ (seat : Seat). not (is_some seat.ended)) seats ≡ list_any (λ (i : Instance). not (is_some i.end)) (map instance_of seats)
seats-open [] = refl
seats-open (seat ∷ seats) = rw (is_some-end_of seat.ended, seats-open seats) refl

any-none : (instances : List Instance) → list_any (λ (i : Instance). not (is_some i.end)) instances ≡ false → (k : ℕ) (i : Instance) → slice_get instances k ≡ Some i → is_some i.end ≡ true
any-none [] none k i found = absurd (none-some i found)
any-none (first ∷ instances) none zero i found = ⊎_elim
    (λ some. ap (λ (x : Instance). is_some x.end) (sym (same_Some first i found)) ∙ some)
    (λ open_end. absurd (false≢true (sym (rw open_end at none))))
    (cases_Bool (is_some first.end))
any-none (first ∷ instances) none (suc k) i found = ⊎_elim
    (λ some. any-none instances (rw some at none) k i found)
    (λ open_end. absurd (false≢true (sym (rw open_end at none))))
    (cases_Bool (is_some first.end))

record IsOpen (instances : List Instance) : Type 0 where
  k : ℕ
  within : k < length instances
  unended : is_some (option_and_then (λ (x : Instance). x.end) (slice_get instances k)) ≡ false

any-some : (instances : List Instance) → list_any (λ (i : Instance). not (is_some i.end)) instances ≡ true → IsOpen instances
any-some [] some = absurd (false≢true some)
any-some (first ∷ instances) some = ⊎_elim
    (λ ended. let further = any-some instances (rw ended at some) in record { k = suc further.k; within = omega (arith, further.within); unended = further.unended })
    (λ open_end. record { k = 0; within = omega arith; unended = open_end })
    (cases_Bool (is_some first.end))

-- which instances have a turn in a round
unended-none : (s : Shared) (n : ℕ) → ((k : ℕ) → k < n → is_some (end_in s k) ≡ true) → unended_below s n ≡ []
unended-none s zero all = refl
unended-none s (suc n) all = rw (unended-none s n (λ k below. all k (omega arith)), all n (omega arith)) refl

empty-append : (xs ys : List ℕ) → xs ++ ys ≡ [] → (xs ≡ []) × (ys ≡ [])
empty-append [] ys none = (refl, none)
empty-append (x ∷ xs) ys none = cc

empty-map : (quantum : ℕ) (xs : List ℕ) → map {A = ℕ} {B = Act} (λ i. turn i quantum) xs ≡ [] → xs ≡ []
empty-map quantum [] none = refl
empty-map quantum (x ∷ xs) none = cc

unended-some : (s : Shared) (n k : ℕ) → k < n → is_some (end_in s k) ≡ false → unended_below s n ≢ []
unended-some s zero k below unended none = absurd (omega arith)
unended-some s (suc n) k below unended none =
    let parts = empty-append (unended_below s n) (if is_some (end_in s n) then [] else n ∷ []) none in
    ⊎_elim
    (λ (here : k ≡ n).
    let open_end : is_some (end_in s n) ≡ false = subst (λ (x : ℕ). is_some (end_in s x) ≡ false) here unended in
    let last : (if is_some (end_in s n) then [] else n ∷ []) ≡ n ∷ [] = rw open_end refl in
    one (sym last ∙ parts.1))
    (λ before. unended-some s n k before unended parts.0)
    (eq-or-lt_of_le (below_suc k n below))
  where
    one : {m : ℕ} → m ∷ [] ≡ [] → ⊥
    one e = cc

    below_suc : (k n : ℕ) → k < suc n → k ≤ n
    below_suc k n h = omega arith

pub all-ended : (s : Shared) → list_any (λ (i : Instance). not (is_some i.end)) s.instances ≡ false → EachInstance (λ i. IsSome i.end) s
all-ended s none k i found = any-none s.instances none k i found

pub no-round : (s : Shared) (quantum : ℕ) → list_any (λ (i : Instance). not (is_some i.end)) s.instances ≡ false → round quantum s ≡ []
no-round s quantum none = ap (map (λ (i : ℕ). turn i quantum)) (unended-none s (length s.instances)
    (λ k below. let i = found-in s.instances k below in rw i.1 (any-none s.instances none k i.0 i.1)))

pub some-round : (s : Shared) (quantum : ℕ) → list_any (λ (i : Instance). not (is_some i.end)) s.instances ≡ true → round quantum s ≢ []
some-round s quantum some none =
    let left = any-some s.instances some in
    unended-some s (length s.instances) left.k left.within left.unended (empty-map quantum (unended_below s (length s.instances)) none)
