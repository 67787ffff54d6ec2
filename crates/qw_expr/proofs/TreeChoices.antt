-- What the functions over trees make of choices.
use Rattle.std.proofs.Common.{◌≡◌, ℕ, ◌+◌, ◌*◌, ◌≤◌, Bool, List, length, length-append, sym, ap, ◌∙◌, subst, arith}
use Rattle.qw_scalar.specs.declared.expression.Predicate.{Predicate}
use Rattle.qw_scalar.specs.Expression.{Expression, Condition, Choices, case, cases, choice, negation_of, null, predicate, scale_of}
use Rattle.qw_scalar.specs.Typing.{IsTyped, kind_of}
use Rattle.qw_low.specs.declared.cell.Cell.{Cell}
use Rattle.qw_expr.specs.declared.choice.Place.{Place}
use Rattle.qw_expr.specs.declared.emitter.Emitter.{Emitter}
use Rattle.qw_expr.specs.declared.operand.Operand.{Operand}
use Rattle.qw_expr.specs.declared.choice.Started.{Started}
use Rattle.qw_expr.specs.Bindings.{IsServed, TakesKnown}
use Rattle.qw_expr.specs.Computes.{Known, AreBelow}
use Rattle.qw_expr.specs.Emits.{Emits, EmitsTruth, extent, free_of}
use Rattle.qw_expr.specs.Inner.Choices.{Suits, place_types, BeginsChoice, HasFirst}
use Rattle.qw_expr.specs.Inner.Made.{Asks, Includes, Made, MadeTruth, Starts, with_operand}
use Rattle.qw_expr.proofs.Abbreviations.{cases_at}
use Rattle.qw_expr.proofs.Choices.{results_suit}
use Rattle.qw_expr.proofs.ChoicesEmitted.{first_far}
use Rattle.qw_expr.proofs.Nulls.{known_below_more}
use Rattle.qw_expr.proofs.Trees.{includes_same, made_of, operand_emits, served_more, truth_made_of}

-- ---- how far an emitter is
pub begun_grows : (test : ℕ) (text : Bool) (old new : Emitter) (to : Place) → BeginsChoice test text old new to → free_of old ≤ free_of new
begun_grows test text old new to begins =
    let long : length new.own.items ≡ length old.own.items + length (place_types text) = ap length begins.own_is ∙ length-append old.own.items (place_types text) in
    omega (arith, begins.first_is, long)

-- what more know, too, and no more than more
pub made_more : (known base : List Known) (e : Expression) (m most : ℕ) (old new : Emitter) (out : Operand) → Includes known base → IsServed (free_of old) known → Made base e m old new out → m ≤ most → Made known e most old new out
made_more known base e m most old new out all served made room = record {
  emits = λ more include low. made.emits more (λ k among. include k (all k among)) low;
  kind_is = made.kind_is;
  scale_is = made.scale_is;
  scale_low = made.scale_low;
  below = made.below;
  grows = made.grows;
  served = served_more (free_of old) (free_of new) known made.grows served;
  short = omega (arith, made.short);
}

-- ---- what is asked
-- at the scale of the results
pub asks_at : (known : List Known) (text : Bool) (choices : Choices) (s : ℕ) → s ≡ scale_of (case choices) → IsTyped (case choices) → TakesKnown known (case choices) → Suits text (kind_of (case choices)) → Asks known text (cases s choices)
asks_at known text choices s same typed takes suits = subst (λ k. Asks known text (cases k choices)) (sym (cases_at choices s same)) (record { typed = typed; takes = takes; suits = suits })

pub asks_rest : (known : List Known) (text : Bool) (c : Condition) (a b : Expression) → Asks known text (choice c a b) → Asks known text b
asks_rest known text c a b asks = record { typed = asks.typed.1.0.1; takes = asks.takes.1.1; suits = (results_suit text (kind_of a) (kind_of b) asks.typed.1.1 asks.suits).1 }

pub made_at : (known : List Known) (choices : Choices) (s m : ℕ) (old new : Emitter) (out : Operand) → s ≡ scale_of (case choices) → Made known (cases s choices) m old new out → Made known (case choices) m old new out
made_at known choices s m old new out same made = subst (λ k. Made known (cases k choices) m old new out) (cases_at choices s same) made

-- ---- a first result
pub first_made : (known base : List Known) (c : Condition) (a b : Expression) (text : Bool) (m n most : ℕ) (old tested begun cur new : Emitter) (test : Cell) (to : Place) (one first : Operand) → IsServed (free_of old) known → Includes known base → MadeTruth known c m old tested test →
    BeginsChoice test.value text tested begun to → Made base a n begun cur one →
    ((more : List Known) → AreBelow (free_of begun) more → EmitsTruth more c old tested test → Emits more a begun cur one → HasFirst more c b text old new to first) → extent new ≤ extent old + most → Starts known c b text most old new (record { place = to; first = first })
first_made known base c a b text m n most old tested begun cur new test to one first served all mc begins ma goes short =
    let far : free_of old ≤ free_of begun = omega (arith, mc.grows, begun_grows test.value text tested begun to begins) in
    let starts : (more : List Known) → Includes more known → AreBelow (free_of old) more → HasFirst more c b text old new to first = λ more include low.
    let low_begun = known_below_more (free_of old) (free_of begun) more far low in
    goes more low_begun (mc.emits more include low) (ma.emits more (λ k among. include k (all k among)) low_begun) in
    let end = first_far known c b text old new to first (starts known (includes_same known) served.0) in
    record { starts = starts; grows = end; served = served_more (free_of old) (free_of new) known end served; short = short }

-- ---- a whole choice
pub choice_made : (known : List Known) (c : Condition) (a b : Expression) (text : Bool) (m n most : ℕ) (old mid cur new : Emitter) (begun : Started) (second out : Operand) → IsTyped (choice c a b) → IsServed (free_of old) known → Starts known c a text m old mid begun → Made known b n mid cur second →
    ((more : List Known) → AreBelow (free_of old) more → HasFirst more c a text old mid begun.place begun.first → Emits more b mid cur second → Emits more (choice c a b) old new out) → extent new ≤ extent cur + 7 → m + n + 7 ≤ most → Made known (choice c a b) most old new out
choice_made known c a b text m n most old mid cur new begun second out typed served starts mb goes short room =
    made_of known (choice c a b) most old new out typed served (omega (arith, starts.short, mb.short, short, room))
    (λ more include low. goes more low (starts.starts more include low) (mb.emits more include (known_below_more (free_of old) (free_of mid) more starts.grows low)))

-- of a condition, a comparison, and one before what is left; and of a known value
pub branch_room : (m n k : ℕ) → (400 * m + (400 * n + 100)) + 400 * k + 7 ≤ 400 * (1 + m + n + k)
branch_room m n k = omega arith

pub match_room : (m n k : ℕ) → ((400 * m + 130) + (400 * n + 100)) + 400 * k + 7 ≤ 400 * (1 + m + n + k)
match_room m n k = omega arith

pub last_room : (m n k : ℕ) → ((400 * m + 130) + (400 * n + 100)) + (400 * k + 85) + 7 ≤ 400 * (1 + m + n + k)
last_room m n k = omega arith

pub coalesced_room : (m k : ℕ) → 400 * m + (110 + 400 * k + 7) ≤ 400 * (1 + m + k)
coalesced_room m k = omega arith

-- null, and else a known value
pub null_where_made : (known : List Known) (c : Condition) (e : Expression) (x out : Operand) (m most : ℕ) (old tested new : Emitter) (test : Cell) → IsTyped (choice c null e) → IsServed (free_of old) (with_operand e x known) → MadeTruth (with_operand e x known) c m old tested test →
    ((more : List Known) → AreBelow (free_of old) more → EmitsTruth more c old tested test → ((now : Emitter) → free_of old ≤ free_of now → Emits more e now now x) → Emits more (choice c null e) old new out) → extent new ≤ extent old + most → Made (with_operand e x known) (choice c null e) most old new out
null_where_made known c e x out m most old tested new test typed served mc goes short =
    let with = with_operand e x known in
    made_of with (choice c null e) most old new out typed served short
    (λ more include low. goes more low (mc.emits more include low)
    (λ now far. operand_emits known more e x now (served_more (free_of old) (free_of now) with far served) include (known_below_more (free_of old) (free_of now) more far low)))

-- a predicate of a known value that doesn't hold
pub denied_made : (known : List Known) (p : Predicate) (e : Expression) (x : Operand) (most : ℕ) (old mid new : Emitter) (one t : Cell) → IsServed (free_of old) (with_operand e x known) → ((more : List Known) (a : Expression) (start : Emitter) → Emits more a start old x → EmitsTruth more (predicate p a) start mid one) →
    ((more : List Known) (c : Condition) (start : Emitter) → EmitsTruth more c start mid one → EmitsTruth more (negation_of c) start new t) → extent new ≤ extent old + most → MadeTruth (with_operand e x known) (negation_of (predicate p e)) most old new t
denied_made known p e x most old mid new one t served tests turns short =
    truth_made_of (with_operand e x known) (negation_of (predicate p e)) most old new t served short (λ more include low. turns more (predicate p e) old (tests more e old (operand_emits known more e x old served include low)))
