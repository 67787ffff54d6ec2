-- What the functions over trees make of what they called.
use Rattle.std.proofs.Common.{◌≡◌, ℕ, ◌+◌, ◌*◌, ◌≤◌, List, [], ◌∷◌, length, Result, Ok, Err, IfOk, OnOk, refl, sym, ap, subst, inl, inr, arith}
use Rattle.qw_scalar.specs.declared.expression.Operator.{Operator}
use Rattle.qw_scalar.specs.declared.expression.Operator.TheVariants as op
use Rattle.qw_scalar.specs.Expression.{Expression, Condition, null, number, date, text, column, arithmetic, negative, extract, brought, choice, given, cell, scale_after, scale_of}
use Rattle.qw_scalar.specs.Typing.{IsTyped, ScalesAllowed, kind_of}
use Rattle.qw_low.specs.declared.cell.Cell.{Cell}
use Rattle.qw_low.specs.Syntax as low
use Rattle.qw_expr.specs.declared.emitter.Emitter.{Emitter}
use Rattle.qw_expr.specs.declared.operand.Operand.{Operand}
use Rattle.qw_expr.specs.Bindings.{IsAmong, IsServed}
use Rattle.qw_expr.specs.Cells.{IsBelow}
use Rattle.qw_expr.specs.Computes.{Known, AreBelow}
use Rattle.qw_expr.specs.Emits.{Emits, EmitsTruth, extent, free_of}
use Rattle.qw_expr.specs.Inner.Junctions.{Begins}
use Rattle.qw_expr.specs.Inner.Made.{Includes, Made, MadeTruth, with_operand}
use Rattle.qw_expr.proofs.Abbreviations.{Before, First}
use Rattle.qw_expr.proofs.Emitted.{free_after}
use Rattle.qw_expr.proofs.TruthsEmitted.{truth_after}
use Rattle.qw_expr.proofs.Nulls.{known_below_more}
use Rattle.qw_expr.proofs.Shared.{known_emits, shared_emits, shared_decides}

-- ---- scales
scales_low : (operator : Operator) (sa sb : ℕ) → sa ≤ 18 → sb ≤ 18 → ScalesAllowed operator sa sb → scale_after operator sa sb ≤ 18
scales_low op.Add sa sb la lb h = omega (arith, la, lb)
scales_low op.Subtract sa sb la lb h = omega (arith, la, lb)
scales_low op.Multiply sa sb la lb h = h
scales_low op.Divide sa sb la lb h = la

pub scale_low : (e : Expression) → IsTyped e → scale_of e ≤ 18
scale_low null h = omega arith
scale_low (number v s) h = h.1
scale_low (date d) h = omega arith
scale_low (text t) h = omega arith
scale_low (column i ty) h = h
scale_low (arithmetic operator a b) h = scales_low operator (scale_of a) (scale_of b) (scale_low a h.0.0) (scale_low b h.0.1) h.1.1
scale_low (negative a) h = scale_low a h.0
scale_low (extract field a) h = omega arith
scale_low (brought a s) h = h.1.1
scale_low (choice c a b) h =
    let one = scale_low a h.1.0.0 in
    let other = scale_low b h.1.0.1 in
    omega (arith, one, other)
scale_low (given w k most v) h = h.0.0
scale_low (cell i ty most) h = h.0

-- ---- what is known
pub includes_same : (known : List Known) → Includes known known
includes_same known = λ k among. among

pub served_more : (m n : ℕ) (known : List Known) → m ≤ n → IsServed m known → IsServed n known
served_more m n known le served = (known_below_more m n known le served.0, served.1)

pub described : (n : ℕ) (known : List Known) (k : Known) → IsServed n known → IsAmong k known → (k.operand.kind ≡ kind_of k.expression) × (k.operand.scale ≡ scale_of k.expression)
described n [] k served among = absurd among
described n (first ∷ known) k served (inl same) = subst (λ (x : Known). (x.operand.kind ≡ kind_of x.expression) × (x.operand.scale ≡ scale_of x.expression)) (sym same) (served.1.0)
described n (first ∷ known) k served (inr among) = described n known k (served.0.1, served.1.1) among

-- ---- what is made
pub made_of : (known : List Known) (e : Expression) (most : ℕ) (old new : Emitter) (out : Operand) → IsTyped e → IsServed (free_of old) known → extent new ≤ extent old + most → ((more : List Known) → Includes more known → AreBelow (free_of old) more → Emits more e old new out) → Made known e most old new out
made_of known e most old new out typed served short emits =
    let done = emits known (includes_same known) served.0 in
    let at = free_after known e old new out done in
    record {
      emits = emits;
      kind_is = done.computes.kind_is;
      scale_is = done.computes.scale_is;
      scale_low = subst (λ k. k ≤ 18) (sym done.computes.scale_is) (scale_low e typed);
      below = subst (λ k. IsBelow k out.cell) (sym at) done.computes.below;
      grows = omega (arith, at);
      served = served_more (free_of old) (free_of new) known (omega (arith, at)) served;
      short = short;
    }

pub truth_made_of : (known : List Known) (c : Condition) (most : ℕ) (old new : Emitter) (out : Cell) → IsServed (free_of old) known → extent new ≤ extent old + most → ((more : List Known) → Includes more known → AreBelow (free_of old) more → EmitsTruth more c old new out) → MadeTruth known c most old new out
truth_made_of known c most old new out served short emits =
    let done = emits known (includes_same known) served.0 in
    let at = truth_after known c old new out done in
    record {
      emits = emits;
      below = subst (λ k. IsBelow k out) (sym at) done.decides.below;
      grows = omega (arith, at);
      served = served_more (free_of old) (free_of new) known (omega (arith, at)) served;
      short = short;
    }

-- by what a call promises where it succeeds, and how much it emits
pub if_short : {A E : Type 0} (P Q : A → Type 0) (S : Type 0) (r : Result A E) → ((v : A) → P v → S → Q v) → IfOk r P → OnOk r S → IfOk r Q
if_short P Q S (Ok v) more h short = more v h short
if_short P Q S (Err e) more h short = tt

pub on_made : {A E : Type 0} (P : A → Type 0) (S : Type 0) (r : Result A E) → ((v : A) → P v → S) → IfOk r P → OnOk r S
on_made P S (Ok v) more h = more v h
on_made P S (Err e) more h = tt

-- how much is emitted, by its parts
pub at_most : (n : ℕ) → n ≤ n
at_most n = omega arith

pub four_parts : (a b c d e m i n j : ℕ) → b ≤ a + m → c ≤ b + i → d ≤ c + n → e ≤ d + j → e ≤ a + (m + i + n + j)
four_parts a b c d e m i n j p q r s = omega (arith, p, q, r, s)

pub between_room : (x a b : ℕ) → 400 * x + ((400 * a + 130) + 4 + (400 * b + 130) + 20) ≤ 400 * (1 + x + a + b)
between_room x a b = omega arith

-- a column or a literal
pub leaf_made : (known : List Known) (e : Expression) (now : Emitter) (o : Operand) → IsTyped e → IsServed (free_of now) known → IsAmong (record { expression = e; operand = o }) known → Made known e 400 now now o
leaf_made known e now o typed served among =
    let is = described (free_of now) known (record { expression = e; operand = o }) served among in
    made_of known e 400 now now o typed served (omega arith) (λ more all low. known_emits more e o now low (all (record { expression = e; operand = o }) among) is.0 is.1)

-- two conditions, between which a right side begins
pub begun_at : (e : low.Expression) (old new : Emitter) → Begins e old new → free_of new ≡ free_of old
begun_at e old new begins =
    let long : length new.own.items ≡ length old.own.items = ap length begins.own_is in
    omega (arith, begins.first_is, long)

pub begun_served : (known : List Known) (e : low.Expression) (old new : Emitter) → Begins e old new → IsServed (free_of old) known → IsServed (free_of new) known
begun_served known e old new begins served = subst (λ k. IsServed k known) (sym (begun_at e old new begins)) served

pub junction_made : (known : List Known) (c d e : Condition) (test : low.Expression) (m n most : ℕ) (old mid begun cur new : Emitter) (one two out : Cell) → IsServed (free_of old) known → MadeTruth known c m old mid one → Begins test mid begun → MadeTruth known d n begun cur two →
    ((more : List Known) → AreBelow (free_of old) more → EmitsTruth more c old mid one → EmitsTruth more d begun cur two → EmitsTruth more e old new out) → extent new ≤ extent old + most → MadeTruth known e most old new out
junction_made known c d e test m n most old mid begun cur new one two out served mc begins md goes short =
    truth_made_of known e most old new out served short
    (λ more all low. goes more low (mc.emits more all low) (md.emits more all (subst (λ k. AreBelow k more) (sym (begun_at test mid begun begins)) (known_below_more (free_of old) (free_of mid) more mc.grows low))))

-- ---- an operand that is known beside the rest
pub with_served : (known : List Known) (e : Expression) (m : ℕ) (old new : Emitter) (out : Operand) → Made known e m old new out → IsServed (free_of new) (with_operand e out known)
with_served known e m old new out made = ((made.below, made.served.0), ((made.kind_is, made.scale_is), made.served.1))

more_with : (more known : List Known) (e : Expression) (o : Operand) → Includes more known → Includes (with_operand e o more) (with_operand e o known)
more_with more known e o all k (inl same) = inl same
more_with more known e o all k (inr among) = inr (all k among)

below_with : (n : ℕ) (more : List Known) (e : Expression) (o : Operand) → IsBelow n o.cell → AreBelow n more → AreBelow n (with_operand e o more)
below_with n more e o low all = (low, all)

pub shared_made : (known : List Known) (x e : Expression) (m n most : ℕ) (old mid new : Emitter) (ox out : Operand) → IsTyped e → IsServed (free_of old) known → Made known x m old mid ox → Made (with_operand x ox known) e n mid new out → Before x e → m + n ≤ most → Made known e most old new out
shared_made known x e m n most old mid new ox out typed served mx me before room =
    made_of known e most old new out typed served (omega (arith, mx.short, me.short))
    (λ more all low. shared_emits more x e old mid new ox out low (mx.emits more all low)
    (me.emits (with_operand x ox more) (more_with more known x ox all) (below_with (free_of mid) more x ox mx.below (known_below_more (free_of old) (free_of mid) more mx.grows low))) before.raises before.weighs before.columns)

pub shared_truth_made : (known : List Known) (x : Expression) (c : Condition) (m n most : ℕ) (old mid new : Emitter) (ox : Operand) (out : Cell) → IsServed (free_of old) known → Made known x m old mid ox → MadeTruth (with_operand x ox known) c n mid new out → First x c → m + n ≤ most → MadeTruth known c most old new out
shared_truth_made known x c m n most old mid new ox out served mx mc first room =
    truth_made_of known c most old new out served (omega (arith, mx.short, mc.short))
    (λ more all low. shared_decides more x c old mid new ox out low (mx.emits more all low)
    (mc.emits (with_operand x ox more) (more_with more known x ox all) (below_with (free_of mid) more x ox mx.below (known_below_more (free_of old) (free_of mid) more mx.grows low))) first.raises first.weighs first.columns)

-- the operand that is known, as an expression of its own; what else is known serves too
pub operand_emits : (known more : List Known) (x : Expression) (ox : Operand) (now : Emitter) → IsServed (free_of now) (with_operand x ox known) → Includes more (with_operand x ox known) → AreBelow (free_of now) more → Emits more x now now ox
operand_emits known more x ox now served all low = known_emits more x ox now low (all (record { expression = x; operand = ox }) (inl refl)) (served.1.0.0) (served.1.0.1)

pub operand_made : (known : List Known) (x : Expression) (ox : Operand) (now : Emitter) → IsTyped x → IsServed (free_of now) (with_operand x ox known) → Made (with_operand x ox known) x 0 now now ox
operand_made known x ox now typed served = made_of (with_operand x ox known) x 0 now now ox typed served (omega arith) (λ more all low. operand_emits known more x ox now served all low)

pub rest_served : (n : ℕ) (known : List Known) (x : Expression) (ox : Operand) → IsServed n (with_operand x ox known) → IsServed n known
rest_served n known x ox served = (served.0.1, served.1.1)
