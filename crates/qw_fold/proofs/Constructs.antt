-- Predicates and choices over operands that stand for others (ISO/IEC 9075:1992, 6.9, 8.2 to 8.4).
use Rattle.std.proofs.Common.{◌≡◌, ℕ, ◌≤◌, max, inl, inr, refl, sym, ap, subst, arith}
use Rattle.qw_scalar.specs.declared.comparison.Comparison.{Comparison}
use Rattle.qw_scalar.specs.declared.comparison.Comparison.TheVariants.{Equal, GreaterOrEqual, LessOrEqual}
use Rattle.qw_scalar.specs.Expression.{Choices, Condition, Expression, Expressions, last, more, brought, otherwise, when, among, between, case, coalesced, comparison, is_there, largest_result, null, scale_of, unless_among}
use Rattle.qw_fold.specs.Inner.Made.{AllStandAt, Follows, FollowsResults, FollowsTruth, IsBrought, StandsAt}
use Rattle.qw_fold.proofs.Congruence.{both_follows, brought_follows, choice_follows, comparison_follows, either_follows, itself, truth_then}
use Rattle.qw_fold.proofs.Literals.{compared_brought, result_stands}

-- a comparison whose right operand may have been brought
pub compared_stands : (op : Comparison) (s : ℕ) (a b x y : Expression) → Follows a x → StandsAt s b y → FollowsTruth (comparison op a b) (comparison op x y)
compared_stands op s a b x y p q =
    truth_then _ _ _ (comparison_follows op a b x q.between p q.follows) (compared_brought op s x q.between x y (inl refl) q.brought)

pub between_stands : (s : ℕ) (x a b y c d : Expression) → Follows x y → StandsAt s a c → StandsAt s b d → FollowsTruth (between x a b) (between y c d)
between_stands s x a b y c d p q r =
    both_follows _ _ _ _ (compared_stands GreaterOrEqual s x a y c p q) (compared_stands LessOrEqual s x b y d p r)

pub among_stands : (s : ℕ) (x y : Expression) (values others : Expressions) → Follows x y → AllStandAt s values others → FollowsTruth (among x values) (among y others)
among_stands s x y (last v) (last w) p h = compared_stands Equal s x v y w p h
among_stands s x y (last v) (more w ws) p h = absurd h
among_stands s x y (more v vs) (last w) p h = absurd h
among_stands s x y (more v vs) (more w ws) p h =
    either_follows _ _ _ _ (compared_stands Equal s x v y w p h.0) (among_stands s x y vs ws p h.1)

-- at its own scale nothing is brought
own_stays : (s : ℕ) (e b f : Expression) → s ≤ scale_of e → Follows e b → IsBrought s b f → Follows e f
own_stays s e b f own p (inl q) = subst (Follows e) (sym q) p
own_stays s e b f own p (inr r) =
    let scale : scale_of b ≡ r.scale = ap scale_of r.is in
    let same : scale_of e ≡ scale_of b = p.same.scale in
    absurd (omega (arith, r.up, scale, same, own))

own_stands : (s : ℕ) (e f : Expression) → s ≤ scale_of e → StandsAt s e f → Follows e f
own_stands s e f own h = own_stays s e h.between f own h.follows h.brought

pub unless_among_stand : (s : ℕ) (arguments others : Expressions) → s ≡ scale_of (unless_among arguments) → AllStandAt s arguments others → Follows (unless_among arguments) (unless_among others)
unless_among_stand s (last a) (last x) is h =
    let first = own_stands s a x (omega (arith, is)) h in
    subst (λ (k : ℕ). Follows (brought a (scale_of a)) (brought x k)) first.same.scale (brought_follows (scale_of a) a x first)
unless_among_stand s (last a) (more x xs) is h = absurd h
unless_among_stand s (more a others) (last x) is h = absurd h
unless_among_stand s (more a others) (more x xs) is h =
    let own : s ≡ max 0 (scale_of a) = is in
    let first = own_stands s a x (omega (arith, own)) h.0 in
    choice_follows _ _ _ _ _ _ (among_stands s a x others xs first h.1) (itself null) first

pub otherwise_stands : (s : ℕ) (e f : Expression) → StandsAt s e f → FollowsResults s (otherwise e) (otherwise f)
otherwise_stands s e f h =
    let r = result_stands s e f h in
    record { brought = r.brought'; least = r.least; most = r.most }

one_more_least : (a b c d : ℕ) → a ≤ c → b ≤ d → max a b ≤ max c d
one_more_least a b c d p q = omega arith

one_more_most : (a b c d s : ℕ) → (a ≤ s → c ≤ s) → (b ≤ s → d ≤ s) → max a b ≤ s → max c d ≤ s
one_more_most a b c d s p q h =
    let p' = p (omega arith) in
    let q' = q (omega arith) in
    omega arith

pub when_stands : (s : ℕ) (c d : Condition) (e f : Expression) (cs ds : Choices) → FollowsTruth c d → StandsAt s e f → FollowsResults s cs ds →
    FollowsResults s (when c e cs) (when d f ds)
when_stands s c d e f cs ds p h q =
    let r = result_stands s e f h in
    record {
      brought = choice_follows _ _ _ _ _ _ p r.brought' q.brought;
      least = one_more_least (scale_of e) (largest_result cs) (scale_of f) (largest_result ds) r.least q.least;
      most = one_more_most (scale_of e) (largest_result cs) (scale_of f) (largest_result ds) s r.most q.most;
    }

pub coalesced_stand : (s : ℕ) (arguments others : Expressions) → AllStandAt s arguments others → FollowsResults s (coalesced arguments) (coalesced others)
coalesced_stand s (last e) (last f) h = otherwise_stands s e f h
coalesced_stand s (last e) (more f fs) h = absurd h
coalesced_stand s (more e es) (last f) h = absurd h
coalesced_stand s (more e es) (more f fs) h =
    let r = result_stands s e f h.0 in
    when_stands s (is_there e) (is_there f) e f (coalesced es) (coalesced fs) r.there h.0 (coalesced_stand s es fs h.1)

-- the choice's scale stays
pub largest_stays : (s : ℕ) (cs ds : Choices) → s ≡ largest_result cs → FollowsResults s cs ds → largest_result ds ≡ s
largest_stays s cs ds is h =
    let most = h.most (omega arith) in
    omega (arith, h.least)

pub case_follows : (s : ℕ) (cs ds : Choices) → s ≡ largest_result cs → FollowsResults s cs ds → Follows (case cs) (case ds)
case_follows s cs ds is h = rw (largest_stays s cs ds is h, ← is) h.brought
