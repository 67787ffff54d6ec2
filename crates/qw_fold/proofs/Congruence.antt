-- An expression or a condition over parts that stand for others can stand for what is over those.
use Rattle.std.proofs.Common.{ℕ, refl, ◌∙◌}
use Rattle.qw_types.specs.declared.truth.Truth.{Truth}
use Rattle.qw_scalar.specs.declared.expression.Operator.{Operator}
use Rattle.qw_scalar.specs.declared.expression.Field.{Field}
use Rattle.qw_scalar.specs.declared.expression.Predicate.{Predicate}
use Rattle.qw_scalar.specs.declared.comparison.Comparison.{Comparison}
use Rattle.qw_scalar.specs.Expression.{Condition, Expression, arithmetic, negative, extract, brought, choice, comparison, predicate, both, either, negation_of, is}
use Rattle.qw_fold.specs.Inner.Made.{Follows, FollowsTruth}

pub itself : (e : Expression) → Follows e e
itself e = record {
  same = record { value = λ env. refl; kind = refl; scale = refl; units = λ env. refl };
  typed = λ h. h;
  columns = λ columns h. h;
}

pub truth_itself : (c : Condition) → FollowsTruth c c
truth_itself c = record {
  same = record { truth = λ env. refl; units = λ env. refl };
  typed = λ h. h;
  columns = λ columns h. h;
}

pub then : (e f g : Expression) → Follows e f → Follows f g → Follows e g
then e f g p q = record {
  same = record {
    value = λ env. p.same.value env ∙ q.same.value env;
    kind = p.same.kind ∙ q.same.kind;
    scale = p.same.scale ∙ q.same.scale;
    units = λ env. p.same.units env ∙ q.same.units env;
  };
  typed = λ h. q.typed (p.typed h);
  columns = λ columns h. q.columns columns (p.columns columns h);
}

pub truth_then : (c d e : Condition) → FollowsTruth c d → FollowsTruth d e → FollowsTruth c e
truth_then c d e p q = record {
  same = record { truth = λ env. p.same.truth env ∙ q.same.truth env; units = λ env. p.same.units env ∙ q.same.units env };
  typed = λ h. q.typed (p.typed h);
  columns = λ columns h. q.columns columns (p.columns columns h);
}

pub arithmetic_follows : (operator : Operator) (a b x y : Expression) → Follows a x → Follows b y → Follows (arithmetic operator a b) (arithmetic operator x y)
arithmetic_follows operator a b x y p q = record {
  same = record {
    value = λ env. rw (p.same.value env, q.same.value env, p.same.scale, q.same.scale) refl;
    kind = rw (p.same.scale, q.same.scale) refl;
    scale = rw (p.same.scale, q.same.scale) refl;
    units = λ env. rw (p.same.units env, q.same.units env) refl;
  };
  typed = λ h. ((p.typed h.0.0, q.typed h.0.1), rw (← p.same.kind, ← q.same.kind, ← p.same.scale, ← q.same.scale) h.1);
  columns = λ columns h. (p.columns columns h.0, q.columns columns h.1);
}

pub negative_follows : (a x : Expression) → Follows a x → Follows (negative a) (negative x)
negative_follows a x p = record {
  same = record {
    value = λ env. rw (p.same.value env) refl;
    kind = rw (p.same.scale) refl;
    scale = p.same.scale;
    units = p.same.units;
  };
  typed = λ h. (p.typed h.0, rw (← p.same.kind) h.1);
  columns = p.columns;
}

pub extract_follows : (field : Field) (a x : Expression) → Follows a x → Follows (extract field a) (extract field x)
extract_follows field a x p = record {
  same = record {
    value = λ env. rw (p.same.value env) refl;
    kind = refl;
    scale = refl;
    units = p.same.units;
  };
  typed = λ h. (p.typed h.0, rw (← p.same.kind) h.1);
  columns = p.columns;
}

pub brought_follows : (s : ℕ) (a x : Expression) → Follows a x → Follows (brought a s) (brought x s)
brought_follows s a x p = record {
  same = record {
    value = λ env. rw (p.same.value env, p.same.scale) refl;
    kind = rw (p.same.kind) refl;
    scale = refl;
    units = p.same.units;
  };
  typed = λ h. (p.typed h.0, rw (← p.same.scale) h.1);
  columns = p.columns;
}

pub choice_follows : (c d : Condition) (a b x y : Expression) → FollowsTruth c d → Follows a x → Follows b y → Follows (choice c a b) (choice d x y)
choice_follows c d a b x y r p q = record {
  same = record {
    value = λ env. rw (r.same.truth env, p.same.value env, q.same.value env) refl;
    kind = rw (p.same.kind, q.same.kind) refl;
    scale = rw (p.same.scale, q.same.scale) refl;
    units = λ env. rw (r.same.units env, p.same.units env, q.same.units env) refl;
  };
  typed = λ h. (r.typed h.0, ((p.typed h.1.0.0, q.typed h.1.0.1), rw (← p.same.kind, ← q.same.kind) h.1.1));
  columns = λ columns h. (r.columns columns h.0, (p.columns columns h.1.0, q.columns columns h.1.1));
}

pub comparison_follows : (op : Comparison) (a b x y : Expression) → Follows a x → Follows b y → FollowsTruth (comparison op a b) (comparison op x y)
comparison_follows op a b x y p q = record {
  same = record {
    truth = λ env. rw (p.same.value env, q.same.value env, p.same.scale, q.same.scale) refl;
    units = λ env. rw (p.same.units env, q.same.units env, p.same.value env, q.same.value env) refl;
  };
  typed = λ h. ((p.typed h.0.0, q.typed h.0.1), rw (← p.same.kind, ← q.same.kind) h.1);
  columns = λ columns h. (p.columns columns h.0, q.columns columns h.1);
}

pub predicate_follows : (p : Predicate) (a x : Expression) → Follows a x → FollowsTruth (predicate p a) (predicate p x)
predicate_follows p a x f = record {
  same = record { truth = λ env. rw (f.same.value env) refl; units = f.same.units };
  typed = f.typed;
  columns = f.columns;
}

pub both_follows : (c d e f : Condition) → FollowsTruth c e → FollowsTruth d f → FollowsTruth (both c d) (both e f)
both_follows c d e f p q = record {
  same = record {
    truth = λ env. rw (p.same.truth env, q.same.truth env) refl;
    units = λ env. rw (p.same.units env, q.same.units env) refl;
  };
  typed = λ h. (p.typed h.0, q.typed h.1);
  columns = λ columns h. (p.columns columns h.0, q.columns columns h.1);
}

pub either_follows : (c d e f : Condition) → FollowsTruth c e → FollowsTruth d f → FollowsTruth (either c d) (either e f)
either_follows c d e f p q = record {
  same = record {
    truth = λ env. rw (p.same.truth env, q.same.truth env) refl;
    units = λ env. rw (p.same.units env, q.same.units env) refl;
  };
  typed = λ h. (p.typed h.0, q.typed h.1);
  columns = λ columns h. (p.columns columns h.0, q.columns columns h.1);
}

pub negation_follows : (c d : Condition) → FollowsTruth c d → FollowsTruth (negation_of c) (negation_of d)
negation_follows c d p = record {
  same = record { truth = λ env. rw (p.same.truth env) refl; units = p.same.units };
  typed = p.typed;
  columns = p.columns;
}

pub is_follows : (c d : Condition) (t : Truth) → FollowsTruth c d → FollowsTruth (is c t) (is d t)
is_follows c d t p = record {
  same = record { truth = λ env. rw (p.same.truth env) refl; units = p.same.units };
  typed = p.typed;
  columns = p.columns;
}
