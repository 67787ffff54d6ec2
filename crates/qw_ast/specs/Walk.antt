-- What is made of a tree of a script out of what is made of its parts, from left to right: its sizes, its first token, its set functions.
use Rattle.std.specs.Prelude.{ℕ}
use Rattle.qw_ast.specs.declared.script.SetFunction.{SetFunction}
use Rattle.qw_ast.specs.Syntax.{Expression, signed, arithmetic, extract, searched_case, simple_case, call, set_function, Condition, comparison, between, among, predicate, both, either, negation_of, is, bracketed, Clause, condition, expression, Expressions, last, further, Branching, otherwise, when}

-- What a literal, a column or COUNT(*) comes to; two parts that stand side by side; a construct, by what its parts come to; and a set function at its
-- place, by what its argument comes to. Brackets are what stands in them.
pub record Walk (M : Type 0) : Type 0 where
  pub leaf : Expression → M
  pub join : M → M → M
  pub made : M → M
  pub function : (place : ℕ) → SetFunction → Expression → M → M

abbrev mutual
  pub walked : {M : Type 0} → Walk M → Expression → M
  walked w (signed sign a) = w.made (walked w a)
  walked w (arithmetic operator a b) = w.made (w.join (walked w a) (walked w b))
  walked w (extract field a) = w.made (walked w a)
  walked w (searched_case branches) = w.made (branches_walked w branches)
  walked w (simple_case x branches) = w.made (w.join (walked w x) (branches_walked w branches))
  walked w (call function es) = w.made (all_walked w es)
  walked w (set_function place f a) = w.function place f a (walked w a)
  walked w e = w.leaf e

  pub condition_walked : {M : Type 0} → Walk M → Condition → M
  condition_walked w (comparison op a b) = w.made (w.join (walked w a) (walked w b))
  condition_walked w (between negated x a b) = w.made (w.join (walked w x) (w.join (walked w a) (walked w b)))
  condition_walked w (among negated x es) = w.made (w.join (walked w x) (all_walked w es))
  condition_walked w (predicate p negated a) = w.made (walked w a)
  condition_walked w (both c d) = w.made (w.join (condition_walked w c) (condition_walked w d))
  condition_walked w (either c d) = w.made (w.join (condition_walked w c) (condition_walked w d))
  condition_walked w (negation_of c) = w.made (condition_walked w c)
  condition_walked w (is negated c truth) = w.made (condition_walked w c)
  condition_walked w (bracketed c) = condition_walked w c

  pub clause_walked : {M : Type 0} → Walk M → Clause → M
  clause_walked w (condition c) = condition_walked w c
  clause_walked w (expression e) = walked w e

  pub all_walked : {M : Type 0} → Walk M → Expressions → M
  all_walked w (last e) = walked w e
  all_walked w (further e es) = w.join (walked w e) (all_walked w es)

  pub branches_walked : {M : Type 0} → Walk M → Branching → M
  branches_walked w (otherwise e) = walked w e
  branches_walked w (when c e rest) = w.join (clause_walked w c) (w.join (walked w e) (branches_walked w rest))
