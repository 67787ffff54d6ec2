-- Mirrors `Stack` of stack.rt: its values, the last one first, and how many it has room for.
use Rattle.std.specs.Prelude.{ℕ, List}

pub record Stacked (T : Type 0) : Type 0 where
  pub values : List T
  pub room : ℕ
