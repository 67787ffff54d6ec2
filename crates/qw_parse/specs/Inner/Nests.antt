-- Mirrors what src/read/rules.rt asks of the function that reads what stands in brackets and in CASE.
use Rattle.std.specs.Prelude.{ℕ, Result}
use denote.Ref.{MutBor}
use Rattle.qw_ast.specs.declared.script.Phrase.{Phrase}
use Rattle.qw_ast.specs.SyntaxTree.{clause_of}
use Rattle.qw_parse.specs.declared.read.parser.Parser.{Parser}
use Rattle.qw_parse.specs.declared.read.parser.Stop.{Stop}
use Rattle.qw_parse.specs.Inner.Parser.{Reads, left}
use Rattle.qw_parse.specs.Inner.Readers.{nested_at}

-- it may be called, and reads a condition or an expression of so many levels
pub record Nests (levels : ℕ) (pre : MutBor Parser → ℕ → Type 0) (post : MutBor Parser → ℕ → Result Phrase Stop → MutBor Parser → Type 0) : Type 0 where
  pub callable : (old : MutBor Parser) → pre old levels
  pub reads : (old new : MutBor Parser) (r : Result Phrase Stop) → post old levels r new → Reads clause_of (nested_at levels (left old.now)) r (left new.now)
