-- Mirrors what the functions of src/read promise: what is left of the tokens, and what was read.
use Rattle.std.specs.Prelude.{◌≡◌, ◌≢◌, Bool, true, false, List, [], ◌∷◌, map, Option, Some, None, Result, Ok, Err}
use Rattle.qw_token.specs.Token.{Lexeme, lexemes}
use Rattle.qw_ast.specs.ScriptGrammar as grammar
use Rattle.qw_ast.specs.ScriptGrammar.{Dated}
use Rattle.qw_ast.specs.SyntaxTree.{days_of, clause_of, expression_of}
use Rattle.qw_parse.specs.declared.read.case.Branch.{Branch}
use Rattle.qw_parse.specs.declared.read.date.Date.{Date}
use Rattle.qw_parse.specs.declared.read.parser.Parser.{Parser}
use Rattle.qw_parse.specs.declared.read.parser.Stop.{Stop}
use Rattle.qw_parse.specs.declared.read.parser.Stop.TheVariants.{NoMemory}

-- what is still to be read
abbrev pub left : Parser → List Lexeme
left p = lexemes p.rest.items

abbrev pub first_of : List Lexeme → Option Lexeme
first_of [] = None
first_of (t ∷ ts) = Some t

abbrev pub behind : List Lexeme → List Lexeme
behind [] = []
behind (t ∷ ts) = ts

abbrev pub is_none : List Lexeme → Bool
is_none [] = true
is_none (t ∷ ts) = false

abbrev pub is_there : {A : Type 0} → Option A → Bool
is_there None = false
is_there (Some x) = true

-- What was read, seen in this way, is what the reader reads, unless memory runs out.
abbrev pub Reads : {A B : Type 0} → (A → B) → Option (B × List Lexeme) → Result A Stop → List Lexeme → Type 0
Reads view outcome (Ok a) new = outcome ≡ Some (view a, new)
Reads view outcome (Err e) new = e ≢ NoMemory → outcome ≡ None

-- the same, where nothing is told of what was read
abbrev pub Passes : Option (List Lexeme) → Result (Unit {0}) Stop → List Lexeme → Type 0
Passes outcome (Ok done) new = outcome ≡ Some new
Passes outcome (Err e) new = outcome ≡ None

-- what was found in values that are there, seen in this way, is the one that is to be found
abbrev pub Finds : {A B : Type 0} → (A → B) → Option B → Result A Stop → Type 0
Finds view outcome (Ok a) = outcome ≡ Some (view a)
Finds view outcome (Err e) = e ≢ NoMemory → outcome ≡ None

-- what a date says
abbrev pub dated : Date → Dated
dated d = record { string = d.string.now; intervals = map days_of d.intervals.items }

-- what WHEN and THEN say
abbrev pub branch_of : Branch → grammar.Branch
branch_of b = record { test = clause_of b.test; result = expression_of b.result }
