-- What the blocks of a query rest on, the places of its literals and columns, and what stands around them: where free space begins, the literals, the locals and
-- the layout.
use Rattle.std.specs.Prelude.{◌≡◌, ◌≤◌, ℕ, List, [], ◌∷◌, ◌++◌, length, IsUtf8}
use Rattle.std.specs.List.{AllByRecursion, concat}
use Rattle.qw_map.specs.Layout.{descriptor_size}
use Rattle.qw_map.specs.declared.layout.Used.{Used}
use Rattle.qw_low.specs.Steps.{steps_of}
use Rattle.qw_low.specs.Syntax.{Statement}
use Rattle.qw_feed.specs.Room.{space_block}
use Rattle.qw_read.specs.Constants.{SetsAll}
use Rattle.qw_read.specs.Texts.{LeadsToAll}
use Rattle.qw_physical.specs.Coded.{pipeline_of}
use Rattle.qw_physical.specs.declared.pipeline.Pipeline.{Pipeline}
use Rattle.qw_physical.specs.declared.pipeline.ReadColumn.{ReadColumn}
use Rattle.qw_compile.specs.Placed.{ArePlaced, CanPlace}
use Rattle.qw_compile.specs.QueryLiterals.{query_words}
use Rattle.qw_compile.specs.QueryLocals.{own_start, query_locals}
use Rattle.qw_compile.specs.QueryMade.{ArePlacesOf, literal_locals, texts_by, words_by}
use Rattle.qw_compile.specs.declared.courses.Emitted.{Emitted}
use Rattle.qw_compile.specs.declared.query_statement.QueryStatement.{QueryStatement}
use Rattle.qw_compile_whole.specs.declared.statement_around.PlacedPasses.{PlacedPasses}

-- pipelines, and what is behind them, with the places of all their literals and of their columns
pub record ArePlacedPasses (tables : ℕ) (texts : List (List ℕ)) (ps : List Pipeline) (behind : Pipeline) (columns : List ReadColumn) (made : PlacedPasses) : Type 0 where
  pub are : ArePlacesOf tables texts (ps ++ behind ∷ []) columns made.places
  pub short : length (concat made.places.texts.items) ≤ 16384
  pub first_is : made.first ≡ own_start tables (literal_locals texts (ps ++ behind ∷ [])) (length columns)
  pub placed : ArePlaced made.places made.first
  pub pipelines_are : made.pipelines.items ≡ ps
  pub behind_is : made.behind ≡ behind
  pub can : AllByRecursion (λ (p : Pipeline). CanPlace made.places (pipeline_of p)) made.pipelines.items

-- what was emitted, with all that stands around it
pub record IsAround (tables : ℕ) (texts : List (List ℕ)) (ps : List Pipeline) (columns : List ReadColumn) (used : List Used) (emitted : Emitted) (made : QueryStatement) : Type 0 where
  pub leads : Statement
  pub sets : Statement
  pub leads_all : LeadsToAll (texts_by tables (length columns) texts) leads
  pub sets_all : SetsAll (words_by tables texts ps) sets
  pub code_is : made.block.code.items ≡ steps_of (space_block (descriptor_size made.layout)) ++ (steps_of leads ++ (steps_of sets ++ emitted.block.code.items))
  pub locals_are : made.locals.items ≡ query_locals tables (length texts) (length (query_words ps)) columns emitted.own.items
  pub layout_is : made.layout ≡ record { columns = used; literals = concat texts; cells = emitted.kinds.items }
  pub utf8 : AllByRecursion IsUtf8 texts
