-- Mirrors `within_limits` of src/script.rt, and the conversion of token faults.
use Rattle.std.specs.Prelude.{ℕ}
use Rattle.qw_token.specs.declared.token.TokenFault.{TokenFault}
use Rattle.qw_token.specs.declared.token.TokenFault.TheVariants as token_faults
use Rattle.qw_ast.specs.Syntax.{Select}
use Rattle.qw_parse.specs.declared.fault.ParseFault.{ParseFault}
use Rattle.qw_parse.specs.declared.fault.ParseFault.TheVariants.{NotUtf8, NotToken, TooMany, NoMemory}
use Rattle.qw_parse.specs.Script.{IsPassedFirst, Limit, limits}
use Rattle.qw_ast.specs.Limits.{query_columns, query_entries, query_items, query_keys, query_nodes, query_octets}

-- a fault in the tokens of a text, as one of a script
abbrev pub fault_of : TokenFault → ParseFault
fault_of token_faults.NotUtf8 = NotUtf8
fault_of (token_faults.NotToken at) = NotToken at
fault_of token_faults.NoMemory = NoMemory

-- the fault tells the limit that the query passes first
pub data PassesLimit (k : ℕ) (s : Select) : ParseFault → Type 0 where
  passes : (limit : Limit) → IsPassedFirst (limits (query_items s) (query_entries s) (query_columns s) (query_keys s) (query_nodes s) (query_octets s)) limit → PassesLimit k s (TooMany k limit.what limit.most)
