-- Mirrors the conversions of token faults.
use Rattle.qw_schema.specs.declared.parse.SchemaFault.{SchemaFault}
use Rattle.qw_schema.specs.declared.parse.SchemaFault.TheVariants as schema_faults
use Rattle.qw_token.specs.declared.token.TokenFault.{TokenFault}
use Rattle.qw_token.specs.declared.token.TokenFault.TheVariants.{NotUtf8, NotToken, NoMemory}

-- a fault in the tokens of a text, as one of a schema
abbrev pub schema_fault_of : TokenFault → SchemaFault
schema_fault_of NotUtf8 = schema_faults.NotUtf8
schema_fault_of (NotToken at) = schema_faults.NotToken at
schema_fault_of NoMemory = schema_faults.NoMemory
