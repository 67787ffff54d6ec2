use Rattle.qw_typer.proofs.TypedLemmas.{typed_query}
use Rattle.qw_typer.proofs.laws.meanings_are_typed.Goals as goal

pub returns : goal.returns
returns c = typed_query
