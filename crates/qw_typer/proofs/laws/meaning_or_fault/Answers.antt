use Rattle.qw_typer.proofs.LawLemmas.{one_meaning, query_meaning}
use Rattle.qw_typer.proofs.laws.meaning_or_fault.Goals as goal

pub returns : goal.returns
returns c = record {
  meaning = query_meaning;
  no_fault = λ schema s whole names keys m. m.faultless;
  one = one_meaning;
}
