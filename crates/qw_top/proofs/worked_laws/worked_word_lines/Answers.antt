use Rattle.std.proofs.Common.{refl}
use Rattle.qw_top.proofs.worked_laws.worked_word_lines.Goals as goal

pub returns : goal.returns
returns c = record { quantum = refl; pages = refl; steps = refl; statement = refl; seed = refl; rows = refl; null = refl; parts = refl }
