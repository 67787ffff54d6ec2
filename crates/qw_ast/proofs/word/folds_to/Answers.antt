use Rattle.std.proofs.Common.{◌≡◌, arith}
use Rattle.std.specs.Prelude.{IsTrue, ◌↔◌}
use Rattle.std.proofs.lemmas.Bool.Decides.{same_from_decides}
use Rattle.std.proofs.lemmas.Grind.{elements}
use Rattle.std.proofs.lemmas.Slice.Eq.{bytes_eq-Decides}
use Rattle.std.specs.Str.{bytes_eq}
use Rattle.qw_ast.specs.Grammar.{folded}
use Rattle.qw_ast.proofs.word.folds_to.Goals as goal

pub returns-then-octets-word : goal.returns-then-octets-word
returns-then-octets-word c =
    let octets = folded c.args.octets.now in
    let word = c.args.word.now in
    let told : IsTrue c.all.result ↔ (octets ≡ word) = grind (arith, elements) in
    same_from_decides c.all.result (bytes_eq octets word) told (bytes_eq-Decides octets word)
